-- `store_fixed` meets its contract. Assumes nothing.
use mathlib.Core.Path.{◌≡◌, refl, sym, ap, ◌∙◌}
use Prim.Native.Nat.{ℕ}
use native.Mathlib.Omega.{arith}
use lib.ListN.{length, drop}
use Rattle.parse.specs.Line.{words_of}
use Rattle.parse.proofs.Lines.{words_next}
use Rattle.parse.proofs.Storing.{begun, left_as, finished, failed, missing, one_more, one_bad}
use Rattle.parse.proofs.Reading.{drop_next, fixed_few, fixed_next, fixed_all}
use Rattle.parse.proofs.Givens.{fixed_good, fixed_bad}
use Rattle.parse.proofs.arguments.store_fixed.Goals as goal

pub loop-i-init : goal.loop-i-init
loop-i-init c =
    (omega arith, refl, begun _ _ _)

pub returns-then-start-end : goal.returns-then-start-end
returns-then-start-end c =
    let l = c.loop-i in
    let f = fixed_few c.next_word-w.ensures c.args.largest.now l.i c.loop-i-test.true c.if-start-end.true in
    fixed_bad (failed (left_as l.invariant.2 f))

pub returns-in_err-n : goal.returns-in_err-n
returns-in_err-n c =
    let l = c.loop-i in
    let f = fixed_next c.next_word-w.ensures c.if-start-end.false c.args.largest.now l.i c.loop-i-test.true in
    let m = missing _ _ _ _ c.in_err-n.ensures.value c.from_residual.ensures.1 in
    rw m.1 (fixed_bad (one_bad _ _ (left_as l.invariant.2 f) (sym c.value_up_to.ensures ∙ m.0)))

pub loop-i-preserved : goal.loop-i-preserved
loop-i-preserved c =
    let l = c.loop-i in
    let w = c.next_word-w in
    let f = fixed_next w.ensures c.if-start-end.false c.args.largest.now l.i c.loop-i-test.true in
    let n = words_next w.ensures c.if-start-end.false in
    let more = one_more _ _ (left_as l.invariant.2 f) _ (sym c.value_up_to.ensures ∙ c.in_ok-n.ensures.ok_part) in
    (w.ensures.inside, drop_next _ _ _ l.i (l.invariant.1 ∙ n), more)

pub returns : goal.returns
returns c =
    let l = c.loop-i in
    let e : l.i ≡ length c.args.largest.now = omega arith in
    fixed_good (finished (left_as l.invariant.2 (fixed_all c.args.largest.now l.i _ c.loop-i-test.false))) l.invariant.0
    (sym l.invariant.1 ∙ ap (λ (j : ℕ). drop j (words_of (drop c.args.at c.args.line.now))) e)
