-- `store_numbers` meets its contract. Assumes nothing.
use mathlib.Core.Path.{sym, ap, ◌∙◌}
use native.Mathlib.Omega.{arith}
use lib.ListN.{length, length-set}
use Rattle.parse.specs.Values.{number_up_to}
use Rattle.parse.proofs.Lines.{words_next}
use Rattle.parse.proofs.Storing.{begun, left_as, finished, missing, one_more, one_bad}
use Rattle.parse.proofs.Reading.{each_over, each_next}
use Rattle.parse.proofs.arguments.store_numbers.Goals as goal

pub loop-at-init : goal.loop-at-init
loop-at-init c =
    (omega arith, c.requires.1, begun _ _ _)

pub returns-then-start-stop : goal.returns-then-start-stop
returns-then-start-stop c =
    finished (left_as c.loop-at.invariant.2 (each_over c.next_word-w.ensures (number_up_to c.args.largest) c.if-start-stop.true))

pub returns-in_err-n : goal.returns-in_err-n
returns-in_err-n c =
    let n = each_next c.next_word-w.ensures c.if-start-stop.false (number_up_to c.args.largest) in
    let m = missing _ _ _ _ c.in_err-n.ensures.value c.from_residual.ensures.1 in
    rw m.1 (one_bad _ _ (left_as c.loop-at.invariant.2 n) (sym c.value_up_to.ensures ∙ m.0))

pub bounds-numbers-end : goal.bounds-numbers-end
bounds-numbers-end c =
    let l = ap length (words_next c.next_word-w.ensures c.if-start-stop.false) in
    omega (arith, c.loop-at.invariant.1, l)

pub loop-at-preserved : goal.loop-at-preserved
loop-at-preserved c =
    let loop = c.loop-at in
    let w = c.next_word-w in
    let n = each_next w.ensures c.if-start-stop.false (number_up_to c.args.largest) in
    let l = ap length (words_next w.ensures c.if-start-stop.false) in
    let more = one_more _ _ (left_as loop.invariant.2 n) _ (sym c.value_up_to.ensures ∙ c.in_ok-n.ensures.ok_part) in
    (w.ensures.inside, simp length-set (omega (arith, loop.invariant.1, l)), more)
