-- `replay` meets its contract: each turn of the loop answers one record. Assumes nothing.
use borrow.Author.Rules.{rules}
use Prim.Native.Nat.{◌<◌, ◌≤◌}
use mathlib.Core.Path.{refl}
use native.Mathlib.Omega.{arith}
use lib.ListN.{length}
use Rattle.trace.specs.Trace.{begun, next_at}
use Rattle.replay.proofs.Playing.{begins, ends, room_now, goes_on, refused, accepted}
use Rattle.replay.proofs.replay.Goals as goal

pub overflow_mul-n : goal.overflow_mul-n
unfolding begun
overflow_mul-n c =
    omega (arith, c.records_in-n.ensures)

pub returns-then-answers-n : goal.returns-then-answers-n
returns-then-answers-n c =
    (c.requires.sound, refused _ _ _ _ (rw (← c.records_in-n.ensures) c.if-answers-n.true))

pub loop-i-init : goal.loop-i-init
loop-i-init c =
    (c.requires, begins _ _ _ _ (rw (← c.records_in-n.ensures) c.if-answers-n.false), omega arith, refl, refl)

pub answer-requires : goal.answer-requires
unfolding begun
answer-requires c =
    let i = c.loop-i.invariant in
    let l : c.loop-i.at < length c.args.trace.now = omega (arith, c.records_in-n.ensures, i.2) in
    (i.0, l, room_now i.1 l)

pub loop-i-preserved : goal.loop-i-preserved
unfolding begun next_at
loop-i-preserved c =
    let i = c.loop-i.invariant in
    let l : c.loop-i.at < length c.args.trace.now = omega (arith, c.records_in-n.ensures, i.2) in
    let e = c.answer.ensures in
    let n = c.next_at-at.ensures in
    (e.reached, rw (n, e.fact.0, e.fact.1, e.fact.2) (goes_on i.1 l), omega (arith, n, i.2), search rules, search rules)

pub returns : goal.returns
unfolding begun
returns c =
    let i = c.loop-i.invariant in
    let n = c.records_in-n.ensures in
    let h : length c.args.trace.now ≤ c.loop-i.at = omega (arith, n, i.2) in
    (i.0.sound, accepted _ _ _ _ (rw (← n) c.if-answers-n.false) n (ends i.1 h))
