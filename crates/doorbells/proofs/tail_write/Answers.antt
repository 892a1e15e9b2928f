-- `tail_write` meets its contract. Assumes nothing.
use mathlib.Core.List.{[]}
use mathlib.Core.Path.{sym, ◌∙◌}
use native.Mathlib.Omega.{arith}
use Rattle.rules.proofs.Tests.{not_no}
use Rattle.store.specs.Held.{held}
use Rattle.doorbells.proofs.Writes.{tail_low, tail_1, tail_9, tail_11, tail_10, tail_0, sq_ok}
use Rattle.doorbells.proofs.tail_write.Goals as goal

pub returns-then-id-gt-LAST_QUEUE : goal.returns-then-id-gt-LAST_QUEUE
returns-then-id-gt-LAST_QUEUE c =
    (c.requires.sound, λ m. tail_1 _ _ _ m c.if-id-gt-LAST_QUEUE.true)

pub returns-then-not-q : goal.returns-then-not-q
returns-then-not-q c =
    (c.requires.sound, λ m. tail_9 (held c.args.state.now) _ _ m c.if-id-gt-LAST_QUEUE.false c.sq_at-q.ensures c.if-not-q.true)

pub returns-then-q : goal.returns-then-q
returns-then-q c = (
  c.requires.sound,
  λ m. tail_11 (held c.args.state.now) _ _ m c.if-id-gt-LAST_QUEUE.false c.sq_at-q.ensures c.if-not-q.false c.if-q.true,
)

pub returns-then-not-takes_tail : goal.returns-then-not-takes_tail
returns-then-not-takes_tail c =
    let p = c.mark_sq.ensures in (
      p.sound,
      λ m. tail_10 (held c.args.state.now) _ _ m c.if-id-gt-LAST_QUEUE.false c.sq_at-q.ensures c.if-not-q.false c.if-q.false
          c.takes_tail.ensures c.if-not-takes_tail.true-raw p.is,
    )

pub overflow_cast-value : goal.overflow_cast-value
overflow_cast-value c =
    let l =
    tail_low _
    (sq_ok (held c.args.state.now) _ c.args.value [] c.if-id-gt-LAST_QUEUE.false c.sq_at-q.ensures c.if-not-q.false
    c.requires.reachable)
    _ (sym c.takes_tail.ensures ∙ not_no _ c.if-not-takes_tail.false-raw) in
    record { fits = omega arith }

pub returns : goal.returns
returns c =
    let p = c.put_sq_tail.ensures in (
      p.sound,
      λ m. tail_0 (held c.args.state.now) _ _ m c.if-id-gt-LAST_QUEUE.false c.sq_at-q.ensures c.if-not-q.false c.if-q.false
          c.takes_tail.ensures c.if-not-takes_tail.false-raw p.is,
    )

pub takes_tail-requires : goal.takes_tail-requires
takes_tail-requires c =
    sq_ok (held c.args.state.now) _ c.args.value [] c.if-id-gt-LAST_QUEUE.false c.sq_at-q.ensures c.if-not-q.false
    c.requires.reachable
