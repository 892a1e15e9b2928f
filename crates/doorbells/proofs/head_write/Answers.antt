-- `head_write` meets its contract. Assumes nothing.
use mathlib.Core.List.{[]}
use mathlib.Core.Path.{sym, ◌∙◌}
use native.Mathlib.Omega.{arith}
use Rattle.rules.proofs.Tests.{not_no}
use Rattle.store.specs.Held.{held}
use Rattle.doorbells.proofs.Writes.{head_low, head_1, head_9, head_10, head_0, cq_ok}
use Rattle.doorbells.proofs.head_write.Goals as goal

pub returns-then-id-gt-LAST_QUEUE : goal.returns-then-id-gt-LAST_QUEUE
returns-then-id-gt-LAST_QUEUE c =
    (c.requires.sound, λ m. head_1 _ _ _ m c.if-id-gt-LAST_QUEUE.true)

pub returns-then-not-q : goal.returns-then-not-q
returns-then-not-q c =
    (c.requires.sound, λ m. head_9 (held c.args.state.now) _ _ m c.if-id-gt-LAST_QUEUE.false c.cq_at-q.ensures c.if-not-q.true)

pub returns-then-not-takes_head : goal.returns-then-not-takes_head
returns-then-not-takes_head c = (
  c.requires.sound,
  λ m. head_10 (held c.args.state.now) _ _ m c.if-id-gt-LAST_QUEUE.false c.cq_at-q.ensures c.if-not-q.false
      c.takes_head.ensures c.if-not-takes_head.true-raw,
)

pub overflow_cast-value : goal.overflow_cast-value
overflow_cast-value c =
    let l =
    head_low _
    (cq_ok (held c.args.state.now) _ c.args.value [] c.if-id-gt-LAST_QUEUE.false c.cq_at-q.ensures c.if-not-q.false
    c.requires.reachable)
    _ (sym c.takes_head.ensures ∙ not_no _ c.if-not-takes_head.false-raw) in
    record { fits = omega arith }

pub returns : goal.returns
returns c =
    let p = c.put_cq_head.ensures in (
      p.sound,
      λ m. head_0 (held c.args.state.now) _ _ m c.if-id-gt-LAST_QUEUE.false c.cq_at-q.ensures c.if-not-q.false
          c.takes_head.ensures c.if-not-takes_head.false-raw p.is,
    )

pub takes_head-requires : goal.takes_head-requires
takes_head-requires c =
    cq_ok (held c.args.state.now) _ c.args.value [] c.if-id-gt-LAST_QUEUE.false c.cq_at-q.ensures c.if-not-q.false
    c.requires.reachable
