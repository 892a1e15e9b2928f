-- `bellrafter_look_cq` meets its contract. Assumes nothing.
use mathlib.Core.Path.{◌∙◌}
use Rattle.store.specs.Held.{held}
use Rattle.rig.proofs.Exports.{cq_1, cq_9, cq_0}
use Rattle.rig.proofs.state.bellrafter_look_cq.Goals as goal

pub returns-then-id-gt-LAST_QUEUE : goal.returns-then-id-gt-LAST_QUEUE
returns-then-id-gt-LAST_QUEUE c =
    c.no_cq.ensures ∙ cq_1 (held c.args.state.now) _ c.if-id-gt-LAST_QUEUE.true

pub returns-then-not-r : goal.returns-then-not-r
returns-then-not-r c =
    c.no_cq-then-not-r.ensures ∙ cq_9 (held c.args.state.now) _ c.if-id-gt-LAST_QUEUE.false c.cq_at-q.ensures c.if-not-r.true

pub returns : goal.returns
returns c =
    cq_0 (held c.args.state.now) _ c.if-id-gt-LAST_QUEUE.false c.cq_at-q.ensures c.if-not-r.false
