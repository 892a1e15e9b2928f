-- `bellrafter_look_sq` meets its contract. Assumes nothing.
use mathlib.Core.Path.{◌∙◌}
use Rattle.store.specs.Held.{held}
use Rattle.rig.proofs.Exports.{bit_is, sq_1, sq_9, sq_0}
use Rattle.rig.proofs.state.bellrafter_look_sq.Goals as goal

pub returns-then-id-gt-LAST_QUEUE : goal.returns-then-id-gt-LAST_QUEUE
returns-then-id-gt-LAST_QUEUE c =
    c.no_sq.ensures ∙ sq_1 (held c.args.state.now) _ c.if-id-gt-LAST_QUEUE.true

pub returns-then-not-r : goal.returns-then-not-r
returns-then-not-r c =
    c.no_sq-then-not-r.ensures ∙ sq_9 (held c.args.state.now) _ c.if-id-gt-LAST_QUEUE.false c.sq_at-q.ensures c.if-not-r.true

pub returns : goal.returns
returns c =
    sq_0 (held c.args.state.now) _ c.if-id-gt-LAST_QUEUE.false c.sq_at-q.ensures c.if-not-r.false (c.from.ensures ∙ bit_is _)
