-- `arbiter::Arbiter::refilled_if_due` meets its contract. Assumes nothing.
use Rattle.arbiter.proofs.Levels.{due_refilled, not_due_kept}
use Rattle.arbiter.proofs.Arbiter.refilled_if_due.Goals as goal

pub returns-then-some_waits-some_ready : goal.returns-then-some_waits-some_ready
returns-then-some_waits-some_ready c =
    due_refilled _ _ c.some_waits.ensures c.some_ready.ensures c.refilled.ensures
    c.if-some_waits-some_ready.true

pub returns-else-some_waits-some_ready : goal.returns-else-some_waits-some_ready
returns-else-some_waits-some_ready c =
    not_due_kept _ _ c.some_waits.ensures c.some_ready.ensures c.if-some_waits-some_ready.false
