-- `reset` meets its contract. Assumes nothing.
use borrow.Author.Tests.{lt-ltb, le-ltb}
use Rattle.rules.specs.Rules.{settle}
use Rattle.controller.specs.State.{new_refusal, new_controller}
use Rattle.store.proofs.reset.Goals as goal

pub returns-then-mechanism-gt1 : goal.returns-then-mechanism-gt1
unfolding new_refusal new_controller settle
returns-then-mechanism-gt1 c =
    let e = lt-ltb _ _ c.if-mechanism-gt1.true in (rw e, rw e c.refresh.ensures)

pub returns : goal.returns
unfolding new_refusal new_controller settle
returns c =
    let e = le-ltb _ _ c.if-mechanism-gt1.false in (rw e, rw e c.refresh-2.ensures)
