-- Each start and each finish leaves words that calls lead to. Assumes nothing.
use Rattle.controller.specs.Calls.{start, finish}
use Rattle.store.proofs.Fresh.{reached_call}
use Rattle.rounds.proofs.start_and_finish.Goals as goal

pub loop-init : goal.loop-init
loop-init c =
    let e = c.start.ensures in
    reached_call _ start c.loop-i.invariant e.0 e.1

pub loop-preserved : goal.loop-preserved
loop-preserved c =
    let e = c.finish-finished.ensures in
    reached_call _ (finish _ _ _) c.loop.invariant e.0 e.1
