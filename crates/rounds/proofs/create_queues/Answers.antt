-- Each creation leaves words that calls lead to. Assumes nothing.
use Rattle.controller.specs.Calls.{create_cq, create_sq}
use Rattle.store.proofs.Fresh.{reached_call}
use Rattle.rounds.proofs.create_queues.Goals as goal

pub create_sq-requires : goal.create_sq-requires
create_sq-requires c =
    let e = c.create_cq.ensures in
    reached_call _ (create_cq _ _ _) c.loop-id.invariant e.0 e.1

pub loop-id-preserved : goal.loop-id-preserved
loop-id-preserved c =
    let d = c.create_cq.ensures in
    let e = c.create_sq.ensures in
    reached_call _ (create_sq _ _ _ _ _) (reached_call _ (create_cq _ _ _) c.loop-id.invariant d.0 d.1) e.0 e.1
