-- Each call leaves words that calls lead to. Assumes nothing.
use Rattle.std.proofs.Common.{[]}
use Rattle.controller.specs.Calls.{head_write}
use Rattle.store.proofs.Fresh.{reached_call}
use Rattle.rounds.proofs.held.Goals as goal

pub loop-i-preserved : goal.loop-i-preserved
loop-i-preserved c =
    let e = c.head_write.ensures in
    reached_call [] (head_write _ _) c.loop-i.invariant e.0 (e.1 [])
