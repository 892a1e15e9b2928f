-- Each call leaves words that calls lead to. Assumes nothing.
use Rattle.std.proofs.Common.{[]}
use Rattle.controller.specs.Calls.{tail_write}
use Rattle.store.proofs.Fresh.{reached_call}
use Rattle.rounds.proofs.tails.Goals as goal

pub loop-i-preserved : goal.loop-i-preserved
loop-i-preserved c =
    let e = c.tail_write.ensures in
    reached_call [] (tail_write _ _) c.loop-i.invariant e.0 (e.1 [])
