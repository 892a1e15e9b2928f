-- A call leaves words that calls lead to. Assumes nothing.
use Rattle.std.proofs.Common.{[]}
use Rattle.controller.specs.Calls.{tail_write, head_write}
use Rattle.store.proofs.Fresh.{reached_call}
use Rattle.rounds.proofs.write.Goals as goal

pub returns-in-Tail : goal.returns-in-Tail
returns-in-Tail c =
    let e = c.tail_write.ensures in
    reached_call [] (tail_write _ _) c.requires e.0 (e.1 [])

pub returns-in-Head : goal.returns-in-Head
returns-in-Head c =
    let e = c.head_write.ensures in
    reached_call [] (head_write _ _) c.requires e.0 (e.1 [])
