-- `answer` meets its contract: the record is read, its call made, and its answer put into the room. Assumes nothing.
use Rattle.replay.proofs.Playing.{recorded}
use Rattle.replay.proofs.answer.Goals as goal

pub returns : goal.returns
returns c =
    let e = c.execute-a.ensures in
    record {
      reached = e.reached;
      fact = recorded _ _ _ _ _ c.requires.1 c.read.ensures.value e.memory_after c.get.ensures.0 c.put_answer.ensures;
    }
