-- `put_answer` meets its contract: five stores, one after the other. Assumes nothing.
use Rattle.replay.proofs.Playing.{joined}
use Rattle.replay.proofs.put_answer.Goals as goal
use Rattle.replay.proofs.put_answer.Goals.{in-Ok, in-Err}

pub returns : goal.returns
returns c =
    rw (c.put-5.ensures, c.put-4.ensures, c.put-3.ensures, c.put-2.ensures, c.put.ensures)
    (elim c.match-answer.branch [
      | in-Ok w ↦ rw (w.in-Ok.is, w.refusal-is) (joined _ _ _ _ _ c.requires)
      | in-Err w ↦ rw (w.in-Err.is, w.refusal-is, w.number.ensures) (joined _ _ _ _ _ c.requires)
    ])
