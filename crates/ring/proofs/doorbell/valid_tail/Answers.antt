use Rattle.ring.proofs.Doorbells.{tail_beyond, tail_steps}
use Rattle.ring.proofs.doorbell.valid_tail.Goals as goal

pub returns-then-size-value : goal.returns-then-size-value
returns-then-size-value c =
    let a = c.args in tail_beyond a.size a.head a.tail a.value c.if-size-value.true

pub returns : goal.returns
returns c =
    let a = c.args in
    rw (c.distance_in.ensures, c.distance_in-2.ensures)
    (tail_steps a.size a.head a.tail a.value c.requires.0 c.requires.1 c.if-size-value.false)
