use Rattle.ring.proofs.Doorbells.{head_beyond, head_steps}
use Rattle.ring.proofs.doorbell.valid_head.Goals as goal

pub returns-then-size-value : goal.returns-then-size-value
returns-then-size-value c =
    let a = c.args in head_beyond a.size a.head a.tail a.value c.if-size-value.true

pub returns : goal.returns
returns c =
    let a = c.args in
    rw (c.distance_in-steps.ensures, c.distance_in.ensures)
    (head_steps a.size a.head a.tail a.value c.requires.0 c.requires.1 c.if-size-value.false)
