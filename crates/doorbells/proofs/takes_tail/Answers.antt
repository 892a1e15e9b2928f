-- `takes_tail` meets its contract. Assumes nothing.
use Rattle.doorbells.proofs.takes_tail.Goals as goal

pub valid_tail-requires : goal.valid_tail-requires
valid_tail-requires c =
    let k = c.requires in
    (k.head_below, k.tail_below, k.high)
