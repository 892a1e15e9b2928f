-- `takes_head` meets its contract. Assumes nothing.
use Rattle.doorbells.proofs.takes_head.Goals as goal

pub valid_head-requires : goal.valid_head-requires
valid_head-requires c =
    let k = c.requires in
    (k.head_below, k.tail_below, k.high)
