-- `arbiter_of` meets its contract. Assumes nothing.
use Rattle.store.specs.Held.{arbiter_of}
use Rattle.store.proofs.arbiter_of.Goals as goal

pub returns : goal.returns
unfolding arbiter_of
returns c =
    rw (c.dword.ensures, c.group_at.ensures, c.level_at.ensures, c.level_at-2.ensures, c.level_at-3.ensures)
