-- `level_at` meets its contract. Assumes nothing.
use Rattle.store.proofs.level_at.Goals as goal

pub returns : goal.returns
returns c =
    rw (c.group_at.ensures, c.dword.ensures)
