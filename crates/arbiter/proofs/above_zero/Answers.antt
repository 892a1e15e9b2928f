-- `arbiter::above_zero` meets its contract. Assumes nothing.
use Rattle.arbiter.proofs.above_zero.Goals as goal

pub returns-in-Left : goal.returns-in-Left
returns-in-Left c =
    cc
