-- `ring_at` meets its contract. Assumes nothing.
use Rattle.store.proofs.ring_at.Goals as goal

pub returns : goal.returns
returns c =
    cc
