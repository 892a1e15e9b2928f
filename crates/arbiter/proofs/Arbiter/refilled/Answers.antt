-- `arbiter::Arbiter::refilled` meets its contract. Assumes nothing.
use Rattle.arbiter.proofs.Arbiter.refilled.Goals as goal

pub returns : goal.returns
returns c =
    cc
