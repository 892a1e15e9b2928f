-- `arbiter::Level::is_ready` meets its contract. Assumes nothing.
use Rattle.arbiter.specs.Arbiter.{ready}
use Rattle.arbiter.proofs.Level.is_ready.Goals as goal

pub returns : goal.returns
unfolding ready
returns c =
    cc
