-- `arbiter::Arbiter::some_ready` meets its contract. Assumes nothing.
use Rattle.arbiter.specs.Arbiter.{some_ready}
use Rattle.arbiter.proofs.Arbiter.some_ready.Goals as goal

pub returns : goal.returns
unfolding some_ready
returns c =
    cc
