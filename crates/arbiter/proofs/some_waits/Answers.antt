-- `arbiter::some_waits` meets its contract. Assumes nothing.
use Rattle.arbiter.specs.Arbiter.{some_waits}
use Rattle.arbiter.proofs.some_waits.Goals as goal

pub returns : goal.returns
unfolding some_waits
returns c =
    cc
