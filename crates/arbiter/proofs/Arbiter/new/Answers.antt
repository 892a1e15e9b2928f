-- `arbiter::Arbiter::new` meets its contract. Assumes nothing.
use Rattle.arbiter.proofs.Arbiter.new.Goals as goal

pub returns : goal.returns
returns c =
    c.refilled.ensures
