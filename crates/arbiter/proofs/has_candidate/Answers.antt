-- `arbiter::has_candidate` meets its contract. Assumes nothing.
use Rattle.arbiter.proofs.Levels.{some_pos}
use Rattle.arbiter.proofs.has_candidate.Goals as goal

pub returns : goal.returns
returns c =
    some_pos _ c.ranges.mask.fits
