-- `Tally::new` meets its contract. Assumes nothing.
use Rattle.std.proofs.Common.{refl}
use Rattle.refusals.specs.Meaning.{meanings, largest}
use Rattle.transcript.proofs.summary.Tally.new.Goals as goal

pub returns : goal.returns
unfolding largest meanings
returns c =
    refl
