-- `records_in` meets its contract. Assumes nothing.
use mathlib.Core.Path.{refl}
use Rattle.trace.specs.Trace.{begun}
use Rattle.replay.proofs.records_in.Goals as goal

pub returns : goal.returns
unfolding begun
returns c =
    refl
