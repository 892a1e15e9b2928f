-- `bits::is_set` meets its contract. Assumes nothing.
use mathlib.Core.Path.{refl, sym}
use Rattle.bits.specs.Bits.{is_set}
use Rattle.bits.proofs.Bits.{set_high}
use Rattle.bits.proofs.is_set.Goals as goal

pub returns-then-n-ge64 : goal.returns-then-n-ge64
returns-then-n-ge64 c =
    sym (set_high 64 _ _ c.ranges.mask.fits c.if-n-ge64.true)

pub returns : goal.returns
unfolding is_set
returns c =
    refl
