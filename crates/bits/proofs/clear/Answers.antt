-- `bits::clear` meets its contract. Assumes nothing.
use Rattle.bits.proofs.Bits.{shl_one, sub_fits}
use Rattle.bits.proofs.clear.Goals as goal

pub overflow_sub-result : goal.overflow_sub-result
overflow_sub-result c =
    rw (shl_one 64 c.args.tag c.requires.0) (sub_fits _ _ c.requires.1)

pub returns : goal.returns
returns c =
    rw (shl_one 64 c.args.tag c.requires.0)
