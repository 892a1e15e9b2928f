use native.Mathlib.Omega.{arith}
use Rattle.ring.proofs.Counts.{phase_byte}
use Rattle.ring.proofs.reader.phase_in.Goals as goal

pub returns : goal.returns
returns c =
    omega (arith, phase_byte c.args.ring.now c.args.slot)
