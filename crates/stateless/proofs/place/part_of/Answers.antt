-- `part_of` meets its contract. Assumes nothing.
use mathlib.Core.Path.{refl}
use native.Mathlib.Omega.{arith}
use Rattle.stateless.proofs.Lying.{begins_out, ends_out, lies_in}
use Rattle.stateless.proofs.place.part_of.Goals as goal

pub returns-then-n-place : goal.returns-then-n-place
returns-then-n-place c =
    begins_out c.args.memory.now c.args.place c.args.count (omega arith)

pub returns-then-n-place-2 : goal.returns-then-n-place-2
returns-then-n-place-2 c =
    ends_out c.args.memory.now c.args.place c.args.count (omega arith) (omega arith)

pub returns : goal.returns
returns c = (
  lies_in c.args.memory.now c.args.place c.args.count (omega arith) (omega arith),
  refl,
  refl,
  omega arith,
)
