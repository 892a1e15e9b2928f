-- `digits` meets its contract. Assumes nothing.
use mathlib.Core.Path.{◌≡◌}
use Prim.Native.Nat.{◌<◌, ◌^◌}
use lib.ListN.{drop}
use Rattle.parse.specs.Numeral.{number_on}
use Rattle.parse.proofs.number.digits.Given as goal

abbrev pub invariant-loop-b : goal.invariant-loop-b
invariant-loop-b l =
    (l.value < 2 ^ 64) × (number_on l.base l.value (drop l.b-index l.word) ≡ number_on l.base 0 l.word)
