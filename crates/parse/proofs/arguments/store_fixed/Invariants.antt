-- `store_fixed` meets its contract. Assumes nothing.
use mathlib.Core.Path.{◌≡◌}
use Prim.Native.Nat.{◌≤◌}
use lib.ListN.{length, drop}
use Rattle.parse.specs.Line.{words_of}
use Rattle.parse.specs.Values.{fixed_in}
use Rattle.parse.proofs.Storing.{SoFar}
use Rattle.parse.proofs.arguments.store_fixed.Given as goal

abbrev pub invariant-loop-i : goal.invariant-loop-i
invariant-loop-i l =
    (l.from ≤ length l.line) × (drop l.i (words_of (drop l.at l.line)) ≡ words_of (drop l.from l.line))
    × SoFar (fixed_in l.largest (words_of (drop l.at l.line))) l.initial.numbers 0 l.numbers l.i
    (fixed_in (drop l.i l.largest) (words_of (drop l.from l.line)))
