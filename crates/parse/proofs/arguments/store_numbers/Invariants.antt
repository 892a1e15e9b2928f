-- `store_numbers` meets its contract. Assumes nothing.
use Prim.Native.Nat.{◌≤◌, ◌+◌, ◌-◌}
use lib.ListN.{length, drop}
use Rattle.parse.specs.Line.{words_of}
use Rattle.parse.specs.Values.{numbers_in}
use Rattle.parse.proofs.Storing.{SoFar}
use Rattle.parse.proofs.arguments.store_numbers.Given as goal

abbrev pub invariant-loop-at : goal.invariant-loop-at
invariant-loop-at l =
    (l.from ≤ length l.line) × (l.end + length (words_of (drop l.from l.line)) ≤ length l.numbers)
    × SoFar (numbers_in l.largest (words_of (drop l.at l.line))) l.initial.numbers l.count l.numbers l.end
    (numbers_in l.largest (words_of (drop l.from l.line)))

abbrev pub decreases-loop-at : goal.decreases-loop-at
decreases-loop-at l =
    length l.line - l.from
