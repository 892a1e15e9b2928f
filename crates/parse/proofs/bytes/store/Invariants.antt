-- `store` meets its contract. Assumes nothing.
use Prim.Native.Nat.{◌≤◌, ◌-◌, ◌*◌}
use lib.ListN.{length, drop}
use Rattle.parse.specs.Line.{words_of}
use Rattle.parse.specs.Values.{bytes_in}
use Rattle.parse.proofs.Storing.{SoFar}
use Rattle.parse.proofs.bytes.store.Given as goal

abbrev pub invariant-loop-at : goal.invariant-loop-at
invariant-loop-at l =
    (l.from ≤ length l.line) × (2 * l.end ≤ l.from)
    × SoFar (bytes_in (words_of (drop l.at l.line))) l.initial.out 0 l.out l.end (bytes_in (words_of (drop l.from l.line)))

abbrev pub decreases-loop-at : goal.decreases-loop-at
decreases-loop-at l =
    length l.line - l.from
