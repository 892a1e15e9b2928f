-- `store_word` meets its contract. Assumes nothing.
use Prim.Native.Nat.{◌≤◌, ◌+◌, ◌*◌}
use lib.ListN.{length}
use Rattle.parse.specs.Values.{bytes_of}
use Rattle.parse.proofs.Storing.{SoFar}
use Rattle.parse.proofs.bytes.store_word.Given as goal

abbrev pub invariant-loop-rest : goal.invariant-loop-rest
invariant-loop-rest l =
    (2 * l.end + length l.rest ≤ 2 * l.at + length l.word)
    × SoFar (bytes_of l.word) l.initial.out l.at l.out l.end (bytes_of l.rest)

abbrev pub decreases-loop-rest : goal.decreases-loop-rest
decreases-loop-rest l =
    length l.rest
