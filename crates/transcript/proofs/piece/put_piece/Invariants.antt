-- What the loops of `put_piece` keep, and why they end.
use Rattle.std.proofs.Common.{◌≡◌, ◌-◌, ◌%◌, length}
use Rattle.transcript.specs.Piece.{tallied, told}
use Rattle.transcript.proofs.SoFar.{SoFar}
use Rattle.transcript.proofs.Pieces.{left}
use Rattle.transcript.proofs.piece.put_piece.Given as goal

abbrev pub invariant-loop-at : goal.invariant-loop-at
invariant-loop-at l =
    (l.at % 16 ≡ 0)
    × SoFar l.initial.out l.initial.to (told l.after (left l.trace l.answers l.at))
    (told l.initial.after (left l.trace l.answers 0)) l.out l.to
    × (tallied l.after (left l.trace l.answers l.at) ≡ tallied l.initial.after (left l.trace l.answers 0))

abbrev pub decreases-loop-at : goal.decreases-loop-at
decreases-loop-at l =
    length l.trace - l.at
