-- What the loop of `put_summary` keeps. Assumes nothing.
use Rattle.std.proofs.Common.{suc, ◌≤◌, drop}
use Rattle.refusals.specs.Meaning.{largest}
use Rattle.transcript.specs.Summary.{rows_text}
use Rattle.transcript.proofs.SoFar.{SoFar}
use Rattle.transcript.proofs.summary.put_summary.Given as goal

abbrev pub invariant-loop-i : goal.invariant-loop-i
invariant-loop-i l =
    (l.i ≤ suc largest) × SoFar l.initial.out l.initial.to (rows_text l.i (drop l.i l.tally.numbers)) (rows_text 1 (drop 1 l.tally.numbers))
    l.out l.to
