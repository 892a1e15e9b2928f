-- What the loop of `first_set` keeps. Assumes nothing.
use Rattle.std.proofs.Common.{◌≡◌, ◌+◌, true, drop}
use Rattle.trace.specs.Record.{any_set}
use Rattle.transcript.specs.Record.{first_set}
use Rattle.transcript.proofs.record.first_set.Given as goal

abbrev pub invariant-loop-i : goal.invariant-loop-i
invariant-loop-i l =
    (any_set (drop l.i l.bytes) ≡ true) × (l.i + first_set (drop l.i l.bytes) ≡ l.from + first_set (drop l.from l.bytes))
