use Rattle.std.proofs.Common.{◌<◌}
use Rattle.rounds.proofs.choices.Given as goal

abbrev pub invariant-loop : goal.invariant-loop
invariant-loop l = l.place < 15
