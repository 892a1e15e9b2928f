use Rattle.store.specs.Held.{Reached}
use Rattle.rounds.proofs.tails.Given as goal

abbrev pub invariant-loop-i : goal.invariant-loop-i
invariant-loop-i l = Reached l.copy
