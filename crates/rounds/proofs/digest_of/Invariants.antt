use Rattle.store.specs.Held.{Reached}
use Rattle.rounds.proofs.digest_of.Given as goal

abbrev pub invariant-loop : goal.invariant-loop
invariant-loop l = Reached l.words
