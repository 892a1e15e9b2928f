use Rattle.store.specs.Held.{Reached}
use Rattle.rounds.proofs.write_each.Given as goal

abbrev pub invariant-loop-id : goal.invariant-loop-id
invariant-loop-id l = Reached l.state
