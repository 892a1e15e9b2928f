use Rattle.store.specs.Held.{Reached}
use Rattle.rounds.proofs.create_queues.Given as goal

abbrev pub invariant-loop-id : goal.invariant-loop-id
invariant-loop-id l = Reached l.state
