use Rattle.store.specs.Held.{Reached}
use Rattle.rounds.proofs.start_and_finish.Given as goal

abbrev pub invariant-loop : goal.invariant-loop
invariant-loop l = Reached l.state

abbrev pub invariant-loop-i : goal.invariant-loop-i
invariant-loop-i l = Reached l.state
