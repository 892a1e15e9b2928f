use Rattle.conversation.specs.Steps.{Kept}
use Rattle.setup.proofs.run.Given as goal

abbrev pub invariant-loop : goal.invariant-loop
invariant-loop g l = Kept l.s.conversation l.state
