use Rattle.dialogue.specs.Kept.{Kept}
use Rattle.dialogue.proofs.converse.Given as goal

abbrev pub invariant-loop : goal.invariant-loop
invariant-loop g l = Kept l.s l.state
