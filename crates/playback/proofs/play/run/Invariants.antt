use Rattle.store.specs.Held.{Reached}
use Rattle.playback.proofs.play.run.Given as goal

abbrev pub invariant-loop : goal.invariant-loop
invariant-loop g l = Reached l.state
