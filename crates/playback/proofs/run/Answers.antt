-- A fresh controller is one that calls lead to. Assumes nothing.
use Rattle.store.proofs.Fresh.{reached_new}
use Rattle.playback.proofs.run.Goals as goal

pub run-requires : goal.run-requires
run-requires g c = reached_new _ _ c.new-fresh.ensures.1
