-- A fresh controller is one that calls lead to. Assumes nothing.
use Rattle.store.proofs.Fresh.{reached_new}
use Rattle.rounds.proofs.digest_of.Goals as goal

pub prepare-run-requires : goal.prepare-run-requires
prepare-run-requires c = reached_new _ _ c.reset.ensures.1
