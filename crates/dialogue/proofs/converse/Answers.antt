-- No line is read yet. Assumes nothing.
use Rattle.std.proofs.Common.{arith}
use Rattle.dialogue.proofs.Keeps.{kept_with, kept_first}
use Rattle.dialogue.proofs.converse.Goals as goal

pub loop-init : goal.loop-init
loop-init g c = kept_with c.first-s.ensures.0 (kept_first c.new-created.ensures.1) (omega (arith, c.first-s.ensures.1))
