-- `bellrafter_tail_write` meets its contract. Assumes nothing.
use Rattle.rig.proofs.Exports.{numbered}
use Rattle.rig.proofs.state.bellrafter_tail_write.Goals as goal

pub returns : goal.returns
returns c =
    λ m. let e = c.tail_write.ensures in numbered c.code.ensures e.0 (e.1 m)
