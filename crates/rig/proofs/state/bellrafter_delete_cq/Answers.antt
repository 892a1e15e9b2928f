-- `bellrafter_delete_cq` meets its contract. Assumes nothing.
use Rattle.rig.proofs.Exports.{numbered}
use Rattle.rig.proofs.state.bellrafter_delete_cq.Goals as goal

pub returns : goal.returns
returns c =
    λ m. let e = c.delete_cq.ensures in numbered c.code.ensures e.0 (e.1 m)
