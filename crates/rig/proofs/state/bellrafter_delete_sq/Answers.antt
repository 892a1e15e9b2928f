-- `bellrafter_delete_sq` meets its contract. Assumes nothing.
use Rattle.rig.proofs.Exports.{numbered}
use Rattle.rig.proofs.state.bellrafter_delete_sq.Goals as goal

pub returns : goal.returns
returns c =
    λ m. let e = c.delete_sq.ensures in numbered c.code.ensures e.0 (e.1 m)
