-- `bellrafter_create_sq` meets its contract. Assumes nothing.
use Rattle.rig.proofs.Exports.{numbered}
use Rattle.rig.proofs.state.bellrafter_create_sq.Goals as goal

pub returns : goal.returns
returns c =
    let e = c.create_sq.ensures in numbered c.code.ensures e.0 e.1
