-- `bellrafter_look_arbiter` meets its contract. Assumes nothing.
use Rattle.rig.proofs.Exports.{bit_is}
use Rattle.rig.proofs.state.bellrafter_look_arbiter.Goals as goal

pub returns : goal.returns
returns c =
    rw (
      c.from.ensures,
      bit_is,
      c.number.ensures,
      c.number-2.ensures,
      c.number-3.ensures,
      c.number-4.ensures,
      c.arbiter_of-a.ensures,
    )
