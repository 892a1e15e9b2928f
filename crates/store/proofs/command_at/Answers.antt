-- `command_at` meets its contract. Assumes nothing.
use mathlib.Core.Path.{sym}
use Rattle.store.specs.Held.{command_of}
use Rattle.store.proofs.Stores.{command_held}
use Rattle.store.proofs.command_at.Goals as goal

pub returns : goal.returns
unfolding command_of
returns c =
    rw (c.byte.ensures, c.half.ensures, c.half-2.ensures, c.byte-2.ensures, c.byte-3.ensures)
    (sym (command_held c.args.s.now c.args.t c.requires))
