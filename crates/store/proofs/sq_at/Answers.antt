-- `sq_at` meets its contract. Assumes nothing.
use mathlib.Core.Path.{sym}
use Rattle.store.specs.Held.{sq_of}
use Rattle.store.proofs.Stores.{sq_held}
use Rattle.store.proofs.sq_at.Goals as goal

pub returns : goal.returns
unfolding sq_of
returns c =
    rw (c.ring_at.ensures, c.byte.ensures, c.byte-2.ensures)
    (sym (sq_held c.args.s.now c.args.i c.requires))
