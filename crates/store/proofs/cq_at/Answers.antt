-- `cq_at` meets its contract. Assumes nothing.
use mathlib.Core.Path.{sym}
use Rattle.store.specs.Held.{cq_of}
use Rattle.store.proofs.Stores.{cq_held}
use Rattle.store.proofs.cq_at.Goals as goal

pub returns : goal.returns
unfolding cq_of
returns c =
    rw (c.ring_at.ensures, c.byte.ensures) (sym (cq_held c.args.s.now c.args.i c.requires))
