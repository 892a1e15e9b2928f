-- `masks_of` meets its contract. The invariant: `masks` are those of the queues below `i`. Assumes nothing.
use mathlib.Core.Path.{◌≡◌}
use Rattle.store.specs.Held.{held}
use Rattle.starter.specs.Masks.{stacked}
use Rattle.starter.proofs.candidates.masks_of.Given as goal

abbrev pub invariant-loop-i : goal.invariant-loop-i
invariant-loop-i l =
    l.masks ≡ stacked (held l.state) l.i
