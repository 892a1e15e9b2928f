-- `rings_outside` meets its contract. Assumes nothing.
use Prim.Native.Nat.{◌+◌}
use borrow.Author.Rules.{rules}
use lib.Dec.{ltb}
use Rattle.controller.specs.Rings.{outside}
use Rattle.queues.proofs.rings.rings_outside.Goals as goal

pub returns : goal.returns
unfolding outside
returns c =
    c.some_ring.ensures (λ base bytes. ltb c.args.n (base + bytes)) (λ base bytes l h b e. search rules)
