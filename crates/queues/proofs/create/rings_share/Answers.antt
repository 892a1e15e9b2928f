-- `rings_share` meets its contract. Assumes nothing.
use borrow.Author.Rules.{rules}
use Rattle.controller.specs.Rings.{share_byte, shares}
use Rattle.queues.proofs.create.rings_share.Goals as goal

pub returns : goal.returns
unfolding shares
returns c =
    c.some_ring.ensures (share_byte c.args.a c.args.k) (λ base bytes l h b e. search rules)
