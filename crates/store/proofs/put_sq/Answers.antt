-- `put_sq` meets its contract. Assumes nothing.
use Rattle.store.proofs.Setters.{sq_put}
use borrow.Author.Rules.{rules}
use Rattle.store.proofs.put_sq.Goals as goal

pub returns : goal.returns
returns c =
    rw c.put_ring.ensures (sq_put c.args.s.now c.requires.1 c.args.i c.requires.0 c.args.q
    (search rules) (search rules) (search rules) (search rules) (search rules) (search rules))
