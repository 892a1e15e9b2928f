-- `put_sq_tail` meets its contract. Assumes nothing.
use Rattle.store.proofs.Setters.{sq_tail_put}
use borrow.Author.Rules.{rules}
use Rattle.store.proofs.put_sq_tail.Goals as goal

pub returns : goal.returns
returns c =
    sq_tail_put c.args.s.now c.requires.1 c.args.i c.requires.0 c.args.v (search rules)
