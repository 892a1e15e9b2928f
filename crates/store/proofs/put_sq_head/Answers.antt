-- `put_sq_head` meets its contract. Assumes nothing.
use Rattle.store.proofs.Setters.{sq_head_put}
use borrow.Author.Rules.{rules}
use Rattle.store.proofs.put_sq_head.Goals as goal

pub returns : goal.returns
returns c =
    sq_head_put c.args.s.now c.requires.1 c.args.i c.requires.0 c.args.v (search rules)
