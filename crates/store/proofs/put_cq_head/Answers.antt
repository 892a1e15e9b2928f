-- `put_cq_head` meets its contract. Assumes nothing.
use Rattle.store.proofs.Setters.{cq_head_put}
use borrow.Author.Rules.{rules}
use Rattle.store.proofs.put_cq_head.Goals as goal

pub returns : goal.returns
returns c =
    cq_head_put c.args.s.now c.requires.1 c.args.i c.requires.0 c.args.v (search rules)
