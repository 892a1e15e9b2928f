-- `put_cq_tail` meets its contract. Assumes nothing.
use Rattle.store.proofs.Setters.{cq_tail_put}
use borrow.Author.Rules.{rules}
use Rattle.store.proofs.put_cq_tail.Goals as goal

pub returns : goal.returns
returns c =
    cq_tail_put c.args.s.now c.requires.1 c.args.i c.requires.0 c.args.v c.args.phase (search rules) (search rules)
