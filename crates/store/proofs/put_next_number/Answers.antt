-- `put_next_number` meets its contract. Assumes nothing.
use Rattle.store.proofs.Setters.{next_put}
use borrow.Author.Rules.{rules}
use Rattle.store.proofs.put_next_number.Goals as goal

pub returns : goal.returns
returns c =
    next_put c.args.s.now c.requires c.args.n (search rules)
