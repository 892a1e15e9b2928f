-- `put_free` meets its contract. Assumes nothing.
use Rattle.store.proofs.Setters.{free_put}
use borrow.Author.Rules.{rules}
use Rattle.store.proofs.put_free.Goals as goal

pub returns : goal.returns
returns c =
    free_put c.args.s.now c.requires c.args.mask (search rules)
