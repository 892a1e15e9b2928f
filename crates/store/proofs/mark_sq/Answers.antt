-- `mark_sq` meets its contract. Assumes nothing.
use Rattle.store.proofs.Setters.{mark_put}
use Rattle.store.proofs.mark_sq.Goals as goal

pub returns : goal.returns
returns c =
    mark_put c.args.s.now c.requires.1 c.args.i c.requires.0
