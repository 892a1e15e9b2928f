-- `put_command` meets its contract. Assumes nothing.
use Rattle.store.proofs.Setters.{command_put}
use borrow.Author.Rules.{rules}
use Rattle.store.proofs.put_command.Goals as goal

pub returns : goal.returns
returns c =
    command_put c.args.s.now c.requires.1 c.args.t c.requires.0 c.args.k
    (search rules) (search rules) (search rules) (search rules) (search rules) (search rules)
