-- `show_sq` meets its contract. Assumes nothing.
use Rattle.language.specs.Commands.{looked}
use Rattle.stateful.proofs.Made.{bit_is}
use Rattle.stateful.proofs.look.show_sq.Goals as goal

pub returns : goal.returns
unfolding looked
returns c =
    rw (
      c.from.ensures,
      bit_is,
      c.from-2.ensures,
      bit_is,
      c.sq_at-q.ensures,
    ) at c.told.ensures.says
