-- `show_arbiter` meets its contract. Assumes nothing.
use Rattle.language.specs.Commands.{looked}
use Rattle.stateful.proofs.Made.{bit_is}
use Rattle.stateful.proofs.look.show_arbiter.Goals as goal

pub returns : goal.returns
unfolding looked
returns c =
    rw (
      c.from.ensures,
      bit_is,
      c.number.ensures,
      c.number-2.ensures,
      c.number-3.ensures,
      c.number-4.ensures,
      c.arbiter_of-t.ensures,
    ) at c.told.ensures.says
