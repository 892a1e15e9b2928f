-- `show_cq` meets its contract. Assumes nothing.
use Rattle.language.specs.Commands.{looked}
use Rattle.stateful.proofs.Made.{bit_is}
use Rattle.stateful.proofs.look.show_cq.Goals as goal

pub returns : goal.returns
unfolding looked
returns c =
    rw (
      c.from.ensures,
      bit_is,
      c.cq_at-q.ensures,
    ) at c.told.ensures.says
