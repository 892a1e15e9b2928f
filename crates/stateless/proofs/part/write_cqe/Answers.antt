-- `write_cqe` meets its contract. Assumes nothing.
use Rattle.language.specs.Commands.{on_part}
use Rattle.stateless.proofs.part.write_cqe.Goals as goal

pub returns : goal.returns
unfolding on_part
returns c =
    rw (c.write.ensures.value, c.write.ensures.buf_after)
