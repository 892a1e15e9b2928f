-- `on_part` meets its contract. Assumes nothing.
use native.Mathlib.Omega.{arith}
use Rattle.language.specs.Commands.{on_part}
use Rattle.stateless.proofs.part.on_part.Goals as goal

pub overflow_cast-a : goal.overflow_cast-a
overflow_cast-a c =
    let n = rw c.in-Fill.is at c.requires in
    omega (arith, n.1.1.0)

pub submission_of-requires : goal.submission_of-requires
submission_of-requires c =
    rw c.in-WriteSqe.is at c.requires

pub write_cqe-requires : goal.write_cqe-requires
write_cqe-requires c =
    rw c.in-WriteCqe.is at c.requires

pub returns-in-Fill : goal.returns-in-Fill
unfolding on_part
returns-in-Fill c = (
  rw (
    c.in-Fill.is,
    c.told.ensures.says.is,
    c.fill.ensures.len,
    c.fill.ensures.after (λ y e. e),
  ),
  c.told.ensures.says.few,
)

pub returns-in-WriteSqe : goal.returns-in-WriteSqe
unfolding on_part
returns-in-WriteSqe c =
    let e = c.write.ensures in (
      rw (
        c.in-WriteSqe.is,
        c.changed.ensures,
        c.code.ensures,
        ← c.submission_of.ensures,
        ← e.value,
        ← e.buf_after,
      ),
      rw c.changed.ensures (omega arith),
    )

pub returns-in-ReadSqe : goal.returns-in-ReadSqe
unfolding on_part
returns-in-ReadSqe c = (
  rw (c.in-ReadSqe.is, c.of_submission.ensures.is, ← c.read.ensures.value),
  c.of_submission.ensures.few,
)

pub returns-in-WriteCqe : goal.returns-in-WriteCqe
unfolding on_part
returns-in-WriteCqe c = (
  rw (c.in-WriteCqe.is, c.changed-in-WriteCqe.ensures, c.code-in-WriteCqe.ensures) c.write_cqe.ensures,
  rw c.changed-in-WriteCqe.ensures (omega arith),
)

pub returns-in-ReadCqe : goal.returns-in-ReadCqe
unfolding on_part
returns-in-ReadCqe c = (
  rw (c.in-ReadCqe.is, c.of_completion.ensures.is, ← c.read-in-ReadCqe.ensures.value),
  c.of_completion.ensures.few,
)

pub returns-in-Waiting : goal.returns-in-Waiting
unfolding on_part
returns-in-Waiting c = (
  rw (
    c.in-Waiting.is,
    c.of_waiting.ensures.is,
    ← c.read-in-Waiting.ensures.value,
  ),
  c.of_waiting.ensures.few,
)
