-- `is_outstanding` meets its contract. Assumes nothing.
use native.Mathlib.Omega.{arith}
use borrow.Author.Tests.{lt-ltb, le-ltb}
use Rattle.std.proofs.lemmas.Bool.{lt-leb}
use Rattle.controller.specs.State.{outstanding}
use Rattle.store.proofs.is_outstanding.Goals as goal

pub returns-then-tag-le-LAST_TAG : goal.returns-then-tag-le-LAST_TAG
unfolding outstanding
returns-then-tag-le-LAST_TAG c =
    rw (c.is_free.ensures, lt-ltb c.args.tag 64 (omega arith))

pub returns-else-tag-le-LAST_TAG : goal.returns-else-tag-le-LAST_TAG
unfolding outstanding
returns-else-tag-le-LAST_TAG c =
    rw (lt-leb c.args.tag 63 c.if-tag-le-LAST_TAG.false, le-ltb c.args.tag 64 c.if-tag-le-LAST_TAG.false)
