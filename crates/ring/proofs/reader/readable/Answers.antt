-- `readable` meets its contract: at each return the tests that led there say which row of the table is the first. Assumes nothing.
use mathlib.Core.Path.{sym, ◌∙◌}
use native.Mathlib.Omega.{arith}
use borrow.Author.Tests.{lt-ltb, le-ltb, le-leb, lt-leb}
use Rattle.rules.proofs.Tests.{range}
use Rattle.ring.specs.Reader.{reader_refusal}
use Rattle.ring.proofs.reader.readable.Goals as goal

pub returns-then-wrong_size : goal.returns-then-wrong_size
unfolding reader_refusal
returns-then-wrong_size c =
    rw (← c.wrong_size.ensures, c.if-wrong_size.true)

pub returns-then-bytes-needed : goal.returns-then-bytes-needed
unfolding reader_refusal
returns-then-bytes-needed c =
    rw (← c.wrong_size.ensures, c.if-wrong_size.false, lt-ltb _ _ c.if-bytes-needed.true)

pub returns-then-size-head : goal.returns-then-size-head
unfolding reader_refusal
returns-then-size-head c =
    rw (← c.wrong_size.ensures, c.if-wrong_size.false, le-ltb _ _ c.if-bytes-needed.false, le-leb _ _ c.if-size-head.true)

pub returns : goal.returns
unfolding reader_refusal
returns c =
    rw (← c.wrong_size.ensures, c.if-wrong_size.false, le-ltb _ _ c.if-bytes-needed.false, lt-leb _ _ c.if-size-head.false)

pub overflow_mul-needed : goal.overflow_mul-needed
overflow_mul-needed c =
    record { fits = omega (arith, (range 2 1024 c.args.size (sym c.wrong_size.ensures ∙ c.if-wrong_size.false)).1) }
