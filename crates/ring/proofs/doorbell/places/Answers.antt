-- `places` meets its contract: at each return the tests that led there say which row of the table is the first. Assumes nothing.
use borrow.Author.Tests.{le-leb, lt-leb}
use Rattle.ring.specs.Doorbell.{place_refusal}
use Rattle.ring.proofs.doorbell.places.Goals as goal

pub returns-then-wrong_size : goal.returns-then-wrong_size
unfolding place_refusal
returns-then-wrong_size c =
    rw (← c.wrong_size.ensures, c.if-wrong_size.true)

pub returns-then-size-head : goal.returns-then-size-head
unfolding place_refusal
returns-then-size-head c =
    rw (← c.wrong_size.ensures, c.if-wrong_size.false, le-leb _ _ c.if-size-head.true)

pub returns-then-size-tail : goal.returns-then-size-tail
unfolding place_refusal
returns-then-size-tail c =
    rw (← c.wrong_size.ensures, c.if-wrong_size.false, lt-leb _ _ c.if-size-head.false, le-leb _ _ c.if-size-tail.true)

pub returns : goal.returns
unfolding place_refusal
returns c =
    rw (← c.wrong_size.ensures, c.if-wrong_size.false, lt-leb _ _ c.if-size-head.false, lt-leb _ _ c.if-size-tail.false)
