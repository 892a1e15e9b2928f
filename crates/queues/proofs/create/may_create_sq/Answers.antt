-- `may_create_sq` meets its contract: at each return the tests that led there say which row of the table is the first. Assumes
-- nothing.
use borrow.Author.Tests.{lt-ltb, le-ltb}
use Rattle.controller.specs.Create.{create_sq_refusal}
use Rattle.queues.proofs.create.may_create_sq.Goals as goal

pub returns-then-id-gt-LAST_QUEUE : goal.returns-then-id-gt-LAST_QUEUE
unfolding create_sq_refusal
returns-then-id-gt-LAST_QUEUE c =
    rw (lt-ltb _ _ c.if-id-gt-LAST_QUEUE.true)

pub returns-then-sq_exists : goal.returns-then-sq_exists
unfolding create_sq_refusal
returns-then-sq_exists c =
    rw (le-ltb _ _ c.if-id-gt-LAST_QUEUE.false, ← c.sq_exists.ensures, c.if-sq_exists.true)

pub returns-then-class-gt-LAST_CLASS : goal.returns-then-class-gt-LAST_CLASS
unfolding create_sq_refusal
returns-then-class-gt-LAST_CLASS c =
    rw (le-ltb _ _ c.if-id-gt-LAST_QUEUE.false, ← c.sq_exists.ensures, c.if-sq_exists.false, lt-ltb _ _ c.if-class-gt-LAST_CLASS.true)

pub returns-then-wrong_cq : goal.returns-then-wrong_cq
unfolding create_sq_refusal
returns-then-wrong_cq c =
    rw (
      le-ltb _ _ c.if-id-gt-LAST_QUEUE.false,
      ← c.sq_exists.ensures,
      c.if-sq_exists.false,
      le-ltb _ _ c.if-class-gt-LAST_CLASS.false,
      ← c.wrong_cq.ensures,
      c.if-wrong_cq.true,
    )

pub returns : goal.returns
unfolding create_sq_refusal
returns c =
    rw (
      le-ltb _ _ c.if-id-gt-LAST_QUEUE.false,
      ← c.sq_exists.ensures,
      c.if-sq_exists.false,
      le-ltb _ _ c.if-class-gt-LAST_CLASS.false,
      ← c.wrong_cq.ensures,
      c.if-wrong_cq.false,
    ) c.ring_fits.ensures
