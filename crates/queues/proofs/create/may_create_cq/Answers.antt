-- `may_create_cq` meets its contract: at each return the tests that led there say which row of the table is the first. Assumes
-- nothing.
use borrow.Author.Tests.{lt-ltb, le-ltb}
use Rattle.controller.specs.Create.{create_cq_refusal}
use Rattle.queues.proofs.create.may_create_cq.Goals as goal

pub returns-then-id-gt-LAST_QUEUE : goal.returns-then-id-gt-LAST_QUEUE
unfolding create_cq_refusal
returns-then-id-gt-LAST_QUEUE c =
    rw (lt-ltb _ _ c.if-id-gt-LAST_QUEUE.true)

pub returns-then-cq_exists : goal.returns-then-cq_exists
unfolding create_cq_refusal
returns-then-cq_exists c =
    rw (le-ltb _ _ c.if-id-gt-LAST_QUEUE.false, ← c.cq_exists.ensures, c.if-cq_exists.true)

pub returns : goal.returns
unfolding create_cq_refusal
returns c =
    rw (le-ltb _ _ c.if-id-gt-LAST_QUEUE.false, ← c.cq_exists.ensures, c.if-cq_exists.false) c.ring_fits.ensures
