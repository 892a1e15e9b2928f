-- `may_delete` meets its contract: at each return the tests that led there say which row of the table is the first. Assumes
-- nothing.
use borrow.Author.Tests.{lt-ltb, le-ltb, eq-eqb, ne_eqb}
use Rattle.queues.proofs.delete.may_delete.Goals as goal

pub returns-then-id-gt-LAST_QUEUE : goal.returns-then-id-gt-LAST_QUEUE
returns-then-id-gt-LAST_QUEUE c =
    rw (lt-ltb _ _ c.if-id-gt-LAST_QUEUE.true)

pub returns-then-id-eq0 : goal.returns-then-id-eq0
returns-then-id-eq0 c =
    rw (le-ltb _ _ c.if-id-gt-LAST_QUEUE.false, eq-eqb _ _ c.if-id-eq0.true)

pub returns-then-not-exists : goal.returns-then-not-exists
returns-then-not-exists c =
    rw (le-ltb _ _ c.if-id-gt-LAST_QUEUE.false, ne_eqb _ _ c.if-id-eq0.false, c.if-not-exists.true-raw)

pub returns-then-in_use : goal.returns-then-in_use
returns-then-in_use c =
    rw (le-ltb _ _ c.if-id-gt-LAST_QUEUE.false, ne_eqb _ _ c.if-id-eq0.false, c.if-not-exists.false-raw, c.if-in_use.true)

pub returns : goal.returns
returns c =
    rw (le-ltb _ _ c.if-id-gt-LAST_QUEUE.false, ne_eqb _ _ c.if-id-eq0.false, c.if-not-exists.false-raw, c.if-in_use.false)
