-- `remainder_of` meets its contract. Assumes nothing.
use borrow.Author.Tests.{lt-ltb, le-ltb}
use Rattle.store.proofs.remainder_of.Goals as goal

pub returns-then-x-lt-NO_LIMIT : goal.returns-then-x-lt-NO_LIMIT
returns-then-x-lt-NO_LIMIT c =
    rw (lt-ltb _ _ c.if-x-lt-NO_LIMIT.true)

pub returns-else-x-lt-NO_LIMIT : goal.returns-else-x-lt-NO_LIMIT
returns-else-x-lt-NO_LIMIT c =
    rw (le-ltb _ _ c.if-x-lt-NO_LIMIT.false)
