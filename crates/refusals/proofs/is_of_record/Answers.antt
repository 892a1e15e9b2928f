use borrow.Author.Tests.{eq-eqb, ne_eqb}
use Rattle.refusals.proofs.is_of_record.Goals as goal

pub returns-then-n-eq30 : goal.returns-then-n-eq30
returns-then-n-eq30 c =
    rw (eq-eqb _ _ c.if-n-eq30.true)

pub returns : goal.returns
returns c =
    rw (ne_eqb _ _ c.if-n-eq30.false)
