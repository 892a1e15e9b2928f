-- `ring_fits` meets its contract: at each return the tests that led there say which row of the table is the first. Assumes nothing.
use mathlib.Core.Path.{sym, ◌∙◌}
use native.Mathlib.Nat.{mul-le-mul_right}
use native.Mathlib.Omega.{arith}
use borrow.Author.Tests.{ne_eqb}
use Rattle.rules.proofs.Tests.{range}
use Rattle.store.specs.Held.{held}
use Rattle.queues.proofs.Creates.{ring_5, ring_6, ring_0}
use Rattle.queues.proofs.create.ring_fits.Goals as goal

pub returns-then-wrong_size : goal.returns-then-wrong_size
returns-then-wrong_size c =
    rw (← c.wrong_size.ensures, c.if-wrong_size.true)

pub returns-then-base-ne0 : goal.returns-then-base-ne0
returns-then-base-ne0 c =
    rw (← c.wrong_size.ensures, c.if-wrong_size.false, ne_eqb _ _ c.if-base-ne0.true)

pub overflow_mul-bytes : goal.overflow_mul-bytes
overflow_mul-bytes c =
    let h = range 2 1024 c.args.size (sym c.wrong_size.ensures ∙ c.if-wrong_size.false) in
    record { fits = omega (arith, mul-le-mul_right c.args.size c.requires) }

pub returns-then-ends_past : goal.returns-then-ends_past
returns-then-ends_past c =
    ring_5 (held c.args.state.now) _ _ _ _ c.wrong_size.ensures c.if-wrong_size.false c.if-base-ne0.false
    c.ends_past.ensures c.if-ends_past.true

pub returns-then-rings_share : goal.returns-then-rings_share
returns-then-rings_share c =
    ring_6 (held c.args.state.now) _ _ _ _ c.wrong_size.ensures c.if-wrong_size.false c.if-base-ne0.false
    c.ends_past.ensures c.if-ends_past.false c.rings_share.ensures c.if-rings_share.true

pub returns : goal.returns
returns c =
    ring_0 (held c.args.state.now) _ _ _ _ c.wrong_size.ensures c.if-wrong_size.false c.if-base-ne0.false
    c.ends_past.ensures c.if-ends_past.false c.rings_share.ensures c.if-rings_share.false
