-- `bits::give_back` meets its contract, by the laws of `Tags`. Assumes nothing.
use mathlib.Core.Path.{sym, ◌∙◌}
use Rattle.bits.proofs.Bits.{shl_one, add_fits}
use Rattle.bits.proofs.Tags.{back_above, back_free, back_taken}
use Rattle.bits.proofs.give_back.Goals as goal
use Rattle.bits.proofs.give_back.Goals.{Start}

pub returns-then-tag-ge64 : goal.returns-then-tag-ge64
returns-then-tag-ge64 c =
    back_above _ _ c.if-tag-ge64.true

pub returns-then-is_free : goal.returns-then-is_free
returns-then-is_free c =
    back_free _ _ c.if-tag-ge64.false (sym c.is_free.ensures ∙ c.if-is_free.true)

pub overflow_add-result : goal.overflow_add-result
overflow_add-result c =
    let l = c.if-tag-ge64.false in
    rw (shl_one 64 c.args.tag l)
    (record { fits = add_fits _ 64 _ l c.ranges.mask.fits (sym c.is_free.ensures ∙ c.if-is_free.false) })

pub returns : goal.returns
returns c =
    let l = c.if-tag-ge64.false in
    rw (shl_one 64 c.args.tag l)
    (back_taken _ _ l (sym c.is_free.ensures ∙ c.if-is_free.false))
