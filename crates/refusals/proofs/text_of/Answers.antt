-- The row of a number is among those that are left. Assumes nothing.
use Rattle.std.proofs.Common.{refl, arith}
use Rattle.refusals.specs.Meaning.{meanings}
use Rattle.refusals.proofs.Rows.{all_left, row_found, row_passed, none_left}
use Rattle.refusals.proofs.text_of.Goals as goal

pub loop-row-init : goal.loop-row-init
unfolding meanings
loop-row-init c = (record { same = refl }, all_left _)

pub returns-then-row-n : goal.returns-then-row-n
returns-then-row-n c =
    let l = c.loop-row in
    row_found _ l.invariant.0 c.loop-row-test.true l.invariant.1 c.if-row-n.true

pub loop-row-preserved : goal.loop-row-preserved
loop-row-preserved c =
    let l = c.loop-row in
    (l.invariant.0, row_passed _ l.invariant.0 c.loop-row-test.true l.invariant.1 c.if-row-n.false)

pub returns : goal.returns
returns c =
    let l = c.loop-row in
    none_left _ l.row-index (omega arith) l.invariant.1
