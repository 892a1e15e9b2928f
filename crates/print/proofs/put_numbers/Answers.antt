-- `put_numbers` meets its contract: after i numbers the texts of the first i are put. Assumes nothing.
use mathlib.Core.Path.{sym, ap}
use native.Mathlib.Omega.{arith}
use lib.Seq.{take_all}
use Rattle.print.specs.Text.{next, numbers}
use Rattle.print.proofs.Puts.{put_none, put_then, put_as, put_length}
use Rattle.print.proofs.Texts.{each_none, each_more, each_room}
use Rattle.print.proofs.put_numbers.Goals as goal

pub loop-value-init : goal.loop-value-init
loop-value-init c =
    put_as (put_none _ _) (sym (each_none next))

pub put_next-to-requires : goal.put_next-to-requires
put_next-to-requires c =
    let l = c.loop-value in
    let r = each_room next c.args.values.now l.value-index c.loop-value-test.true in
    omega (arith, c.requires, r, l.invariant.ends, put_length l.invariant)

pub loop-value-preserved : goal.loop-value-preserved
loop-value-preserved c =
    let l = c.loop-value in
    put_as (put_then l.invariant c.put_next-to.ensures) (each_more next c.args.values.now l.value-index c.loop-value-test.true)

pub returns : goal.returns
returns c =
    let l = c.loop-value in
    put_as l.invariant (ap numbers (take_all l.value-index c.args.values.now c.loop-value-test.false))
