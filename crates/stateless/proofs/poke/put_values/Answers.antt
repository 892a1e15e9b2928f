-- `put_values` meets its contract: after i values the first i are put. Assumes nothing.
use mathlib.Core.Path.{sym, ap}
use native.Mathlib.Omega.{arith}
use lib.ListN.{get_or}
use lib.Seq.{take_all}
use Rattle.le.specs.Le.{le}
use Rattle.le.proofs.Numbers.{length_le}
use Rattle.print.specs.Text.{each}
use Rattle.print.proofs.Puts.{put_none, put_then, put_as, put_length}
use Rattle.print.proofs.Texts.{each_none, each_more, each_room}
use Rattle.stateless.proofs.poke.put_values.Goals as goal

pub loop-value-init : goal.loop-value-init
loop-value-init c =
    put_as (put_none _ _) (sym (each_none (le c.args.width)))

pub put_value-to-requires : goal.put_value-to-requires
put_value-to-requires c =
    let a = c.args in
    let l = c.loop-value in
    omega (
      arith,
      c.requires,
      each_room (le a.width) a.values.now l.value-index c.loop-value-test.true,
      l.invariant.ends,
      put_length l.invariant,
      length_le a.width (get_or a.values.now l.value-index 0),
    )

pub loop-value-preserved : goal.loop-value-preserved
loop-value-preserved c =
    let l = c.loop-value in
    put_as (put_then l.invariant c.put_value-to.ensures) (each_more (le c.args.width) c.args.values.now l.value-index c.loop-value-test.true)

pub returns : goal.returns
returns c =
    let l = c.loop-value in
    put_as l.invariant (ap (each (le c.args.width)) (take_all l.value-index c.args.values.now c.loop-value-test.false))
