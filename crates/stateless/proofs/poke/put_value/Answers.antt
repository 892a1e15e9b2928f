-- `put_value` meets its contract: the bytes put, and those of the rest behind them, are the value's. Assumes nothing.
use mathlib.Core.Path.{refl, ap, ◌∙◌}
use Prim.Native.Nat.{◌-◌, ◌+◌, ◌/◌}
use native.Mathlib.Nat.{add-zero, sub-zero}
use lib.ListN.{length}
use lib.Seq.{sets, length-sets}
use Rattle.le.specs.Le.{le}
use Rattle.stateless.proofs.Values.{value_more, value_done}
use Rattle.stateless.proofs.poke.put_value.Goals as goal

pub loop-i-init : goal.loop-i-init
loop-i-init c =
    (refl, rw (sub-zero c.args.width, add-zero c.args.at))

pub loop-i-preserved : goal.loop-i-preserved
loop-i-preserved c =
    let a = c.args in
    let l = c.loop-i in
    let e = c.put.ensures in (
      ap length e ∙ length-sets l.memory (a.at + l.i) (le 1 l.rest) ∙ l.invariant.0,
      ap (λ x. sets x (a.at + (l.i + 1)) (le (a.width - (l.i + 1)) (l.rest / 256))) e
          ∙ value_more l.memory a.at a.width l.i l.rest c.loop-i-test.true ∙ l.invariant.1,
    )

pub returns : goal.returns
returns c =
    let a = c.args in
    let l = c.loop-i in
    value_done l.memory a.at a.width l.i l.rest a.memory.now a.n c.loop-i-test.false l.invariant.1
