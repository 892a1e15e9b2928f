-- `put_pages` meets its contract: the numbers put, and those of the pages left behind them, are those of all pages. Assumes nothing.
use mathlib.Core.Path.{refl, ◌∙◌}
use native.Mathlib.Nat.{sub-zero}
use native.Mathlib.Omega.{arith}
use lib.ListN.{length-set}
use Rattle.stateless.proofs.Walks.{pairs, pairs_more, pairs_done}
use Rattle.stateless.proofs.walk.put_pages.Goals as goal

pub loop-i-init : goal.loop-i-init
loop-i-init c =
    (omega arith, refl, rw (sub-zero c.args.pages))

pub bounds-numbers-to-in-loop-i : goal.bounds-numbers-to-in-loop-i
bounds-numbers-to-in-loop-i c =
    simp length-set (omega arith)

pub loop-i-preserved : goal.loop-i-preserved
loop-i-preserved c =
    let a = c.args in
    let l = c.loop-i in (
      omega arith,
      simp length-set l.invariant.1,
      pairs_more a.addresses.now a.counts.now l.numbers l.to l.i a.pages c.loop-i-test.true c.get.ensures.0
          c.get-in-loop-i.ensures.0 ∙ l.invariant.2,
    )

pub returns : goal.returns
unfolding pairs
returns c =
    let a = c.args in
    let l = c.loop-i in
    pairs_done a.addresses.now a.counts.now a.numbers.now l.numbers a.at l.to l.i a.pages c.loop-i-test.false
    l.auto.i-end l.invariant.0 l.invariant.2
