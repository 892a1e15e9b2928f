-- `put_pages` meets its contract: the numbers put, and those of the pages left behind them, are those of all pages. Assumes nothing.
use mathlib.Core.Path.{◌≡◌}
use Prim.Native.Nat.{◌-◌, ◌+◌, ◌*◌}
use lib.ListN.{length}
use lib.Seq.{sets}
use Rattle.stateless.proofs.Walks.{pairs}
use Rattle.stateless.proofs.walk.put_pages.Given as goal

abbrev pub invariant-loop-i : goal.invariant-loop-i
invariant-loop-i l =
    (l.to ≡ l.at + 2 * l.i) × (length l.numbers ≡ length l.initial.numbers)
    × (sets l.numbers l.to (pairs l.addresses l.counts l.i (l.pages - l.i))
    ≡ sets l.initial.numbers l.at (pairs l.addresses l.counts 0 l.pages))
