-- `put_value` meets its contract: the bytes put, and those of the rest behind them, are the value's. Assumes nothing.
use mathlib.Core.Path.{◌≡◌}
use Prim.Native.Nat.{◌-◌, ◌+◌}
use lib.ListN.{length}
use lib.Seq.{sets}
use Rattle.le.specs.Le.{le}
use Rattle.stateless.proofs.poke.put_value.Given as goal

abbrev pub invariant-loop-i : goal.invariant-loop-i
invariant-loop-i l =
    (length l.memory ≡ length l.initial.memory)
    × (sets l.memory (l.at + l.i) (le (l.width - l.i) l.rest) ≡ sets l.initial.memory l.at (le l.width l.n))
