-- `past` meets its contract. Assumes nothing.
use mathlib.Core.Bool.{Bool}
use mathlib.Core.Path.{◌≡◌}
use Prim.Native.Nat.{ℕ, ◌+◌}
use lib.ListN.{drop}
use Rattle.parse.specs.Line.{lead}
use Rattle.parse.proofs.line.past.Given as goal

abbrev pub invariant-loop-i : goal.invariant-loop-i
invariant-loop-i g l =
    (p : ℕ → Bool) → ((b : ℕ) (t : Bool) → goal.F-post g l.passes b t → t ≡ p b)
    → l.i + lead p (drop l.i l.text) ≡ l.at + lead p (drop l.at l.text)
