-- `find` meets its contract. Assumes nothing.
use mathlib.Core.Bool.{not}
use Prim.Native.Nat.{ℕ}
use lib.Dec.{eqb}
use Rattle.std.proofs.Common.{rules, tests}
use Rattle.parse.proofs.line.find.Goals as goal

pub returns : goal.returns
returns c =
    (c.past.ensures.value (λ (x : ℕ). not (eqb x c.args.b)) (λ x t k. search (rules, tests)), c.past.ensures.within)
