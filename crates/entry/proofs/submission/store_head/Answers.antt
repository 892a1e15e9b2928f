-- `entry::submission::store_head` meets its contract. Assumes nothing.
use mathlib.Core.Path.{◌≡◌, refl}
use mathlib.Core.List.{List, ◌++◌}
use Prim.Native.Nat.{ℕ}
use lib.Seq.{sets}
use Rattle.le.specs.Le.{le}
use Rattle.entry.proofs.submission.store_head.Goals as goal

-- five stores of fields, one after the other, are one
joined : (l : List ℕ) (o f i n : ℕ)
    → sets (sets (sets (sets (sets l 0 (le 1 o)) 1 (le 1 f)) 2 (le 2 i)) 4 (le 4 n)) 8 (le 8 0) ≡ sets l 0
    (le 1 o ++ le 1 f ++ le 2 i ++ le 4 n ++ le 8 0)
unfolding le
joined l o f i n = refl

pub returns : goal.returns
returns c =
    cc (joined _ _ _ _ _)
