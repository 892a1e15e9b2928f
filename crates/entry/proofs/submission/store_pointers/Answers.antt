-- `entry::submission::store_pointers` meets its contract. Assumes nothing.
use mathlib.Core.Path.{◌≡◌, refl}
use mathlib.Core.List.{List, ◌++◌}
use Prim.Native.Nat.{ℕ}
use lib.Seq.{sets}
use Rattle.le.specs.Le.{le}
use Rattle.entry.proofs.submission.store_pointers.Goals as goal

-- four stores of fields, one after the other, are one
joined : (l : List ℕ) (a b c d : ℕ)
    → sets (sets (sets (sets l 16 (le 8 a)) 24 (le 8 b)) 32 (le 8 c)) 40 (le 8 d) ≡ sets l 16 (le 8 a ++ le 8 b ++ le 8 c ++ le 8 d)
unfolding le
joined l a b c d = refl

pub returns : goal.returns
returns c =
    cc (joined _ _ _ _ _)
