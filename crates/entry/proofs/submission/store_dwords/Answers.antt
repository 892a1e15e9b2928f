-- `entry::submission::store_dwords` meets its contract. Assumes nothing.
use mathlib.Core.Path.{◌≡◌, refl}
use mathlib.Core.List.{List, ◌++◌}
use Prim.Native.Nat.{ℕ}
use lib.Seq.{sets}
use Rattle.le.specs.Le.{le}
use Rattle.entry.proofs.submission.store_dwords.Goals as goal

-- five stores of fields, one after the other, are one
joined : (l : List ℕ) (a b c d e : ℕ)
    → sets (sets (sets (sets (sets l 48 (le 2 a)) 50 (le 2 b)) 52 (le 4 c)) 56 (le 4 d)) 60 (le 4 e) ≡ sets l 48
    (le 2 a ++ le 2 b ++ le 4 c ++ le 4 d ++ le 4 e)
unfolding le
joined l a b c d e = refl

pub returns : goal.returns
returns c =
    cc (joined _ _ _ _ _ _)
