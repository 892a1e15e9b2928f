-- Laws of numbers that are stored one after the other. Assumes nothing.
use Prim.Native.Nat.{ℕ, zero, suc, ◌+◌, ◌*◌, ◌/◌, ◌^◌, ◌≤◌, ◌<◌}
use mathlib.Core.Path.{◌≡◌, refl, ap, sym, ◌∙◌}
use mathlib.Core.List.{List, [], ◌∷◌, ◌++◌, append_assoc, append-nil}
use mathlib.Core.Logic.{inr}
use native.Mathlib.Nat.{mul-suc, mul-zero, zero-add}
use native.Mathlib.Omega.{arith}
use lib.ListN.{length, get_or, take, drop, length-append}
use lib.Seq.{sets}
use Rattle.le.specs.Le.{le, le_at}
use Rattle.le.specs.Memory.{put}
use Rattle.le.proofs.Parts.{sets_put, put_out}
use Rattle.le.proofs.Numbers.{length_le, le_at_drop, le_at_field, sets_append}
use Rattle.prp.specs.Answer.{numbers}

length_numbers : (w : ℕ) (xs : List ℕ) → length (numbers w xs) ≡ w * length xs
unfolding numbers
length_numbers w [] = omega arith
length_numbers w (x ∷ xs) = length-append (le w x) (numbers w xs) ∙ rw (length_le w x, length_numbers w xs, mul-suc) (omega arith)

-- one number, alone and before others
pub numbers_one : (w x : ℕ) → le w x ≡ numbers w (x ∷ [])
unfolding numbers
numbers_one w x = sym (append-nil (le w x))

pub first_then :
    (w : ℕ) (old : List ℕ) (i x : ℕ) (xs : List ℕ) →
    sets (sets old i (le w x)) (i + w) (numbers w xs) ≡ sets old i (numbers w (x ∷ xs))
unfolding numbers
first_then w old i x xs = sets_append old (le w x) (numbers w xs) i (i + w) (ap (λ (n : ℕ). i + n) (length_le w x))

numbers_snoc : (w : ℕ) (xs : List ℕ) (x : ℕ) → numbers w (xs ++ (x ∷ [])) ≡ numbers w xs ++ le w x
unfolding numbers
numbers_snoc w [] x = append-nil (le w x)
numbers_snoc w (y ∷ xs) x = rw (numbers_snoc w xs x) (sym (append_assoc (le w y) (numbers w xs) (le w x)))

-- one number more is stored
pub store_next :
    (w : ℕ) (old xs : List ℕ) (x : ℕ) {buf ys : List ℕ} {i : ℕ} →
    buf ≡ sets old 0 (numbers w xs) → length xs ≡ i → ys ≡ xs ++ (x ∷ []) → sets buf (w * i) (le w x) ≡ sets old 0 (numbers w ys)
store_next w old xs x {i = i} e len is =
    let place = zero-add (length (numbers w xs)) ∙ length_numbers w xs ∙ ap (λ (n : ℕ). w * n) len in
    rw (e, is, numbers_snoc w xs x) (sets_append old (numbers w xs) (le w x) 0 (w * i) place)

-- numbers for which there is room are put in
pub numbers_put : (w : ℕ) (old xs : List ℕ) → w * length xs ≤ length old → sets old 0 (numbers w xs) ≡ put old 0 (numbers w xs)
numbers_put w old xs h = sets_put old 0 (numbers w xs) (omega (arith, length_numbers w xs))

-- the next element of a list
pub take_next : (xs : List ℕ) (i : ℕ) {x : ℕ} {rest : List ℕ} → drop i xs ≡ x ∷ rest → take (suc i) xs ≡ take i xs ++ (x ∷ [])
take_next [] zero e = cc
take_next [] (suc i) e = cc
take_next (y ∷ xs) zero e = cc
take_next (y ∷ xs) (suc i) e = ap (λ (l : List ℕ). y ∷ l) (take_next xs i e)

pub drop_next : (xs : List ℕ) (i : ℕ) {x : ℕ} {rest : List ℕ} → drop i xs ≡ x ∷ rest → drop (suc i) xs ≡ rest
drop_next [] zero e = cc
drop_next [] (suc i) e = cc
drop_next (y ∷ xs) zero e = cc
drop_next (y ∷ xs) (suc i) e = drop_next xs i e

drop_le : (w x : ℕ) (q : List ℕ) → drop w (le w x ++ q) ≡ q
unfolding le
drop_le zero x q = refl
drop_le (suc w) x q = drop_le w (x / 256) q

-- each number is read back from its place
read_back : (w : ℕ) (xs q : List ℕ) (i : ℕ) → i < length xs → get_or xs i 0 < 256 ^ w → le_at w (numbers w xs ++ q) (w * i) ≡ get_or xs i 0
unfolding numbers
read_back w [] q i l h = absurd (omega arith)
read_back w (x ∷ xs) q zero l h = rw mul-zero (le_at_field w x 0 _ (numbers w xs ++ q) (append_assoc (le w x) (numbers w xs) q) h)
read_back w (x ∷ xs) q (suc i) l h =
    let place : w * suc i ≡ w + w * i = omega (arith, mul-suc w i) in
    let rest = numbers w xs ++ q in
    rw (place, append_assoc (le w x) (numbers w xs) q, ← le_at_drop w w (le w x ++ rest) (w * i), drop_le w x rest)
    (read_back w xs q i (omega arith) h)

-- "It fills N addresses and N byte counts .. leaves the rest of both buffers": numbers of w bytes each, for which there is room
module _ (w : ℕ) (old xs : List ℕ) (fit : w * length xs ≤ length old) where
  pub filled : (i : ℕ) → i < length xs → get_or xs i 0 < 256 ^ w → le_at w (put old 0 (numbers w xs)) (w * i) ≡ get_or xs i 0
  unfolding put
  filled i l h = read_back w xs _ i l h

  pub left : (i : ℕ) → w * length xs ≤ i → get_or (put old 0 (numbers w xs)) i 0 ≡ get_or old i 0
  left i h = put_out old 0 (numbers w xs) (omega (arith, length_numbers w xs)) i (inr (omega (arith, length_numbers w xs)))
