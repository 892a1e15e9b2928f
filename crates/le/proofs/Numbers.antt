-- Laws of little-endian numbers, once over the width. Assumes nothing.
use mathlib.Core.Path.{◌≡◌, refl, sym, ap, ◌∙◌}
use Prim.Native.Nat.{ℕ, zero, suc, ◌+◌, ◌*◌, ◌/◌, ◌%◌, ◌^◌, ◌≤◌, ◌<◌}
use mathlib.Core.List.{List, [], ◌∷◌, ◌++◌}
use native.Mathlib.Nat.{zero-add, add-zero, suc-add, add-suc, pow-succ', pow-suc, mul_assoc, one-mul, div-one, div-div-eq-div-mul}
use native.Mathlib.Nat.{div-lt_iff_lt-mul, zero-lt-suc, lt_of_lt_of_le, le_of_eq}
use native.Mathlib.Numerals.{add-one}
use native.Mathlib.Omega.{arith}
use lib.ListN.{get_or, drop, length, set}
use lib.Seq.{get_or-drop, drop-cons, sets}
use Rattle.le.specs.Le.{le, le_at}
use Rattle.le.specs.Memory.{part, Bytes}

-- the bytes of a number are as many as its width
pub length_le : (k n : ℕ) → length (le k n) ≡ k
unfolding le
length_le zero n = refl
length_le (suc k) n = ap suc (length_le k (n / 256))

-- j + k bytes make the number of j bytes, and the k above them
pub le_at_add : (j k : ℕ) (b : List ℕ) (i : ℕ) → le_at (j + k) b i ≡ le_at j b i + 256 ^ j * le_at k b (i + j)
unfolding le_at
le_at_add zero k b i = simp (zero-add, add-zero, one-mul)
le_at_add (suc j) k b i =
    let place : i + 1 + j ≡ i + suc j = omega arith in
    let p : 256 ^ suc j * le_at k b (i + suc j) ≡ 256 * (256 ^ j * le_at k b (i + suc j)) = simp (pow-succ', mul_assoc) in
    let ih : le_at (j + k) b (i + 1) ≡ le_at j b (i + 1) + 256 ^ j * le_at k b (i + suc j) = simp place at (le_at_add j k b (i + 1)) in
    rw suc-add (omega (arith, p, ih))

-- a number of k bytes is below the power
pub le_at_lt : (k : ℕ) (b : List ℕ) (i : ℕ) → Bytes b → le_at k b i < 256 ^ k
unfolding le_at
le_at_lt zero b i h = omega arith
le_at_lt (suc k) b i h = rw pow-succ' (omega (arith, h i, le_at_lt k b (i + 1) h))

-- what stands after o bytes
pub le_at_drop : (k o : ℕ) (b : List ℕ) (i : ℕ) → le_at k (drop o b) i ≡ le_at k b (o + i)
unfolding le_at
le_at_drop zero o b i = refl
le_at_drop (suc k) o b i =
    let place : o + i + 1 ≡ o + (i + 1) = omega arith in
    rw (get_or-drop, place, le_at_drop k o b (i + 1))

le_at_tail : (k x : ℕ) (b : List ℕ) (i : ℕ) → le_at k (x ∷ b) (i + 1) ≡ le_at k b i
le_at_tail k x b i = ap (le_at k (x ∷ b)) (omega arith) ∙ sym (le_at_drop k 1 (x ∷ b) i)

-- what was written is read back
pub le_at_le : (k n : ℕ) (q : List ℕ) → n < 256 ^ k → le_at k (le k n ++ q) 0 ≡ n
unfolding le_at le
le_at_le zero n q h = omega arith
le_at_le (suc k) n q h =
    let h' : n / 256 < 256 ^ k = (div-lt_iff_lt-mul (zero-lt-suc 255)).1 (lt_of_lt_of_le h (le_of_eq (pow-suc 256 k))) in
    omega (arith, le_at_tail k (n % 256) (le k (n / 256) ++ q) 0, le_at_le k (n / 256) q h')

-- a field of k bytes at i
pub le_at_field : (k n i : ℕ) (b q : List ℕ) → drop i b ≡ le k n ++ q → n < 256 ^ k → le_at k b i ≡ n
le_at_field k n i b q e h = ap (le_at k b) (sym (add-zero i)) ∙ sym (le_at_drop k i b 0) ∙ ap (λ (l : List ℕ). le_at k l 0) e ∙ le_at_le k n q h

-- the bytes of j + k: the low j, then the k above them
pub le_add : (j k n : ℕ) → le (j + k) n ≡ le j n ++ le k (n / 256 ^ j)
unfolding le
le_add zero k n = simp (zero-add, div-one)
le_add (suc j) k n =
    rw suc-add (ap (λ (l : List ℕ). n % 256 ∷ l)
    (le_add j k (n / 256) ∙ ap (λ (m : ℕ). le j (n / 256) ++ le k m)
    (div-div-eq-div-mul n 256 (256 ^ j) ∙ ap (λ (m : ℕ). n / m) (sym (pow-succ' 256 j)))))

-- two runs of stores, one after the other, are one
pub sets_append : (l vs ws : List ℕ) (i j : ℕ) → i + length vs ≡ j → sets (sets l i vs) j ws ≡ sets l i (vs ++ ws)
sets_append l [] ws i j e = ap (λ (k : ℕ). sets l k ws) (sym e ∙ add-zero i)
sets_append l (v ∷ vs) ws i j e = sets_append (set l i v) vs ws (suc i) j (suc-add i (length vs) ∙ sym (add-suc i (length vs)) ∙ e)

-- the low j bytes stored, and the k above them after these, are j + k bytes stored
pub sets_le : (j k : ℕ) (l : List ℕ) (i x : ℕ) → sets (sets l i (le j x)) (i + j) (le k (x / 256 ^ j)) ≡ sets l i (le (j + k) x)
sets_le j k l i x =
    sets_append l (le j x) (le k (x / 256 ^ j)) i (i + j) (ap (λ (n : ℕ). i + n) (length_le j x)) ∙ ap (sets l i) (sym (le_add j k x))

-- what is read is written again as it was
pub le_le_at : (k : ℕ) (b : List ℕ) (i : ℕ) → Bytes b → i + k ≤ length b → le k (le_at k b i) ≡ part b i k
unfolding le le_at part
le_le_at zero b i h f = refl
le_le_at (suc k) b i h f =
    let low : (get_or b i 0 + 256 * le_at k b (i + 1)) % 256 ≡ get_or b i 0 = omega (arith, h i) in
    let high : (get_or b i 0 + 256 * le_at k b (i + 1)) / 256 ≡ le_at k b (i + 1) = omega (arith, h i) in
    let in_b : i < length b = omega arith in
    rw (drop-cons b i 0, low, high, le_le_at k b (i + 1) h (omega arith), add-one i)
