-- Laws of the first number that passes a test; and that the machine's trailing zeros and count of ones are the first and the count of the
-- bits that are set. Assumes nothing.
use Prim.Native.Nat.{ℕ, zero, suc, ◌+◌, ◌/◌, ◌%◌, ◌^◌, ◌≤◌, ◌<◌}
use mathlib.Core.Bool.{Bool, true, false}
use mathlib.Core.Logic.{⊎_elim}
use mathlib.Core.Path.{◌≡◌, refl, sym, ap, ◌∙◌}
use native.Mathlib.Nat.{eq-or-lt_of_le}
use native.Mathlib.Omega.{arith}
use lib.Count.{ones, ones_step, count_trailing_zeros, under}
use Rattle.rules.specs.Rules.{pick}
use Rattle.rules.proofs.Tests.{bool_cases, pick_yes, pick_no}
use Rattle.bits.specs.Bits.{bit, is_set, first, count}
use Rattle.bits.proofs.Bits.{bit_cases, is_set_lem, not_set, set_suc}
use Rattle.bits.proofs.Counting.{count_same}

module _ (p : ℕ → Bool) where
  first_yes : (at n : ℕ) → p at ≡ true → first p at (suc n) ≡ at
  unfolding first
  first_yes at n e = pick_yes _ _ e

  first_no : (at n : ℕ) → p at ≡ false → first p at (suc n) ≡ first p (suc at) n
  unfolding first
  first_no at n e = pick_no _ _ e

  -- r is the first that passes: it passes, and none before it does
  pub first_is : (at n r : ℕ) → at ≤ r → r < at + n → p r ≡ true → ((j : ℕ) → at ≤ j → j < r → p j ≡ false) → first p at n ≡ r
  first_is at zero r l h y low = absurd (omega arith)
  first_is at (suc n) r l h y low =
      ⊎_elim (λ (q : at ≡ r). first_yes at n (ap p q ∙ y) ∙ q)
      (λ (q : at < r). first_no at n (low at (omega arith) q) ∙ first_is (suc at) n r q (omega arith) y (λ j a b. low j (omega arith) b))
      (eq-or-lt_of_le l)

  pub first_none : (at n : ℕ) → ((j : ℕ) → at ≤ j → j < at + n → p j ≡ false) → first p at n ≡ at + n
  unfolding first
  first_none at zero low = omega arith
  first_none at (suc n) low =
      first_no at n (low at (omega arith) (omega arith)) ∙ first_none (suc at) n (λ j a b. low j (omega arith) (omega arith)) ∙ omega arith

  -- what is found passes, and none before it does
  pub first_hit : (at n : ℕ) → first p at n < at + n → p (first p at n) ≡ true
  unfolding first
  first_hit at zero h = absurd (omega arith)
  first_hit at (suc n) h =
      ⊎_elim (λ (e : p at ≡ true). ap p (first_yes at n e) ∙ e)
      (λ (e : p at ≡ false). ap p (first_no at n e) ∙ first_hit (suc at) n (omega (arith, first_no at n e))) (bool_cases (p at))

  pub first_below : (at n j : ℕ) → at ≤ j → j < first p at n → p j ≡ false
  unfolding first
  first_below at zero j l h = absurd (omega arith)
  first_below at (suc n) j l h =
      ⊎_elim (λ (e : p at ≡ true). absurd (omega (arith, first_yes at n e)))
      (λ (e : p at ≡ false). ⊎_elim (λ (q : at ≡ j). ap p (sym q) ∙ e)
      (λ (q : at < j). first_below (suc at) n j q (omega (arith, first_no at n e))) (eq-or-lt_of_le l)) (bool_cases (p at))

  pub first_from : (at n : ℕ) → at ≤ first p at n
  unfolding first
  first_from at zero = omega arith
  first_from at (suc n) =
      ⊎_elim (λ (e : p at ≡ true). omega (arith, first_yes at n e))
      (λ (e : p at ≡ false). omega (arith, first_no at n e, first_from (suc at) n)) (bool_cases (p at))

-- ---- a test in place of another, and a test one further on

module _ (p q : ℕ → Bool) (e : (j : ℕ) → p j ≡ q j) where
  pub first_cong : (at n : ℕ) → first p at n ≡ first q at n
  unfolding first
  first_cong at zero = refl
  first_cong at (suc n) = rw (e at, first_cong (suc at) n)

pick_suc : (b : Bool) (x y : ℕ) → pick b (suc x) (suc y) ≡ suc (pick b x y)
pick_suc true x y = refl
pick_suc false x y = refl

module _ (p : ℕ → Bool) where
  first_suc : (at n : ℕ) → first p (suc at) n ≡ suc (first (λ i. p (suc i)) at n)
  unfolding first
  first_suc at zero = refl
  first_suc at (suc n) = rw (first_suc (suc at) n) (pick_suc (p (suc at)) at _)

  count_suc : (at n : ℕ) → count p (suc at) n ≡ count (λ i. p (suc i)) at n
  unfolding count
  count_suc at zero = refl
  count_suc at (suc n) = rw (count_suc (suc at) n)

-- ---- the machine's counts

pick_under : (x t : ℕ) → pick (is_set x 0) 0 (suc t) ≡ under (x % 2) t
pick_under x t =
    ⊎_elim (λ (e : bit x 0 ≡ 0). let q : 0 ≡ x % 2 = omega arith in pick_no _ _ (not_set x 0 e) ∙ ap (λ (d : ℕ). under d t) q)
    (λ (e : bit x 0 ≡ 1). let q : 1 ≡ x % 2 = omega arith in pick_yes _ _ (is_set_lem x 0 e) ∙ ap (λ (d : ℕ). under d t) q) (bit_cases x 0)

pub first_trailing : (k x : ℕ) → first (is_set x) 0 k ≡ count_trailing_zeros k x
unfolding first count_trailing_zeros
first_trailing zero x = refl
first_trailing (suc k) x =
    ap (pick (is_set x 0) 0)
    (first_suc (is_set x) 0 k ∙ ap suc (first_cong (λ i. is_set x (suc i)) (is_set (x / 2)) (set_suc x) 0 k ∙ first_trailing k (x / 2)))
    ∙ pick_under x (count_trailing_zeros k (x / 2))

pick_bit : (x : ℕ) → pick (is_set x 0) 1 0 ≡ x % 2
pick_bit x =
    ⊎_elim (λ (e : bit x 0 ≡ 0). pick_no _ _ (not_set x 0 e) ∙ omega arith)
    (λ (e : bit x 0 ≡ 1). pick_yes _ _ (is_set_lem x 0 e) ∙ omega arith) (bit_cases x 0)

pub ones_zero : ones 0 ≡ 0
unfolding ones
ones_zero = refl

pub count_ones : (k x : ℕ) → x < 2 ^ k → count (is_set x) 0 k ≡ ones x
unfolding count
count_ones zero x h = let e : x ≡ 0 = omega arith in sym (ap ones e ∙ ones_zero)
count_ones (suc k) x h =
    ap (λ (d : ℕ). d + count (is_set x) 1 k) (pick_bit x)
    ∙ ap (λ (c : ℕ). x % 2 + c)
    (count_suc (is_set x) 0 k
    ∙ count_same (λ i. is_set x (suc i)) (is_set (x / 2)) 0 k (λ j a b. set_suc x j)
    ∙ count_ones k (x / 2) (omega arith))
    ∙ sym (ones_step x)

under_lt : (d t j : ℕ) → (d ≡ 0 → t < j) → under d t < suc j
under_lt zero t j q = omega (arith, q refl)
under_lt (suc d) t j q = omega arith

trailing_found : (k x : ℕ) → 0 < x → x < 2 ^ k → count_trailing_zeros k x < k
unfolding count_trailing_zeros
trailing_found zero x p h = absurd (omega arith)
trailing_found (suc k) x p h =
    under_lt (x % 2) (count_trailing_zeros k (x / 2)) k (λ (e : x % 2 ≡ 0). trailing_found k (x / 2) (omega arith) (omega arith))

-- a number of k bits that is not 0 has a bit set
pub first_found : (k x : ℕ) → 0 < x → x < 2 ^ k → first (is_set x) 0 k < k
first_found k x p h = rw (first_trailing k x) (trailing_found k x p h)
