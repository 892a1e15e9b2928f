-- Laws of the mask of the numbers that pass a test. Assumes nothing.
use Prim.Native.Nat.{ℕ, zero, suc, ◌+◌, ◌^◌, ◌<◌}
use mathlib.Core.Bool.{Bool, true, false}
use mathlib.Core.Logic.{⊎_elim}
use mathlib.Core.Path.{◌≡◌, sym, ap, ◌∙◌}
use native.Mathlib.Nat.{eq-or-lt_of_le, add_comm}
use native.Mathlib.Numerals.{add-one}
use native.Mathlib.Omega.{arith}
use lib.Dec.{lit<}
use Rattle.rules.proofs.Tests.{bool_cases, pick_yes, pick_no}
use Rattle.bits.specs.Bits.{is_set, mask_of}
use Rattle.bits.proofs.Bits.{set_high, set_within, add_same, add_other}

module _ (p : ℕ → Bool) where
  -- one number more
  pub mask_yes : (n : ℕ) → p n ≡ true → mask_of p (n + 1) ≡ mask_of p n + 2 ^ n
  unfolding mask_of
  mask_yes n e = rw (add-one n, e) (add_comm (2 ^ n) (mask_of p n))

  pub mask_no : (n : ℕ) → p n ≡ false → mask_of p (n + 1) ≡ mask_of p n
  unfolding mask_of
  mask_no n e = rw (add-one n, e) (omega arith)

  pub mask_lt : (n : ℕ) → mask_of p n < 2 ^ n
  unfolding mask_of
  mask_lt zero = lit< tt
  mask_lt (suc n) =
      ⊎_elim (λ (e : p n ≡ true). omega (arith, mask_lt n, pick_yes (2 ^ n) 0 e))
      (λ (e : p n ≡ false). omega (arith, mask_lt n, pick_no (2 ^ n) 0 e)) (bool_cases (p n))

  -- the number itself is not in the mask yet
  pub mask_clear : (n : ℕ) → is_set (mask_of p n) n ≡ false
  mask_clear n = set_high n (mask_of p n) n (mask_lt n) (omega arith)

  -- one number more: the new bit says what the test says, and the lower ones stay
  mask_last : (n : ℕ) → is_set (mask_of p (n + 1)) n ≡ p n
  mask_last n =
      ⊎_elim (λ (e : p n ≡ true). ap (λ (m : ℕ). is_set m n) (mask_yes n e) ∙ add_same n (mask_of p n) (mask_clear n) ∙ sym e)
      (λ (e : p n ≡ false). ap (λ (m : ℕ). is_set m n) (mask_no n e) ∙ mask_clear n ∙ sym e) (bool_cases (p n))

  mask_more : (n i : ℕ) → i < n → is_set (mask_of p (n + 1)) i ≡ is_set (mask_of p n) i
  mask_more n i l =
      ⊎_elim
      (λ (e : p n ≡ true). ap (λ (m : ℕ). is_set m i) (mask_yes n e) ∙ add_other n (mask_of p n) i (mask_clear n) (λ q. omega arith))
      (λ (e : p n ≡ false). ap (λ (m : ℕ). is_set m i) (mask_no n e)) (bool_cases (p n))

  -- the mask says what the test says
  pub mask_is : (n i : ℕ) → i < n → is_set (mask_of p n) i ≡ p i
  mask_is zero i h = absurd (omega arith)
  mask_is (suc n) i h =
      ap (λ (k : ℕ). is_set (mask_of p k) i) (sym (add-one n))
      ∙ ⊎_elim (λ (q : i ≡ n). ap (is_set (mask_of p (n + 1))) q ∙ mask_last n ∙ ap p (sym q))
      (λ (q : i < n). mask_more n i q ∙ mask_is n i q) (eq-or-lt_of_le {n = i} {m = n} (omega arith))

  -- a bit that is set stands for a number below n that passes
  pub mask_set : (n i : ℕ) → is_set (mask_of p n) i ≡ true → (i < n) × (p i ≡ true)
  mask_set n i e = let l = set_within n (mask_of p n) i (mask_lt n) e in (l, sym (mask_is n i l) ∙ e)
