-- Laws of how many numbers of a range pass a test. Assumes nothing.
use Prim.Native.Nat.{ℕ, zero, suc, ◌+◌, ◌≤◌, ◌<◌}
use mathlib.Core.Bool.{Bool, true, false, ◌||◌}
use mathlib.Core.Logic.{⊎_elim}
use mathlib.Core.Path.{◌≡◌, refl, ap, ◌∙◌}
use native.Mathlib.Nat.{eq-or-lt_of_le}
use native.Mathlib.Omega.{arith}
use Rattle.rules.specs.Rules.{pick}
use Rattle.bits.specs.Bits.{count}

-- 1 where the test holds
abbrev pub one : Bool → ℕ
one b = pick b 1 0

-- P holds of every number from a on and below b
abbrev pub AllIn : ℕ → ℕ → (ℕ → Type 0) → Type 0
AllIn a b P = (j : ℕ) → a ≤ j → j < b → P j

-- of the range after its first number
all_rest : {P : ℕ → Type 0} (at n : ℕ) → AllIn at (at + suc n) P → AllIn (suc at) (suc at + n) P
all_rest at n e j l h = e j (omega arith) (omega arith)

one_most : (b : Bool) → one b ≤ 1
one_most true = omega arith
one_most false = omega arith

-- ---- one test

module _ (p : ℕ → Bool) where
  pub count_most : (at n : ℕ) → count p at n ≤ n
  unfolding count
  count_most at zero = omega arith
  count_most at (suc n) = omega (arith, one_most (p at), count_most (suc at) n)

  -- the same answer everywhere: none, or all
  pub count_none : (at n : ℕ) → AllIn at (at + n) (λ j. p j ≡ false) → count p at n ≡ 0
  unfolding count
  count_none at zero e = refl
  count_none at (suc n) e = rw (e at (omega arith) (omega arith), count_none (suc at) n (all_rest at n e))

  pub count_all : (at n : ℕ) → AllIn at (at + n) (λ j. p j ≡ true) → count p at n ≡ n
  unfolding count
  count_all at zero e = refl
  count_all at (suc n) e = rw (e at (omega arith) (omega arith), count_all (suc at) n (all_rest at n e)) (omega arith)

  -- a range in two parts
  pub count_split : (at m n : ℕ) → count p at (m + n) ≡ count p at m + count p (at + m) n
  unfolding count
  count_split at zero n =
      let a : 0 + n ≡ n = omega arith in
      let b : at + 0 ≡ at = omega arith in rw (a, b) (omega arith)
  count_split at (suc m) n =
      let a : suc m + n ≡ suc (m + n) = omega arith in
      let b : at + suc m ≡ suc at + m = omega arith in rw (a, b) (omega (arith, count_split (suc at) m n))

  -- one that passes is counted
  pub count_some : (at n t : ℕ) → at ≤ t → t < at + n → p t ≡ true → 0 < count p at n
  unfolding count
  count_some at zero t l h e = absurd (omega arith)
  count_some at (suc n) t l h e =
      ⊎_elim (λ (s : at ≡ t). let x : one (p at) ≡ 1 = ap one (ap p s ∙ e) in omega arith)
      (λ (s : at < t). omega (arith, count_some (suc at) n t s (omega arith) e)) (eq-or-lt_of_le l)

-- ---- two tests

module _ (p q : ℕ → Bool) where
  -- that agree in the range
  pub count_same : (at n : ℕ) → AllIn at (at + n) (λ j. p j ≡ q j) → count p at n ≡ count q at n
  unfolding count
  count_same at zero e = refl
  count_same at (suc n) e = rw (e at (omega arith) (omega arith), count_same (suc at) n (all_rest at n e))

  -- that agree in the range but at t: each count with what the other test says at t
  pub count_but : (t at n : ℕ) → at ≤ t → t < at + n → AllIn at (at + n) (λ j. (j ≡ t → ⊥) → p j ≡ q j)
      → count p at n + one (q t) ≡ count q at n + one (p t)
  unfolding count
  count_but t at zero l h e = absurd (omega arith)
  count_but t at (suc n) l h e =
      ⊎_elim
      (λ (s : at ≡ t).
      let f = count_same (suc at) n (λ j a b. e j (omega arith) (omega arith) (λ i. omega arith)) in
      let x : one (p at) ≡ one (p t) = ap (λ j. one (p j)) s in
      let y : one (q at) ≡ one (q t) = ap (λ j. one (q j)) s in omega arith)
      (λ (s : at < t).
      let f = count_but t (suc at) n s (omega arith) (all_rest at n e) in
      let x : one (p at) ≡ one (q at) = ap one (e at (omega arith) (omega arith) (λ i. omega arith)) in omega arith)
      (eq-or-lt_of_le l)

  -- of which the first implies the second
  pub count_fewer : (at n : ℕ) → AllIn at (at + n) (λ j. p j ≡ true → q j ≡ true) → count p at n ≤ count q at n
  unfolding count
  count_fewer at zero e = omega arith
  count_fewer at (suc n) e =
      omega (arith, fewer (p at) (q at) (e at (omega arith) (omega arith)), count_fewer (suc at) n (all_rest at n e))
    where
      fewer : (a b : Bool) → (a ≡ true → b ≡ true) → one a ≤ one b
      fewer true b h = rw (h refl) (omega arith)
      fewer false b h = omega arith

  -- that never both hold: together they count those that pass either
  pub count_either : (at n : ℕ) → AllIn at (at + n) (λ j. p j ≡ true → q j ≡ false)
      → count (λ j. p j || q j) at n ≡ count p at n + count q at n
  unfolding count
  count_either at zero e = refl
  count_either at (suc n) e =
      omega (arith, either (p at) (q at) (e at (omega arith) (omega arith)), count_either (suc at) n (all_rest at n e))
    where
      either : (a b : Bool) → (a ≡ true → b ≡ false) → one (a || b) ≡ one a + one b
      either true b h = rw (h refl)
      either false b h = omega arith
