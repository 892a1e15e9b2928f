-- Laws of tests. Assumes nothing.
use Prim.Native.Nat.{ℕ, zero, suc, ◌≤◌, ◌<◌}
use mathlib.Core.Bool.{Bool, true, false, not, ◌&&◌, ◌||◌, true≢false}
use mathlib.Core.Logic.{◌⊎◌, inl, inr, ⊎_elim}
use mathlib.Core.Path.{◌≡◌, refl, sym, ap, ◌∙◌}
use native.Mathlib.Omega.{arith}
use lib.Dec.{ltb, eqb}
use borrow.Author.Tests.{ltb-true, ltb-false, eqb-true, eqb-false, lt-ltb, le-ltb}
use Rattle.rules.specs.Rules.{pick, outside_of}

pub bool_cases : (b : Bool) → (b ≡ true) ⊎ (b ≡ false)
bool_cases true = inl refl
bool_cases false = inr refl

pub lt_or_ge : (a b : ℕ) → (a < b) ⊎ (b ≤ a)
lt_or_ge a b = ⊎_elim (λ e. inl (ltb-true a b e)) (λ e. inr (ltb-false a b e)) (bool_cases (ltb a b))

pub same_or_not : (a b : ℕ) → (a ≡ b) ⊎ (a ≡ b → ⊥)
same_or_not a b = ⊎_elim (λ e. inl (eqb-true a b e)) (λ e. inr (eqb-false a b e)) (bool_cases (eqb a b))

pub clash : {b : Bool} → b ≡ true → b ≡ false → ⊥
clash p q = true≢false (sym p ∙ q)

pub or-false : (a b : Bool) → (a || b) ≡ false → (a ≡ false) × (b ≡ false)
or-false true b e = absurd (true≢false e)
or-false false b e = (refl, e)

pub or-true : (a b : Bool) → (a || b) ≡ true → (a ≡ true) ⊎ (b ≡ true)
or-true true b e = inl refl
or-true false b e = inr e

pub and_true : (a b : Bool) → (a && b) ≡ true → (a ≡ true) × (b ≡ true)
and_true true b e = (refl, e)
and_true false b e = absurd (true≢false (sym e))

pub and_no : (a b : Bool) → b ≡ false → (a && b) ≡ false
and_no true b e = e
and_no false b e = refl

pub not_no : (a : Bool) → not a ≡ false → a ≡ true
not_no true e = refl
not_no false e = absurd (true≢false e)

pub not_yes : (a : Bool) → not a ≡ true → a ≡ false
not_yes true e = absurd (true≢false (sym e))
not_yes false e = refl

-- the pick's two cases, by the test's value
module _ {A : Type 0} {b : Bool} (x y : A) where
  pub pick_yes : b ≡ true → pick b x y ≡ x
  pick_yes e = ap (λ (t : Bool). pick t x y) e

  pub pick_no : b ≡ false → pick b x y ≡ y
  pick_no e = ap (λ (t : Bool). pick t x y) e

-- a range, tested
module _ (a b n : ℕ) where
  pub below_range : n < a → outside_of a b n ≡ true
  below_range h = rw (lt-ltb n a h)

  pub above_range : a ≤ n → b < n → outside_of a b n ≡ true
  above_range l h = rw (le-ltb n a l, lt-ltb b n h)

  pub in_range : a ≤ n → n ≤ b → outside_of a b n ≡ false
  in_range l h = rw (le-ltb n a l, le-ltb b n h)

  pub range : outside_of a b n ≡ false → (a ≤ n) × (n ≤ b)
  range e = let o = or-false (ltb n a) (ltb b n) e in (ltb-false n a o.0, ltb-false b n o.1)

-- a test of every number below n, to be computed
abbrev pub every : (ℕ → Bool) → ℕ → Bool
every f zero = true
every f (suc n) = f n && every f n

-- what it says of each
pub every_at : (f : ℕ → Bool) (n i : ℕ) → every f n ≡ true → i < n → f i ≡ true
every_at f zero i e h = absurd (omega arith)
every_at f (suc n) i e h =
    let b = and_true (f n) (every f n) e in
    ⊎_elim (λ (p : i ≡ n). ap f p ∙ b.0) (λ (p : i ≡ n → ⊥). every_at f n i b.1 (omega arith)) (same_or_not i n)
