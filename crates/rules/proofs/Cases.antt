-- A property of what a test picks and of what settles a call, by cases; and a bound on the numbers of a table. Assumes nothing.
use Prim.Native.Nat.{ℕ, ◌≤◌}
use mathlib.Core.Bool.{Bool, true, false, ◌&&◌}
use mathlib.Core.List.{[], ◌∷◌}
use mathlib.Core.Path.{◌≡◌, refl, sym, ap, ◌∙◌}
use native.Mathlib.Omega.{arith}
use lib.Dec.{T, eqb, leb, leb→le}
use borrow.Author.Tests.{eqb-true, eqb-false}
use Rattle.std.specs.Prelude.{Option, Some}
use Rattle.rules.specs.Rules.{pick, Table, first_match, settle}
use Rattle.rules.proofs.Tables.{both}

module _ {A : Type 0} (P : A → Type 0) where
  pub pick_cases : (t : Bool) (x y : A) → (t ≡ true → P x) → (t ≡ false → P y) → P (pick t x y)
  pick_cases true x y p q = p refl
  pick_cases false x y p q = q refl

  pub settle_cases : (n : ℕ) (f : ℕ → A) (x : A) → (n ≡ 0 → P x) → ((n ≡ 0 → ⊥) → P (f n)) → P (settle n f x)
  unfolding settle
  settle_cases n f x p q = pick_cases (eqb n 0) x (f n) (λ e. p (eqb-true n 0 e)) (λ e. q (eqb-false n 0 e))

-- the number of what settles a call is that of the refusal: f gives each refusal its own, and 0 to what is accepted
pub settle_number : {A : Type 0} (f : A → ℕ) (n : ℕ) (g : ℕ → A) (x : A) → ((k : ℕ) → f (g k) ≡ k) → f x ≡ 0 → f (settle n g x) ≡ n
settle_number f n g x r a = settle_cases (λ y. f y ≡ n) n g x (λ z. a ∙ sym z) (λ d. r n)

-- every row's number is at most n
abbrev pub numbers_to : ℕ → Table → Bool
numbers_to n [] = true
numbers_to n (r ∷ rs) = leb r.1 n && numbers_to n rs

-- a table answers no number above those of its rows
pub match_to : (n : ℕ) (rs : Table) → T (numbers_to n rs) → first_match rs ≤ n
match_to n [] h = omega arith
match_to n (r ∷ rs) h =
    let b = both (leb r.1 n) (numbers_to n rs) h in
    pick_cases (λ (k : ℕ). k ≤ n) r.0 r.1 (first_match rs) (λ e. leb→le r.1 n b.0) (λ e. match_to n rs b.1)

-- two answers of a pair that are the same have the same parts
pub some_both : {A B : Type 0} {x x' : A} {y y' : B} → ◌≡◌ {A = Option (A × B)} (Some (x, y)) (Some (x', y'))
    → (x ≡ x') × (y ≡ y')
some_both {A} {B} {x} {x'} {y} {y'} e =
    let is : ◌≡◌ {A = A × B} (x, y) (x', y') = cc in (ap (λ (p : A × B). p.0) is, ap (λ (p : A × B). p.1) is)
