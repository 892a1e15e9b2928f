-- Laws of the test that two texts are the same, and of the CR before a LF. Assumes nothing.
use mathlib.Core.Path.{◌≡◌, refl, sym, ap, ◌∙◌}
use mathlib.Core.Bool.{Bool, true, ◌&&◌, true≢false}
use mathlib.Core.List.{List, [], ◌∷◌}
use Prim.Native.Nat.{ℕ, ◌-◌, ◌≤◌, ◌<◌}
use native.Mathlib.Omega.{arith}
use borrow.Author.Tests.{eq-eqb, ne_eqb, lt-ltb, le-ltb, eqb-true}
use lib.Dec.{eqb}
use lib.Pointwise.{pointwise}
use lib.ListN.{length, get_or}
use Rattle.rules.proofs.Tests.{and_true}
use Rattle.parse.specs.Line.{without_cr, same}

-- the test as std has it
pub same_pointwise : (a b : List ℕ) → pointwise eqb a b ≡ same a b
unfolding same
same_pointwise [] [] = refl
same_pointwise [] (y ∷ ys) = refl
same_pointwise (x ∷ xs) [] = refl
same_pointwise (x ∷ xs) (y ∷ ys) = ap (λ (t : Bool). eqb x y && t) (same_pointwise xs ys)

-- the test holds exactly of equal texts
pub same_equal : (a b : List ℕ) → same a b ≡ true → a ≡ b
unfolding same
same_equal [] [] h = refl
same_equal [] (y ∷ ys) h = absurd (true≢false (sym h))
same_equal (x ∷ xs) [] h = absurd (true≢false (sym h))
same_equal (x ∷ xs) (y ∷ ys) h =
    let b = and_true (eqb x y) (same xs ys) h in
    ap (λ (n : ℕ). n ∷ xs) (eqb-true x y b.0) ∙ ap (λ (l : List ℕ). y ∷ l) (same_equal xs ys b.1)

pub same_self : (a : List ℕ) → same a a ≡ true
unfolding same
same_self [] = refl
same_self (x ∷ xs) = rw (eq-eqb x x refl) (same_self xs)

-- ---- the CR before a LF

module _ (l : List ℕ) where
  pub cr_none : length l ≡ 0 → without_cr l ≡ 0
  unfolding without_cr
  cr_none h =
      let z : ◌≡◌ {A = ℕ} (get_or l (length l - 1) 0) 0 = rw (empty l h) in
      rw (z, h)
    where
      empty : (k : List ℕ) → length k ≡ 0 → k ≡ []
      empty [] e = refl
      empty (x ∷ k) e = absurd (omega arith)

  pub cr_too_long : 4096 < length l → without_cr l ≡ length l
  unfolding without_cr
  cr_too_long h = rw (lt-ltb 4096 (length l) h)

  module _ (h : length l ≤ 4096) where
    pub cr_absent : (get_or l (length l - 1) 0 ≡ 13 → ⊥) → without_cr l ≡ length l
    unfolding without_cr
    cr_absent e = rw (le-ltb 4096 (length l) h, ne_eqb (get_or l (length l - 1) 0) 13 e)

    pub cr_there : get_or l (length l - 1) 0 ≡ 13 → without_cr l ≡ length l - 1
    unfolding without_cr
    cr_there e = rw (le-ltb 4096 (length l) h, eq-eqb (get_or l (length l - 1) 0) 13 e)
