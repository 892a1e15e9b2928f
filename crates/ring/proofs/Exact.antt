-- What the reader's number means: that many entries from its slot on have the phase tag expected, and the next has not. Assumes nothing.
use Prim.Native.Nat.{ℕ, zero, suc, ◌+◌, ◌-◌, ◌%◌, ◌<◌, ◌≤◌}
use mathlib.Core.Path.{◌≡◌, sym, ap, ap₂, ◌∙◌, subst}
use mathlib.Core.List.{List}
use native.Mathlib.Nat.{add-zero, mod-add-mod, mod-eq_of_lt}
use native.Mathlib.Omega.{arith}
use borrow.Author.Tests.{lt-ltb, le-ltb}
use lib.Dec.{ltb}
use Rattle.rules.specs.Rules.{pick}
use Rattle.ring.specs.Slots.{next, phase_after}
use Rattle.ring.specs.Reader.{phase_in, read_count}
use Rattle.ring.proofs.Steps.{Step, on, over, step}
use Rattle.ring.proofs.Counts.{count_hit, count_miss}

-- the slot i after p, and the phase tag expected there where that of p is g: past the wrap it is the other
abbrev pub place : ℕ → ℕ → ℕ → ℕ
place s p i = (p + i) % s

abbrev pub expected : ℕ → ℕ → ℕ → ℕ → ℕ
expected s p g i = pick (ltb (p + i) s) g (1 - g)

-- entry i from slot p on has the phase tag expected
abbrev pub Current : List ℕ → ℕ → ℕ → ℕ → ℕ → Type 0
Current ring s p g i = phase_in ring (place s p i) ≡ expected s p g i

pub place_zero : (s p : ℕ) → p < s → place s p 0 ≡ p
place_zero s p l = ap (λ (x : ℕ). x % s) (add-zero p) ∙ mod-eq_of_lt l

pub place_suc : (s p i : ℕ) → place s p (suc i) ≡ place s (next s p) i
unfolding next
place_suc s p i = ap (λ (x : ℕ). x % s) (omega arith) ∙ sym (mod-add-mod (p + 1) s i)

expected_zero : (s p g : ℕ) → p < s → expected s p g 0 ≡ g
expected_zero s p g l = rw (lt-ltb (p + 0) s (omega arith))

expected_suc : (s p g i p' g' : ℕ) → p < s → suc i < s → Step s p g p' g' → expected s p g (suc i) ≡ expected s p' g' i
expected_suc s p g i p' g' l k (on a b c) = ap₂ (λ (x y : ℕ). pick (ltb x s) y (1 - y)) (omega arith) (sym c)
expected_suc s p g i p' g' l k (over a b c) = rw (le-ltb (p + suc i) s (omega arith), b, c, lt-ltb (0 + i) s (omega arith))

step_in : (s p g p' g' : ℕ) → p < s → g < 2 → Step s p g p' g' → (p' < s) × (g' < 2)
step_in s p g p' g' l h (on a b c) = omega arith
step_in s p g p' g' l h (over a b c) = omega arith

module _ (ring : List ℕ) (s : ℕ) where
  moved : (p g i : ℕ) → p < s → suc i < s → Current ring s p g (suc i) ≡ Current ring s (next s p) (phase_after s p g) i
  moved p g i l k = rw (place_suc s p i, expected_suc s p g i (next s p) (phase_after s p g) l k (step s p g l))

  pub count_exact : (most n p g : ℕ) → p < s → g < 2 → most < s → n ≤ most
      → ((i : ℕ) → i < n → Current ring s p g i) → (n < most → Current ring s p g n → ⊥) → read_count most ring s p g ≡ n
  unfolding read_count
  count_exact zero n p g l h m k all end = omega arith
  count_exact (suc most) zero p g l h m k all end =
      count_miss ring s most p g (λ e. end (omega arith) (ap (phase_in ring) (place_zero s p l) ∙ e ∙ sym (expected_zero s p g l)))
  count_exact (suc most) (suc n) p g l h m k all end =
      let b = step_in s p g (next s p) (phase_after s p g) l h (step s p g l) in
      count_hit ring s most p g (ap (phase_in ring) (sym (place_zero s p l)) ∙ all 0 (omega arith) ∙ expected_zero s p g l)
      ∙ ap suc (count_exact most n (next s p) (phase_after s p g) b.0 b.1 (omega arith) (omega arith)
      (λ i j. subst (λ (t : Type 0). t) (moved p g i l (omega arith)) (all (suc i) (omega arith)))
      (λ j f. end (omega arith) (subst (λ (t : Type 0). t) (sym (moved p g n l (omega arith))) f)))
