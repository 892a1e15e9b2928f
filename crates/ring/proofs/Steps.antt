-- Laws of slots, distances and the turning phase tag. Assumes nothing.
use mathlib.Core.Path.{◌≡◌, ap, ◌∙◌}
use mathlib.Core.Logic.{⊎_elim}
use Prim.Native.Nat.{ℕ, ◌+◌, ◌-◌, ◌%◌, ◌<◌, ◌≤◌}
use native.Mathlib.Omega.{arith}
use native.Mathlib.Nat.{mod-lt, mod-eq_of_lt, mod_self, add-mod_right}
use borrow.Author.Tests.{eq-eqb, ne_eqb}
use Rattle.rules.proofs.Tests.{lt_or_ge, same_or_not}
use Rattle.ring.specs.Slots.{next, distance, phase_after}

-- the step from a slot and its phase tag to the next: on, or over the wrap
module _ (s p g : ℕ) where
  pub next_on : p + 1 < s → next s p ≡ p + 1
  unfolding next
  next_on l = mod-eq_of_lt l

  pub next_over : p + 1 ≡ s → next s p ≡ 0
  unfolding next
  next_over e = ap (λ (x : ℕ). x % s) e ∙ mod_self s

  pub phase_on : (p + 1 ≡ s → ⊥) → phase_after s p g ≡ g
  unfolding phase_after
  phase_on n = rw (ne_eqb (p + 1) s n)

  pub phase_over : p + 1 ≡ s → phase_after s p g ≡ 1 - g
  unfolding phase_after
  phase_over e = rw (eq-eqb (p + 1) s e)

pub data Step (s p g p' g' : ℕ) : Type 0 where
  on : p + 1 < s → p' ≡ p + 1 → g' ≡ g → Step s p g p' g'
  over : p + 1 ≡ s → p' ≡ 0 → g' ≡ 1 - g → Step s p g p' g'

pub step : (s p g : ℕ) → p < s → Step s p g (next s p) (phase_after s p g)
step s p g l =
    ⊎_elim (λ (e : p + 1 ≡ s). over e (next_over s p g e) (phase_over s p g e))
    (λ (n : p + 1 ≡ s → ⊥). on (omega arith) (next_on s p g (omega arith)) (phase_on s p g n)) (same_or_not (p + 1) s)

pub next_below : (s p : ℕ) → 0 < s → next s p < s
unfolding next
next_below s p h = mod-lt (p + 1) h

-- a distance is taken ahead, or around the wrap
module _ (s a b : ℕ) where
  pub distance_ahead : a ≤ b → b < s → distance s a b ≡ b - a
  unfolding distance
  distance_ahead l h = ap (λ (x : ℕ). x % s) {y = b - a + s} (omega arith) ∙ add-mod_right (b - a) s ∙ mod-eq_of_lt (omega arith)

  pub distance_around : b < a → a < s → distance s a b ≡ b + s - a
  unfolding distance
  distance_around l h = mod-eq_of_lt (omega arith)

-- the same, as omega takes it
pub data Distance (s a b d : ℕ) : Type 0 where
  ahead : a ≤ b → d + a ≡ b → Distance s a b d
  around : b < a → d + a ≡ b + s → Distance s a b d

pub distance_is : (s a b : ℕ) → a < s → b < s → Distance s a b (distance s a b)
distance_is s a b x y =
    ⊎_elim (λ l. around l (omega (arith, distance_around s a b l x))) (λ l. ahead l (omega (arith, distance_ahead s a b l y)))
    (lt_or_ge b a)

-- a slot is no step from itself, and one step or more from any other
module _ (s a : ℕ) (h : a < s) where
  pub distance_self : distance s a a ≡ 0
  distance_self = distance_ahead s a a (omega arith) h ∙ omega arith

  pub distance_other : (b : ℕ) → b < s → (a ≡ b → ⊥) → 1 ≤ distance s a b
  distance_other b l n = go (distance_is s a b h l)
    where
      go : {d : ℕ} → Distance s a b d → 1 ≤ d
      go (ahead x e) = omega arith
      go (around x e) = omega arith

-- where b lies no farther from a than c, the way from a to c leads over b
module _ (s a b c : ℕ) (x : a < s) (y : b < s) (z : c < s) where
  over_it : {d e k : ℕ} → Distance s a b d → Distance s a c e → Distance s b c k → d ≤ e → e ≡ d + k
  over_it (ahead f p) (ahead g q) (ahead i r) l = omega arith
  over_it (ahead f p) (ahead g q) (around i r) l = omega arith
  over_it (ahead f p) (around g q) (ahead i r) l = omega arith
  over_it (ahead f p) (around g q) (around i r) l = omega arith
  over_it (around f p) (ahead g q) (ahead i r) l = omega arith
  over_it (around f p) (ahead g q) (around i r) l = omega arith
  over_it (around f p) (around g q) (ahead i r) l = omega arith
  over_it (around f p) (around g q) (around i r) l = omega arith

  pub distance_over : distance s a b ≤ distance s a c → distance s a c ≡ distance s a b + distance s b c
  distance_over = over_it (distance_is s a b x y) (distance_is s a c x z) (distance_is s b c y z)
