-- Laws of values put into a memory. Assumes nothing.
use mathlib.Core.Path.{◌≡◌, sym, ap, ◌∙◌}
use mathlib.Core.List.{List}
use Prim.Native.Nat.{ℕ, ◌+◌, ◌-◌, ◌/◌, ◌≤◌, ◌<◌}
use native.Mathlib.Omega.{arith}
use lib.Seq.{sets}
use Rattle.le.specs.Le.{le}
use Rattle.le.proofs.Numbers.{sets_le, length_le}
use Rattle.print.specs.Put.{Put}

module _ (m : List ℕ) (place width i n : ℕ) where
  -- one more is
  pub value_more : i < width
      → sets (sets m (place + i) (le 1 n)) (place + (i + 1)) (le (width - (i + 1)) (n / 256)) ≡ sets m (place + i) (le (width - i) n)
  value_more h =
      let e : 1 + (width - (i + 1)) ≡ width - i = omega arith in
      let p : place + (i + 1) ≡ place + i + 1 = omega arith in
      ap (λ (k : ℕ). sets (sets m (place + i) (le 1 n)) k (le (width - (i + 1)) (n / 256))) p
      ∙ sets_le 1 (width - (i + 1)) m (place + i) n ∙ ap (λ (k : ℕ). sets m (place + i) (le k n)) e

  -- all are
  pub value_done : (m₀ : List ℕ) (n₀ : ℕ) → width ≤ i → sets m (place + i) (le (width - i) n) ≡ sets m₀ place (le width n₀)
      → Put m₀ place (le width n₀) m (place + width)
  unfolding le
  value_done m₀ n₀ h e =
      let z : width - i ≡ 0 = omega arith in
      record {
        holds = sym (ap (λ (k : ℕ). sets m (place + i) (le k n)) z) ∙ e;
        ends = ap (λ (k : ℕ). place + k) (sym (length_le width n₀));
      }
