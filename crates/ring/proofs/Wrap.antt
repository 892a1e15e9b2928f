-- The remainder by a size that is a variable, of a number below twice the size. Assumes nothing.
use mathlib.Core.Path.{◌≡◌, ◌∙◌}
use mathlib.Core.Logic.{⊎_elim}
use Prim.Native.Nat.{ℕ, ◌+◌, ◌-◌, ◌%◌, ◌<◌, ◌≤◌}
use native.Mathlib.Omega.{arith}
use native.Mathlib.Nat.{mod-eq_of_lt, mod-eq-sub-mod}
use Rattle.rules.proofs.Tests.{lt_or_ge}

-- x and its remainder y by s, for x below 2 s: both cases are linear, so omega goes on from here
pub data Wrapped (s x y : ℕ) : Type 0 where
  low : x < s → y ≡ x → Wrapped s x y
  high : s ≤ x → y + s ≡ x → y < s → Wrapped s x y

pub wrapped : (s x : ℕ) → x < s + s → Wrapped s x (x % s)
wrapped s x h = ⊎_elim (λ l. low l (mod-eq_of_lt l)) (λ g. over g) (lt_or_ge x s)
  where
    over : s ≤ x → Wrapped s x (x % s)
    over g =
        let e : x % s ≡ x - s = mod-eq-sub-mod g ∙ mod-eq_of_lt (omega arith) in
        high g (omega arith) (omega arith)
