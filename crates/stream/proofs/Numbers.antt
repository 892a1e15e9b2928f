-- Laws of the numbers of errors. Assumes nothing.
use mathlib.Core.Bool.{Bool, true, false, true≢false}
use mathlib.Core.Path.{◌≡◌, refl, sym}
use Prim.Native.Nat.{ℕ, suc, ◌-◌, ◌^◌, ◌<◌}
use native.Mathlib.Omega.{arith}
use borrow.Author.Tests.{ltb-false}
use lib.Dec.{ltb}
use lib.IntN.{ℤ, pos, negsuc, nat_abs}
use lib.Signed.{lt_z}
use mir.Syntax.{w32}
use mir.Val.{SFits, to_z, sel}
use Rattle.stream.specs.Stops.{number_of}

pub number_above : (z : ℤ) → lt_z (pos 0) z ≡ true → nat_abs z ≡ number_of z
number_above (pos n) e = refl
number_above (negsuc n) e = absurd (true≢false (sym e))

pub number_none : (z : ℤ) → lt_z (pos 0) z ≡ false → 0 ≡ number_of z
number_none (pos n) e = omega (arith, ltb-false 0 n e)
number_none (negsuc n) e = refl

pub number_small : (z : ℤ) → SFits w32 z → number_of z < 2 ^ 31
number_small (pos n) h = h.sfits
number_small (negsuc n) h = omega arith

-- bits that are not those of a number stand for another
pub number_not : (bits k : ℕ) → 0 < k → (bits ≡ k → ⊥) → number_of (to_z w32 bits) ≡ k → ⊥
number_not bits k h f e = chosen (ltb bits (2 ^ 31)) e
  where
    chosen : (b : Bool) → number_of (sel b (pos bits) (negsuc (2 ^ 32 - suc bits))) ≡ k → ⊥
    chosen true q = f q
    chosen false q = omega arith
