-- The law of a search that asks of one number after another below n whether it passes a test. Assumes nothing.
use Prim.Native.Nat.{ℕ, zero, suc, ◌+◌}
use mathlib.Core.Bool.{Bool, true, false}
use mathlib.Core.Path.{◌≡◌, refl, sym}
use native.Mathlib.Omega.{arith}
use borrow.Author.Tests.{lt-ltb, le-ltb}
use Rattle.std.proofs.Common.{add-one}
use Rattle.std.specs.List.{list_any, range_with_len}
use Rattle.bits.specs.Bits.{first, some_below}
use lib.Dec.{ltb}

-- to ask it of the numbers from a to e in their order is to look for the first that passes
any_from : (p : ℕ → Bool) (a n e : ℕ) → a + n ≡ e → list_any p (range_with_len a n) ≡ ltb (first p a n) e
unfolding first
any_from p a zero e l = sym (le-ltb a e (omega arith))
any_from p a (suc n) e l = go (p a) refl (any_from p (suc a) n e (omega arith))
  where
    go : (b : Bool) → p a ≡ b → list_any p (range_with_len (suc a) n) ≡ ltb (first p (suc a) n) e
        → list_any p (range_with_len a (suc n)) ≡ ltb (first p a (suc n)) e
    go true t h = rw t (sym (lt-ltb a e (omega arith)))
    go false t h = rw (t, add-one a) h

pub any_below : (p : ℕ → Bool) (n : ℕ) → list_any p (range_with_len 0 n) ≡ some_below n p
unfolding some_below
any_below p n = any_from p 0 n n (omega arith)
