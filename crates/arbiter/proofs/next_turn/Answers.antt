-- `arbiter::next_turn` meets its contract. Assumes nothing.
use Prim.Native.Nat.{ℕ, ◌+◌, ◌^◌, ◌≤◌, ◌<◌}
use native.Mathlib.Nat.{pos_of_ne-zero}
use native.Mathlib.Omega.{arith}
use lib.Count.{count_trailing_zeros, trailing_le}
use Rattle.arbiter.proofs.Turns.{next_found, next_zero}
use Rattle.arbiter.proofs.Choice.{next_answered}
use Rattle.arbiter.proofs.next_turn.Goals as goal

-- the clauses by name
named : {A0 A1 : Type 0} → A0 × A1 → record { value : A0; refusal : A1 }
named p = record { value = p.0; refusal = p.1 }

-- a sum with a count of zeros fits
low : (a x : ℕ) → a ≤ 16 → a + count_trailing_zeros 32 x < 2 ^ 32
low a x l = omega (arith, trailing_le 32 x)

pub returns-then-mask-eq0 : goal.returns-then-mask-eq0
returns-then-mask-eq0 c =
    named (next_answered _ c.ranges.mask.fits _ (next_zero _ _ c.if-mask-eq0.true))

pub overflow_add-result : goal.overflow_add-result
overflow_add-result c =
    record { fits = low _ _ (omega arith) }

pub returns : goal.returns
returns c =
    let f = c.ranges.mask.fits in
    named (next_answered _ f _ (next_found _ _ f (pos_of_ne-zero c.if-mask-eq0.false)))
