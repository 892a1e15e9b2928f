-- The bits of a number; the first of a range of numbers that passes a test, and how many pass; the mask of those that pass.
use Rattle.std.specs.Prelude.{ℕ, zero, suc, ◌+◌, ◌/◌, ◌%◌, ◌^◌, Bool, ltb, eqb}
use Rattle.rules.specs.Rules.{pick}

-- bit n of x, 0 or 1; bit 0 is the lowest
abbrev pub bit : ℕ → ℕ → ℕ
bit x n = x / 2 ^ n % 2

unfoldable pub is_set : ℕ → ℕ → Bool
is_set x n = eqb (bit x n) 1

-- the first of at, at + 1, .., at + n - 1 that passes p, and at + n where none does
unfoldable pub first : (ℕ → Bool) → ℕ → ℕ → ℕ
first p at zero = at
first p at (suc n) = pick (p at) at (first p (suc at) n)

-- how many of at, at + 1, .., at + n - 1 pass p
unfoldable pub count : (ℕ → Bool) → ℕ → ℕ → ℕ
count p at zero = 0
count p at (suc n) = pick (p at) 1 0 + count p (suc at) n

-- the number whose bit i is set exactly for those i below n that pass p
unfoldable pub mask_of : (ℕ → Bool) → ℕ → ℕ
mask_of p zero = 0
mask_of p (suc n) = pick (p n) (2 ^ n) 0 + mask_of p n

-- some number below n passes p
unfoldable pub some_below : ℕ → (ℕ → Bool) → Bool
some_below n p = ltb (first p 0 n) n
