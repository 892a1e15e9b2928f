-- Tests of rings that code is given.
use Rattle.std.specs.Prelude.{ℕ, ◌*◌, ◌<◌, ◌^◌, Bool, ◌≡◌}
use Rattle.controller.specs.Rings.{RingTest}

-- what a test may answer of the byte where a ring begins and how many it has is what p says of them
abbrev pub Tests : (ℕ → ℕ → Bool → Type 0) → (ℕ → ℕ → Bool) → Type 0
Tests answers p = (base bytes : ℕ) → base < 2 ^ 64 → bytes < 2 ^ 64 → (b : Bool) → answers base bytes b → b ≡ p base bytes

-- p of a ring
abbrev pub by_bytes : (ℕ → ℕ → Bool) → RingTest
by_bytes p entry r = p r.base (entry * r.size)
