-- The 32-bit Arbitration feature word. Bits 7:3 are ignored.
use Rattle.std.specs.Prelude.{ℕ, ◌+◌, ◌/◌, ◌%◌, ◌^◌, eqb}
use Rattle.rules.specs.Rules.{pick}
use Rattle.arbiter.specs.declared.Remainder.{Remainder}
use Rattle.arbiter.specs.declared.Remainder.TheVariants.{Left, NoLimit}

-- "bits 2:0 give the burst as a power of two, 7 meaning no limit"
unfoldable pub burst_of : ℕ → Remainder
burst_of w = pick (eqb (w % 8) 7) NoLimit (Left (2 ^ (w % 8)))

-- "bits 15:8, 23:16 and 31:24 are low, medium and high weights less one": the weight whose byte begins at bit k
abbrev pub weight_at : ℕ → ℕ → ℕ
weight_at k w = w / 2 ^ k % 256 + 1

abbrev pub low_weight : ℕ → ℕ
low_weight = weight_at 8

abbrev pub medium_weight : ℕ → ℕ
medium_weight = weight_at 16

abbrev pub high_weight : ℕ → ℕ
high_weight = weight_at 24
