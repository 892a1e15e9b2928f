-- What the feature word grants, by its bytes: the weights, the burst, and the credits that begin and refill at the weights.
-- Assumes nothing.
use Prim.Native.Nat.{ℕ, ◌+◌, ◌*◌, ◌%◌, ◌^◌, ◌<◌}
use mathlib.Core.Bool.{Bool}
use mathlib.Core.Path.{◌≡◌, refl, ap, ◌∙◌}
use native.Mathlib.Omega.{arith}
use lib.Dec.{eqb, lit<}
use Rattle.rules.specs.Rules.{pick}
use Rattle.arbiter.specs.declared.Remainder.TheVariants.{Left, NoLimit}
use Rattle.arbiter.specs.declared.Arbiter.{Arbiter}
use Rattle.arbiter.specs.Word.{burst_of, low_weight, medium_weight, high_weight}
use Rattle.arbiter.specs.Arbiter.{refilled, fresh}

-- the word of four bytes, the lowest first
abbrev pub word_of : ℕ → ℕ → ℕ → ℕ → ℕ
word_of b0 b1 b2 b3 = b0 + 256 * b1 + 65536 * b2 + 16777216 * b3

-- the levels' credits are these: high, medium, low
abbrev pub Credits : Arbiter → ℕ → ℕ → ℕ → Type 0
Credits a h m l = (a.high.credit ≡ h) × (a.medium.credit ≡ m) × (a.low.credit ≡ l)

-- "bits 15:8, 23:16 and 31:24 are low, medium and high weights less one": each weight is exactly its byte plus one
module _ (b0 b1 b2 b3 : ℕ) (h0 : b0 < 256) (h1 : b1 < 256) (h2 : b2 < 256) (h3 : b3 < 256) where
  pub low_weight_lem : low_weight (word_of b0 b1 b2 b3) ≡ b1 + 1
  low_weight_lem = omega arith

  pub medium_weight_lem : medium_weight (word_of b0 b1 b2 b3) ≡ b2 + 1
  medium_weight_lem = omega arith

  pub high_weight_lem : high_weight (word_of b0 b1 b2 b3) ≡ b3 + 1
  high_weight_lem = omega arith

  -- "Credits begin at the weights."
  pub fresh_credits : (m : Bool) → Credits (fresh m (word_of b0 b1 b2 b3)) (b3 + 1) (b2 + 1) (b1 + 1)
  fresh_credits m = (high_weight_lem, medium_weight_lem, low_weight_lem)

  -- a refill sets every credit to its weight, whatever was left
  pub refilled_credits : (a : Arbiter) → a.word ≡ word_of b0 b1 b2 b3 → Credits (refilled a) (b3 + 1) (b2 + 1) (b1 + 1)
  refilled_credits a e = (ap high_weight e ∙ high_weight_lem, ap medium_weight e ∙ medium_weight_lem, ap low_weight e ∙ low_weight_lem)

-- "A level's turn is kept while others are served": a refill leaves mechanism, word and whose turn it is in every group
pub refilled_turns : (a : Arbiter)
    → ((refilled a).weighted ≡ a.weighted) × ((refilled a).word ≡ a.word) × ((refilled a).group ≡ a.group)
    × ((refilled a).high.group ≡ a.high.group) × ((refilled a).medium.group ≡ a.medium.group)
    × ((refilled a).low.group ≡ a.low.group)
refilled_turns a = (refl, refl, refl, refl, refl, refl)

burst_at : (k n : ℕ) → n < 8 → burst_of (8 * k + n) ≡ pick (eqb n 7) NoLimit (Left (2 ^ n))
unfolding burst_of
burst_at k n h = let e : (8 * k + n) % 8 ≡ n = omega arith in ap (λ (d : ℕ). pick (eqb d 7) NoLimit (Left (2 ^ d))) e

-- "bits 2:0 give the burst as a power of two, 7 meaning no limit", whatever the bits above them are
pub bursts : (k : ℕ)
    → (burst_of (8 * k + 0) ≡ Left 1) × (burst_of (8 * k + 1) ≡ Left 2) × (burst_of (8 * k + 2) ≡ Left 4)
    × (burst_of (8 * k + 3) ≡ Left 8) × (burst_of (8 * k + 4) ≡ Left 16) × (burst_of (8 * k + 5) ≡ Left 32)
    × (burst_of (8 * k + 6) ≡ Left 64) × (burst_of (8 * k + 7) ≡ NoLimit)
bursts k = (
  burst_at k 0 (lit< tt),
  burst_at k 1 (lit< tt),
  burst_at k 2 (lit< tt),
  burst_at k 3 (lit< tt),
  burst_at k 4 (lit< tt),
  burst_at k 5 (lit< tt),
  burst_at k 6 (lit< tt),
  burst_at k 7 (lit< tt),
)
