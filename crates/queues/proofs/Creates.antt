-- Laws of the tests of a new ring. Assumes nothing.
use Prim.Native.Nat.{ℕ, ◌+◌, ◌*◌, ◌-◌, ◌%◌, ◌≤◌, ◌<◌, min, max}
use mathlib.Core.Bool.{Bool, true, false}
use mathlib.Core.Path.{◌≡◌}
use native.Mathlib.Omega.{arith}
use lib.Dec.{ltb}
use borrow.Author.Tests.{eq-eqb}
use Rattle.rules.specs.Rules.{first_match}
use Rattle.rules.proofs.Exactly.{says_lt, says_as, says_same}
use Rattle.ring.specs.Slots.{wrong_size}
use Rattle.controller.specs.Controller.{Controller}
use Rattle.controller.specs.Create.{ring_rules}
use Rattle.controller.specs.Rings.{share_byte, shares}

-- the four cases in which the code tests whether two ranges have a byte in common
module _ (a k b l : ℕ) where
  pub share_first : a ≤ b → b - a < k → ltb 0 l ≡ share_byte a k b l
  unfolding share_byte
  share_first h g =
      says_same (says_lt 0 l) (says_as (says_lt (max a b) (min (a + k) (b + l))) (λ p. omega arith) (λ p. omega arith))

  pub share_second : b < a → a - b < l → ltb 0 k ≡ share_byte a k b l
  unfolding share_byte
  share_second h g =
      says_same (says_lt 0 k) (says_as (says_lt (max a b) (min (a + k) (b + l))) (λ p. omega arith) (λ p. omega arith))

  pub apart_first : a ≤ b → k ≤ b - a → ltb (b - a) k ≡ share_byte a k b l
  unfolding share_byte
  apart_first h g =
      says_same (says_lt (b - a) k) (says_as (says_lt (max a b) (min (a + k) (b + l))) (λ p. omega arith) (λ p. omega arith))

  pub apart_second : b < a → l ≤ a - b → ltb (a - b) l ≡ share_byte a k b l
  unfolding share_byte
  apart_second h g =
      says_same (says_lt (a - b) l) (says_as (says_lt (max a b) (min (a + k) (b + l))) (λ p. omega arith) (λ p. omega arith))

-- the refusals of a new ring, from what the code finds of its size, its end and the rings that it meets
module _ (c : Controller) (n entry size base : ℕ) {wrong : Bool} (w : wrong ≡ wrong_size size) (x : wrong ≡ false)
    (e : base % 4096 ≡ 0) {out : Bool} (o : out ≡ ltb n (base + entry * size)) where
  pub ring_5 : out ≡ true → 5 ≡ first_match (ring_rules c n entry size base)
  ring_5 f = rw (← w, x, eq-eqb (base % 4096) 0 e, ← o, f)

  module _ (f : out ≡ false) {meets : Bool} (s : meets ≡ shares c base (entry * size)) where
    pub ring_6 : meets ≡ true → 6 ≡ first_match (ring_rules c n entry size base)
    ring_6 g = rw (← w, x, eq-eqb (base % 4096) 0 e, ← o, f, ← s, g)

    pub ring_0 : meets ≡ false → 0 ≡ first_match (ring_rules c n entry size base)
    ring_0 g = rw (← w, x, eq-eqb (base % 4096) 0 e, ← o, f, ← s, g)
