-- Where rings lie: in the memory given, and apart from each other.
use Rattle.std.specs.Prelude.{ℕ, ◌+◌, ◌*◌, min, max, Bool, ◌&&◌, ◌||◌, ltb}
use Rattle.bits.specs.Bits.{some_below}
use Rattle.controller.specs.declared.Ring.{Ring}
use Rattle.controller.specs.Controller.{Controller}
use Rattle.controller.specs.State.{sq_at, cq_at}

-- a test of a ring, which is given the bytes of its entries too
abbrev pub RingTest : Type 0
RingTest = ℕ → Ring → Bool

-- the ring exists and passes the test
abbrev pub existing : RingTest → RingTest
existing p entry r = r.exists && p entry r

-- the ring of SQ i or that of CQ i exists and passes the test
abbrev pub either_ring : Controller → RingTest → ℕ → Bool
either_ring c p i = existing p 64 (sq_at c i).ring || existing p 16 (cq_at c i).ring

-- the ring of some queue does
unfoldable pub some_ring : Controller → RingTest → Bool
some_ring c p = some_below 16 (either_ring c p)

-- the k bytes at a and the l bytes at b have a byte in common
unfoldable pub share_byte : ℕ → ℕ → ℕ → ℕ → Bool
share_byte a k b l = ltb (max a b) (min (a + k) (b + l))

-- the ring has a byte in common with the k bytes at a
abbrev pub sharing : ℕ → ℕ → RingTest
sharing a k entry r = share_byte a k r.base (entry * r.size)

-- the ring ends past n bytes
abbrev pub ends_past : ℕ → RingTest
ends_past n entry r = ltb n (r.base + entry * r.size)

-- "the new ring shares a byte with an existing ring": k bytes at a
unfoldable pub shares : Controller → ℕ → ℕ → Bool
shares c a k = some_ring c (sharing a k)

-- of n bytes of memory: "a ring does not lie wholly in the memory given"
unfoldable pub outside : Controller → ℕ → Bool
outside c n = some_ring c (ends_past n)
