-- Turns within a group of queues. The group's candidates are a test on ids. `candidate`, `holder` and `remainder` are document 01's
-- terms: "A candidate is an unmarked SQ that is not empty", "A group has a turn holder and a remainder".
use Rattle.std.specs.Prelude.{ℕ, ◌+◌, ◌-◌, ◌%◌, ◌^◌, Bool, true, false, ◌&&◌, ltb, Option, Some, None}
use Rattle.rules.specs.Rules.{pick}
use Rattle.bits.specs.Bits.{first}
use Rattle.arbiter.specs.declared.Remainder.{Remainder}
use Rattle.arbiter.specs.declared.Remainder.TheVariants.{Left, NoLimit}
use Rattle.arbiter.specs.declared.Group.{Group}

-- "A group has a turn holder and a remainder, at first holder 15, remainder 0."
abbrev pub start : Group
start = record { holder = 15; remainder = Left 0 }

-- "the next candidate in rising id order after the holder, wrapping, the holder last": the queue d steps after the holder h
-- is (h + d) % 16, and the next candidate is at the fewest steps from 1 to 16, at which the holder itself is
unfoldable pub next_after : (ℕ → Bool) → ℕ → Option ℕ
next_after p h =
    let d = first (λ d. p ((h + d) % 16)) 1 16 in pick (ltb d 17) (Some ((h + d) % 16)) None

-- "with remainder above 0"
abbrev pub above_zero : Remainder → Bool
above_zero (Left n) = ltb 0 n
above_zero NoLimit = true

-- a remainder in document 01's words: whether it is without limit, and how much is left where it is not
abbrev pub remainder_answer : Remainder → Bool × ℕ
remainder_answer (Left n) = (false, n)
remainder_answer NoLimit = (true, 0)

-- a remainder as one number: the largest of 64 bits stands for no limit
abbrev pub remainder_number : Remainder → ℕ
remainder_number (Left n) = n
remainder_number NoLimit = 2 ^ 64 - 1

-- "Serving lowers the remainder by one; a remainder without limit stays so."
abbrev pub lowered : Remainder → Remainder
lowered (Left n) = Left (n - 1)
lowered NoLimit = NoLimit

-- queue i is served out of the remainder r, and holds the turn
abbrev pub served : ℕ → Remainder → ℕ × Group
served i r = (i, record { holder = i; remainder = lowered r })

-- the next candidate "takes the turn with a full remainder and is served"
abbrev pub takes : Remainder → Option ℕ → Option (ℕ × Group)
takes full (Some i) = Some (served i full)
takes full None = None

-- "If the holder is a candidate with remainder above 0, it is served. Otherwise the next candidate .. takes the turn"
unfoldable pub turn : Remainder → Group → (ℕ → Bool) → Option (ℕ × Group)
turn full g p =
    pick (p g.holder && above_zero g.remainder)
    (Some (served g.holder g.remainder))
    (takes full (next_after p g.holder))
