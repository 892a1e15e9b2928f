-- Slots of a ring, and the phase tag from one to the next.
use Rattle.std.specs.Prelude.{ℕ, ◌+◌, ◌-◌, ◌%◌, Bool, eqb}
use Rattle.rules.specs.Rules.{pick, outside_of}

-- "size outside 2 to 1,024 entries" (3)
abbrev pub wrong_size : ℕ → Bool
wrong_size size = outside_of 2 1024 size

-- the slot after p
unfoldable pub next : ℕ → ℕ → ℕ
next size p = (p + 1) % size

-- how far b lies after a: "Distances are modulo the size"
unfoldable pub distance : ℕ → ℕ → ℕ → ℕ
distance size a b = (b + size - a) % size

-- the phase tag of the slot after p, where that of p is tag: it "turns over at each wrap"
unfoldable pub phase_after : ℕ → ℕ → ℕ → ℕ
phase_after size p phase = pick (eqb (p + 1) size) (1 - phase) phase
