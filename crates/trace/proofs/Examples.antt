-- A record of each call, with four different bytes, computed; and one that asks for none. Assumes nothing.
use Prim.Native.Nat.{ℕ}
use mathlib.Core.List.{List, [], ◌∷◌}
use mathlib.Core.Path.{◌≡◌, refl}
use lib.ListN.{replicate}
use Rattle.rules.specs.Rules.{settle}
use Rattle.le.specs.Le.{le_at}
use Rattle.controller.specs.Calls.{tail_write, head_write, start, finish}
use Rattle.trace.specs.Record.{record_in, call, none, asked}

-- four bytes, and twelve zeros
abbrev padded : ℕ → ℕ → ℕ → ℕ → List ℕ
padded a b c d = a ∷ b ∷ c ∷ d ∷ replicate 12 0

pub calls : (asked (record_in (padded 1 2 3 4)) ≡ call (tail_write 2 1027))
    × (asked (record_in (padded 2 255 5 6)) ≡ call (head_write 255 1541))
    × (asked (record_in (padded 3 0 0 0)) ≡ call start)
    × (asked (record_in (padded 4 64 7 128)) ≡ call (finish 64 32775 0))
unfolding record_in settle le_at
calls = (refl, refl, refl, refl)

pub numbers : (asked (record_in (padded 0 0 0 0)) ≡ none 30)
    × (asked (record_in (padded 5 0 0 0)) ≡ none 30)
    × (asked (record_in (padded 3 0 0 1)) ≡ none 30)
    × (asked (record_in (9 ∷ [])) ≡ none 31)
unfolding record_in settle le_at
numbers = (refl, refl, refl, refl)
