-- The sizes of the buffers, in bytes.
use Rattle.std.specs.Prelude.{ℕ, ◌+◌}
use Rattle.stateless.specs.Leaving.{answer_bytes}
use Rattle.lines.specs.Sizes.{held_bytes}

-- what is written at once
abbrev pub out_bytes : ℕ
out_bytes = 65536

-- the room for a line of n bytes and its answer in any form
abbrev pub shown_most : ℕ → ℕ
shown_most n = answer_bytes + n + 20

-- the same for the longest line that is held
abbrev pub room_bytes : ℕ
room_bytes = shown_most held_bytes
