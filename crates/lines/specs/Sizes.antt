-- The sizes of the buffers, in bytes.
use Rattle.std.specs.Prelude.{ℕ, ◌+◌}
use Rattle.parse.specs.Line.{most_bytes}

-- what is read at once
abbrev pub chunk_bytes : ℕ
chunk_bytes = 65536

-- a line as it is held: one byte more than the longest shows that it is too long
abbrev pub held_bytes : ℕ
held_bytes = most_bytes + 1
