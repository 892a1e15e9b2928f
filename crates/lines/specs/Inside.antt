-- What holds between the steps of a reader of lines.
use Rattle.std.specs.Prelude.{◌≤◌}
use Rattle.lines.specs.declared.Lines.{Lines}
use Rattle.lines.specs.Sizes.{chunk_bytes, held_bytes}

-- what is read lies in the chunk, the chunk in its buffer, and what is held of a line in its own
pub record Inside (l : Lines) : Type 0 where
  pub place : l.read ≤ l.count
  pub chunk : l.count ≤ chunk_bytes
  pub line : l.held ≤ held_bytes
