-- A line of the set-up whose call was refused.
use Rattle.std.specs.Prelude.{ℕ, List, ◌++◌}
use Rattle.print.specs.Text.{bytes, line_end}
use Rattle.refusals.specs.Named.{refused_text}
use Rattle.transcript.specs.Record.{titled}

-- "A line whose call is refused is told, with its number": its command's word and the refusal too
unfoldable pub setup_line : ℕ → List ℕ → ℕ → List ℕ
setup_line number word refusal = titled (bytes "setup line") number ++ (word ++ (bytes ": " ++ (refused_text refusal ++ line_end)))
