-- The lines of a text.
use Rattle.std.specs.Prelude.{ℕ, List, [], ◌∷◌, ◌++◌, take, ◌==◌}
use Rattle.rules.specs.Rules.{pick}
use Rattle.parse.specs.Line.{before, without_cr, ended}
use Rattle.lines.specs.Sizes.{held_bytes}

-- what is kept of a line
abbrev pub kept : List ℕ → List ℕ
kept line = take held_bytes line

-- "One CR right before the LF is passed over": what counts of a line that ended in LF
abbrev pub counted : List ℕ → List ℕ
counted line = take (without_cr line) line

-- the bytes before the first LF
abbrev pub to_lf : List ℕ → List ℕ
to_lf text = take (before 10 text) text

-- the lines that end in a text, the bytes w of the first being read already
unfoldable pub lines_on : List ℕ → List ℕ → List (List ℕ)
lines_on w [] = []
lines_on w (b ∷ bs) = pick (b == 10) (counted (kept w) ∷ lines_on [] bs) (lines_on (w ++ (b ∷ [])) bs)

-- what it has of the line that does not end in it
unfoldable pub begun_on : List ℕ → List ℕ → List ℕ
begun_on w [] = w
begun_on w (b ∷ bs) = pick (b == 10) (begun_on [] bs) (begun_on (w ++ (b ∷ [])) bs)

-- the lines of a file: a last line without LF counts
abbrev pub lines_of : List ℕ → List (List ℕ)
lines_of text = lines_on [] text ++ ended (kept (begun_on [] text))
