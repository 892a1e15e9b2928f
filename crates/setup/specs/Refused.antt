-- What is told of a line of the set-up whose call was refused.
use Rattle.std.specs.Prelude.{ℕ, List, [], ◌∷◌}
use Rattle.parse.specs.Line.{words_of}
use Rattle.transcript.specs.Setup.{setup_line}

-- the first of words
abbrev pub first_of : List (List ℕ) → List ℕ
first_of [] = []
first_of (w ∷ ws) = w

-- a line by its number and its command's word
abbrev pub refused_line : List ℕ → ℕ → ℕ → List ℕ
refused_line line number refusal = setup_line number (first_of (words_of line)) refusal
