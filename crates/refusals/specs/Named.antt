-- Words with numbers, and a refusal in words.
use Rattle.std.specs.Prelude.{ℕ, List, ◌++◌}
use Rattle.print.specs.Text.{bytes, next}
use Rattle.refusals.specs.Meaning.{meaning}

-- a text, a space and a number
abbrev pub named : List ℕ → ℕ → List ℕ
named name n = name ++ next n

-- two of them
abbrev pub pair : List ℕ → ℕ → List ℕ → ℕ → List ℕ
pair a x b y = named a x ++ named b y

-- a refusal with its meaning
abbrev pub refused_text : ℕ → List ℕ
refused_text n = named (bytes "refused") n ++ (bytes ", " ++ meaning n)
