-- "The summary counts the records, those that asked for a call, and those refused, and has a row for each refusal number: the number,
-- how many records it refused, and its meaning."
use Rattle.std.specs.Prelude.{ℕ, ◌+◌, List, [], ◌∷◌, ◌++◌, drop, ◌==◌, nat_lt}
use Rattle.rules.specs.Rules.{pick}
use Rattle.print.specs.Text.{bytes, line_end}
use Rattle.refusals.specs.Meaning.{meaning}
use Rattle.refusals.specs.Named.{named, pair}
use Rattle.transcript.specs.declared.summary.Tally.{Tally}

abbrev pub counts_text : Tally → List ℕ
counts_text t =
    pair (bytes "summary:") t.records (bytes " records,") t.calls ++ (named (bytes " calls,") t.refused ++ bytes " refused\n")

-- a number of one digit stands below the second of two
unfoldable pub margin_text : ℕ → List ℕ
margin_text n = pick (nat_lt n 10) (bytes " ") []

-- a number's row: nothing where it refused no record
unfoldable pub row_text : ℕ → ℕ → List ℕ
row_text n count =
    pick (count == 0) [] (margin_text n ++ (pair (bytes " ") n (bytes " ") count ++ (bytes "  " ++ (meaning n ++ line_end))))

-- the rows of the numbers from n on, given how many records each refused
unfoldable pub rows_text : ℕ → List ℕ → List ℕ
rows_text n [] = []
rows_text n (count ∷ counts) = row_text n count ++ rows_text (n + 1) counts

-- the numbers begin with 1
abbrev pub summary_text : Tally → List ℕ
summary_text t = counts_text t ++ rows_text 1 (drop 1 t.numbers)
