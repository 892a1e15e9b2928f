-- A piece of a trace, record by record.
use Rattle.std.specs.Prelude.{ℕ, List, [], ◌∷◌, ◌++◌, take, drop}
use Rattle.trace.specs.Trace.{records}
use Rattle.transcript.specs.declared.summary.Tally.{Tally}
use Rattle.transcript.specs.Record.{refusal_of, record_line}
use Rattle.transcript.specs.Tally.{counted}

-- records, each with its answer record: 16 bytes for each
abbrev pub answered : List (List ℕ) → List ℕ → List (List ℕ × List ℕ)
answered [] answers = []
answered (r ∷ rs) answers = (r, take 16 answers) ∷ answered rs (drop 16 answers)

-- the tally after records, given that before them
unfoldable pub tallied : Tally → List (List ℕ × List ℕ) → Tally
tallied t [] = t
tallied t (x ∷ xs) = tallied (counted t (refusal_of x.1)) xs

-- a line for each, by its number
unfoldable pub told : Tally → List (List ℕ × List ℕ) → List ℕ
told t [] = []
told t (x ∷ xs) = let u = counted t (refusal_of x.1) in record_line u.records x.0 x.1 ++ told u xs

-- the lines of a piece, and the tally after it, given the tally before it and the answer records
abbrev pub piece_text : Tally → List ℕ → List ℕ → List ℕ
piece_text t trace answers = told t (answered (records trace) answers)

abbrev pub piece_tally : Tally → List ℕ → List ℕ → Tally
piece_tally t trace answers = tallied t (answered (records trace) answers)
