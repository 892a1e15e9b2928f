-- A plant's trace: records of 16 bytes, no header.
use Rattle.std.specs.Prelude.{ℕ, zero, suc, ◌+◌, ◌/◌, min, List, [], ◌∷◌, ◌++◌, ltb, leb, length, take, drop, Result, Ok}
use Rattle.rules.specs.Rules.{pick, first_match}
use Rattle.le.specs.Memory.{part}
use Rattle.controller.specs.Calls.{Call}
use Rattle.trace.specs.declared.Record.{Record}
use Rattle.trace.specs.declared.Record.TheVariants.{End}
use Rattle.trace.specs.Record.{record_rules, record_in, asked, asked_calls}

-- how many records are begun in n bytes
unfoldable pub begun : ℕ → ℕ
begun n = (n + 15) / 16

-- the first n records, each by its bytes: 16, fewer for a last short one
abbrev pub first_records : ℕ → List ℕ → List (List ℕ)
first_records zero t = []
first_records (suc n) t = take 16 t ∷ first_records n (drop 16 t)

unfoldable pub records : List ℕ → List (List ℕ)
records t = first_records (begun (length t)) t

-- the calls that records make
abbrev pub calls_in : List (List ℕ) → List Call
calls_in [] = []
calls_in (r ∷ rs) = asked_calls (asked (record_in r)) ++ calls_in rs

-- what stands at a place of a trace
unfoldable pub record_at : List ℕ → ℕ → Result Record ℕ
record_at t place = pick (ltb place (length t)) (record_in (part t place 16)) (Ok End)

-- the number of what stands there: 0 where nothing does, else that of the record
abbrev pub refusal_at : List ℕ → ℕ → ℕ
refusal_at t place = first_match ((leb (length t) place, 0) ∷ record_rules (part t place 16))

-- where the next record begins: at most at the trace's end
unfoldable pub next_at : List ℕ → ℕ → ℕ
next_at t place = min (place + 16) (length t)
