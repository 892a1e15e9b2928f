-- A record of a trace and its answer record, on a line.
use Rattle.std.specs.Prelude.{◌≡◌, ℕ, suc, ◌+◌, ◌≤◌, true, false, List, [], ◌∷◌, ◌++◌, length, ◌==◌, nat_lt, Result, Ok, Err}
use Rattle.rules.specs.Rules.{pick, settle, outside_of}
use Rattle.le.specs.Le.{le_at}
use Rattle.trace.specs.Record.{sent, any_set, spares, record_in}
use Rattle.trace.specs.declared.Record.{Record}
use Rattle.trace.specs.declared.Record.TheVariants as R
use Rattle.print.specs.Text.{bytes, line_end}
use Rattle.refusals.specs.Named.{named, pair, refused_text}

-- ---- what a record asks for

abbrev pub short_text : List ℕ → List ℕ
short_text r = named (bytes "only") (length r) ++ bytes " of 16 bytes"

-- the place of the first byte that is not zero
unfoldable pub first_set : List ℕ → ℕ
first_set [] = 0
first_set (b ∷ bs) = pick (b == 0) (suc (first_set bs)) 0

-- the place of a record's first spare byte: 1 in a start, else 4
abbrev pub spare_from : List ℕ → ℕ
spare_from r = pick (sent r == 3) 1 4

-- "A record that asks for no call names its first wrong byte": byte 0 of an unknown call, else the first spare byte that is not zero
unfoldable pub wrong_byte : List ℕ → ℕ
wrong_byte r = pick (outside_of 1 4 (sent r)) 0 (spare_from r + first_set (spares r))

-- a whole record that has such a byte
pub record Wrong (r : List ℕ) : Type 0 where
  pub whole : 16 ≤ length r
  pub spare : outside_of 1 4 (sent r) ≡ false → any_set (spares r) ≡ true

-- a call that is known, before what is wrong with its record
unfoldable pub call_name : ℕ → List ℕ
call_name n =
    pick (n == 1) (bytes "tail write, ")
    (pick (n == 2) (bytes "head write, ") (pick (n == 3) (bytes "start, ") (pick (n == 4) (bytes "finish, ") [])))

abbrev pub wrong_text : List ℕ → List ℕ
wrong_text r = call_name (sent r) ++ pair (bytes "byte") (wrong_byte r) (bytes " is") (le_at 1 r (wrong_byte r))

-- by what its bytes r are read as
abbrev pub asks : List ℕ → Result Record ℕ → List ℕ
asks r (Ok (R.TailWrite queue value)) = pair (bytes "tail write, SQ") queue (bytes ", value") value
asks r (Ok (R.HeadWrite queue value)) = pair (bytes "head write, CQ") queue (bytes ", value") value
asks r (Ok R.Start) = bytes "start"
asks r (Ok (R.Finish tag status)) = pair (bytes "finish, tag") tag (bytes ", status") status
asks r (Err n) = pick (nat_lt (length r) 16) (short_text r) (wrong_text r)
asks r (Ok R.End) = []

unfoldable pub asked_text : List ℕ → List ℕ
asked_text r = asks r (record_in r)

-- ---- what came of it, by its answer record

-- "byte 0 as sent, refusal number, two result bytes"
abbrev pub refusal_of : List ℕ → ℕ
refusal_of a = le_at 1 a 1

abbrev pub result_of : List ℕ → ℕ
result_of a = le_at 2 a 2

-- "A start names its first tag, a finish the slot posted"
unfoldable pub done_text : ℕ → ℕ → List ℕ
done_text call result =
    pick (call == 3) (named (bytes "done, tag") result) (pick (call == 4) (named (bytes "done, slot") result) (bytes "done"))

unfoldable pub answer_text : List ℕ → List ℕ
answer_text a = settle (refusal_of a) refused_text (done_text (sent a) (result_of a))

-- ---- the line

-- a name, a number and what is said of it
abbrev pub titled : List ℕ → ℕ → List ℕ
titled name n = named name n ++ bytes ": "

-- of a record by its number, its bytes and its answer record
unfoldable pub record_line : ℕ → List ℕ → List ℕ → List ℕ
record_line number r a = titled (bytes "record") number ++ (asked_text r ++ (bytes ": " ++ (answer_text a ++ line_end)))
