-- A record of a plant's trace.
use Rattle.std.specs.Prelude.{ℕ, Bool, false, not, ◌||◌, List, [], ◌∷◌, ltb, eqb, length, drop, Option, Some, None, Result, Ok, Err}
use Rattle.rules.specs.Rules.{pick, Table, first_match, settle, outside_of}
use Rattle.le.specs.Le.{le_at}
use Rattle.controller.specs.Calls.{Call, tail_write, head_write, start, finish}
use Rattle.trace.specs.declared.Kind.{Kind}
use Rattle.trace.specs.declared.Kind.TheVariants as K
use Rattle.trace.specs.declared.Record.{Record}
use Rattle.trace.specs.declared.Record.TheVariants as R

-- "byte 0 the call (1 tail write, 2 head write, 3 start, 4 finish), byte 1 the queue or tag, bytes 2 to 3 a value"
abbrev pub sent : List ℕ → ℕ
sent r = le_at 1 r 0

abbrev pub target : List ℕ → ℕ
target r = le_at 1 r 1

abbrev pub value : List ℕ → ℕ
value r = le_at 2 r 2

-- the kind of call that byte 0 names
abbrev pub kind_of : ℕ → Option Kind
kind_of n =
    pick (eqb n 1) (Some K.TailWrite)
    (pick (eqb n 2) (Some K.HeadWrite) (pick (eqb n 3) (Some K.Start) (pick (eqb n 4) (Some K.Finish) None)))

-- the place of the first spare byte of a record
abbrev pub first_spare : Kind → ℕ
first_spare K.TailWrite = 4
first_spare K.HeadWrite = 4
first_spare K.Start = 1
first_spare K.Finish = 4

-- some byte is not zero
abbrev pub any_set : List ℕ → Bool
any_set [] = false
any_set (b ∷ bs) = not (eqb b 0) || any_set bs

-- "the rest zero; in a start bytes 1 to 3 are zero too"
abbrev pub spares : List ℕ → List ℕ
spares r = drop (pick (eqb (sent r) 3) 1 4) r

-- "30 for an unknown call or a nonzero spare byte, and 31, before 30, for a last short record"
abbrev pub record_rules : List ℕ → Table
record_rules r = (ltb (length r) 16, 31) ∷ (outside_of 1 4 (sent r), 30) ∷ (any_set (spares r), 30) ∷ []

-- the call of a whole record
abbrev pub call_in : List ℕ → Record
call_in r =
    pick (eqb (sent r) 1) (R.TailWrite (target r) (value r))
    (pick (eqb (sent r) 2) (R.HeadWrite (target r) (value r)) (pick (eqb (sent r) 3) R.Start (R.Finish (target r) (value r))))

-- a record of these bytes: 16, or fewer for a last short one
unfoldable pub record_in : List ℕ → Result Record ℕ
record_in r = settle (first_match (record_rules r)) Err (Ok (call_in r))

-- what a record asks for: a call, or none, by its number
pub data Asked : Type 0 where
  call : Call → Asked
  none : ℕ → Asked

-- the papers' number and values for each record; "A finish takes the value as status and 0 as result"
abbrev pub asked : Result Record ℕ → Asked
asked (Ok (R.TailWrite queue value)) = call (tail_write queue value)
asked (Ok (R.HeadWrite queue value)) = call (head_write queue value)
asked (Ok R.Start) = call start
asked (Ok (R.Finish tag status)) = call (finish tag status 0)
asked (Err n) = none n
asked (Ok R.End) = none 0

-- the number of what a record asks for: 0 for a call
abbrev pub number_in : Asked → ℕ
number_in (call x) = 0
number_in (none n) = n

abbrev pub asked_calls : Asked → List Call
asked_calls (call x) = x ∷ []
asked_calls (none n) = []
