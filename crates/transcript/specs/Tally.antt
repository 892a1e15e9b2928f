-- The records of a trace, counted: how many there were, how many of them asked for a call, how many were refused, and how many by
-- each number.
use Rattle.std.specs.Prelude.{ℕ, suc, ◌+◌, ◌%◌, ◌^◌, List, replicate, ◌==◌, slice_index, slice_set}
use Rattle.rules.specs.Rules.{pick}
use Rattle.refusals.specs.Meaning.{is_of_record, largest}
use Rattle.transcript.specs.declared.summary.Tally.{Tally}

-- none yet: a place for each refusal number, and for 0
abbrev pub no_records : Tally
no_records = record { records = 0; calls = 0; refused = 0; numbers = replicate (suc largest) 0 }

-- one more, in 64 bits: 0 comes after the largest
abbrev pub one_more : ℕ → ℕ
one_more n = (n + 1) % 2 ^ 64

-- one more at a place of a list; none where it has no such place
abbrev pub one_more_at : ℕ → List ℕ → List ℕ
one_more_at i ns = slice_set ns i (one_more (slice_index ns i))

-- a further record, by its refusal number, 0 for none
unfoldable pub counted : Tally → ℕ → Tally
counted t n = record {
  records = one_more t.records;
  calls = pick (is_of_record n) t.calls (one_more t.calls);
  refused = pick (n == 0) t.refused (one_more t.refused);
  numbers = pick (n == 0) t.numbers (one_more_at n t.numbers);
}
