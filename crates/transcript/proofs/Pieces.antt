-- The records that are left of a piece, from a place on. Assumes nothing.
use Rattle.std.proofs.Common.{
  ◌≡◌,
  ℕ,
  ◌+◌,
  ◌-◌,
  ◌<◌,
  ◌≤◌,
  List,
  [],
  ◌∷◌,
  ◌++◌,
  length,
  take,
  drop,
  sym,
  ap,
  ◌∙◌,
  ⊎_elim,
  arith,
  length-drop,
  take_all,
  drop-drop,
}
use native.Mathlib.Nat.{sub-zero}
use Rattle.rules.proofs.Tests.{lt_or_ge}
use Rattle.le.specs.Le.{le_at}
use Rattle.le.specs.Memory.{part}
use Rattle.trace.specs.Trace.{records, next_at}
use Rattle.trace.proofs.Cutting.{records_from, at_end, by_16}
use Rattle.trace.proofs.Fields.{le_at_part}
use Rattle.transcript.specs.declared.summary.Tally.{Tally}
use Rattle.transcript.specs.Record.{refusal_of, record_line}
use Rattle.transcript.specs.Tally.{counted}
use Rattle.transcript.specs.Piece.{answered, tallied, told}

abbrev pub left : List ℕ → List ℕ → ℕ → List (List ℕ × List ℕ)
left trace answers place = answered (records_from trace place) (drop place answers)

module _ (trace answers : List ℕ) where
  -- at its start all
  pub left_all : left trace answers 0 ≡ answered (records trace) answers
  unfolding records
  left_all = rw (sub-zero (length trace))

  module _ (place : ℕ) where
    -- at its end none
    pub told_none : (t : Tally) → length trace ≤ place → told t (left trace answers place) ≡ []
    unfolding told
    told_none t h = rw (at_end trace place h)

    pub tallied_none : (t : Tally) → length trace ≤ place → tallied t (left trace answers place) ≡ t
    unfolding tallied
    tallied_none t h = rw (at_end trace place h)

    -- before it the one there, and those 16 bytes on
    module _ (h : place < length trace) where
      unroll : left trace answers place ≡ (part trace place 16, take 16 (drop place answers)) ∷ left trace answers (place + 16)
      unroll = rw (by_16 trace place h, drop-drop 16 place answers)

      -- by what the code reads
      module _ {n end : ℕ} (e : n ≡ le_at 1 answers (place + 1)) (f : end ≡ next_at trace place) where
        bytes_there : part trace place 16 ≡ take (end - place) (drop place trace)
        unfolding part next_at
        bytes_there =
            ⊎_elim
            (λ (l : length trace < place + 16).
            take_all 16 (drop place trace) (omega (arith, length-drop place trace))
            ∙ sym (take_all (end - place) (drop place trace) (omega (arith, length-drop place trace))))
            (λ (l : place + 16 ≤ length trace).
            let k : 16 ≡ end - place = omega arith in
            ap (λ (k : ℕ). take k (drop place trace)) k)
            (lt_or_ge (length trace) (place + 16))

        answer_there : take 16 (drop place answers) ≡ take (place + 16 - place) (drop place answers)
        answer_there = let k : 16 ≡ place + 16 - place = omega arith in ap (λ (k : ℕ). take k (drop place answers)) k

        refusal_there : refusal_of (take 16 (drop place answers)) ≡ n
        unfolding part
        refusal_there = le_at_part 1 answers place 16 1 (omega arith) ∙ sym e

        module _ (t : Tally) {u : Tally} (c : u ≡ counted t n) where
          counted_there : counted t (refusal_of (take 16 (drop place answers))) ≡ u
          counted_there = ap (counted t) refusal_there ∙ sym c

          pub tallied_next : tallied t (left trace answers place) ≡ tallied u (left trace answers (place + 16))
          unfolding tallied
          tallied_next = ap (tallied t) unroll ∙ ap (λ (x : Tally). tallied x (left trace answers (place + 16))) counted_there

          pub told_next : told t (left trace answers place)
              ≡ record_line u.records (take (end - place) (drop place trace)) (take (place + 16 - place) (drop place answers))
              ++ told u (left trace answers (place + 16))
          unfolding told
          told_next =
              ap (told t) unroll ∙ rw (counted_there, ← bytes_there, ← answer_there)
