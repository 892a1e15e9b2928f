-- The room that a caller needs. Assumes nothing.
use Rattle.std.specs.Prelude.{Result, Ok, Err}
use Rattle.std.proofs.Common.{
  ◌≡◌,
  ℕ,
  ◌+◌,
  ◌*◌,
  ◌≤◌,
  Bool,
  eqb,
  ltb,
  List,
  [],
  ◌∷◌,
  ◌++◌,
  length,
  drop,
  refl,
  arith,
  length-append,
  length-drop,
}
use Rattle.rules.specs.Rules.{pick, settle}
use Rattle.rules.proofs.Cases.{pick_cases}
use Rattle.le.specs.Le.{le_at}
use Rattle.trace.specs.Record.{sent, record_in}
use Rattle.trace.specs.Trace.{begun, records}
use Rattle.trace.specs.declared.Record.{Record}
use Rattle.trace.specs.declared.Record.TheVariants as R
use Rattle.trace.proofs.Joined.{one_each}
use Rattle.print.specs.Text.{bytes, line_end}
use Rattle.refusals.specs.Meaning.{meaning}
use Rattle.refusals.specs.Named.{named, pair, refused_text}
use Rattle.refusals.proofs.Lengths.{named_most, pair_most, meaning_most, refused_most}
use Rattle.transcript.specs.declared.summary.Tally.{Tally}
use Rattle.transcript.specs.Record.{
  wrong_byte,
  call_name,
  short_text,
  wrong_text,
  asks,
  asked_text,
  refusal_of,
  result_of,
  done_text,
  answer_text,
  titled,
  record_line,
}
use Rattle.transcript.specs.Tally.{counted}
use Rattle.transcript.specs.Piece.{answered, told, piece_text}
use Rattle.transcript.specs.Summary.{counts_text, margin_text, row_text, rows_text, summary_text}
use Rattle.transcript.specs.Setup.{setup_line}

-- one of two texts
one_most : (b : Bool) (x y : List ℕ) (k : ℕ) → length x ≤ k → length y ≤ k → length (pick b x y) ≤ k
one_most b x y k f g = pick_cases (λ (t : List ℕ). length t ≤ k) b x y (λ e. f) (λ e. g)

-- ---- a record

title_most : (name : List ℕ) (n : ℕ) → length (titled name n) ≤ length name + 23
title_most name n = omega (arith, length-append (named name n) (bytes ": "), named_most name n)

name_most : (n : ℕ) → length (call_name n) ≤ 12
unfolding call_name
name_most n =
    one_most (eqb n 1) _ _ 12 (omega arith)
    (one_most (eqb n 2) _ _ 12 (omega arith) (one_most (eqb n 3) _ _ 12 (omega arith) (one_most (eqb n 4) _ _ 12 (omega arith) (omega
    arith))))

short_most : (r : List ℕ) → length (short_text r) ≤ 63
short_most r = omega (arith, length-append (named (bytes "only") (length r)) (bytes " of 16 bytes"), named_most (bytes "only") (length r))

wrong_most : (r : List ℕ) → length (wrong_text r) ≤ 63
wrong_most r =
    let p = pair (bytes "byte") (wrong_byte r) (bytes " is") (le_at 1 r (wrong_byte r)) in
    omega (
      arith,
      length-append (call_name (sent r)) p,
      name_most (sent r),
      pair_most (bytes "byte") (wrong_byte r) (bytes " is") (le_at 1 r
          (wrong_byte r)),
    )

asks_most : (r : List ℕ) (x : Result Record ℕ) → length (asks r x) ≤ 63
asks_most r (Ok (R.TailWrite q v)) = omega (arith, pair_most (bytes "tail write, SQ") q (bytes ", value") v)
asks_most r (Ok (R.HeadWrite q v)) = omega (arith, pair_most (bytes "head write, CQ") q (bytes ", value") v)
asks_most r (Ok R.Start) = omega arith
asks_most r (Ok (R.Finish t s)) = omega (arith, pair_most (bytes "finish, tag") t (bytes ", status") s)
asks_most r (Ok R.End) = omega arith
asks_most r (Err n) = one_most (ltb (length r) 16) (short_text r) (wrong_text r) 63 (short_most r) (wrong_most r)

asked_most : (r : List ℕ) → length (asked_text r) ≤ 63
unfolding asked_text
asked_most r = asks_most r (record_in r)

done_most : (call result : ℕ) → length (done_text call result) ≤ 130
unfolding done_text
done_most call result =
    one_most (eqb call 3) _ _ 130 (omega (arith, named_most (bytes "done, tag") result))
    (one_most (eqb call 4) _ _ 130 (omega (arith, named_most (bytes "done, slot") result)) (omega arith))

answer_most : (a : List ℕ) → length (answer_text a) ≤ 130
unfolding answer_text settle
answer_most a =
    one_most (eqb (refusal_of a) 0) (done_text (sent a) (result_of a)) (refused_text (refusal_of a)) 130 (done_most (sent a) (result_of a))
    (refused_most (refusal_of a))

line_most : (n : ℕ) (r a : List ℕ) → length (record_line n r a) ≤ 256
unfolding record_line
line_most n r a =
    let said = answer_text a ++ line_end in
    omega (
      arith,
      length-append (titled (bytes "record") n) (asked_text r ++ (bytes ": " ++ said)),
      length-append (asked_text r) (bytes ": " ++ said),
      length-append (answer_text a) line_end,
      title_most (bytes "record") n,
      asked_most r,
      answer_most a,
    )

-- ---- a piece

told_most : (t : Tally) (xs : List (List ℕ × List ℕ)) → length (told t xs) ≤ 256 * length xs
unfolding told
told_most t [] = omega arith
told_most t (x ∷ xs) =
    let u : Tally = counted t (refusal_of x.1) in
    omega
    (arith, length-append (record_line u.records x.0 x.1) (told u xs), line_most u.records x.0 x.1, told_most u xs)

each_answered : (rs : List (List ℕ)) (a : List ℕ) → length (answered rs a) ≡ length rs
each_answered [] a = refl
each_answered (r ∷ rs) a = omega (arith, each_answered rs (drop 16 a))

-- 256 records, each on a line of at most 256 bytes
pub piece_most : (t : Tally) (trace answers : List ℕ) → length trace ≤ 4096 → length (piece_text t trace answers) ≤ 65536
unfolding begun
piece_most t trace answers h =
    omega (arith, told_most t (answered (records trace) answers), each_answered (records trace) answers, one_each trace)

-- ---- the summary

row_most : (n count : ℕ) → length (row_text n count) ≤ 148
unfolding row_text margin_text
row_most n count =
    let p = pair (bytes " ") n (bytes " ") count in
    let end = bytes "  " ++ (meaning n ++ line_end) in
    one_most (eqb count 0) [] (margin_text n ++ (p ++ end)) 148 (omega arith)
    (omega (
      arith,
      length-append (margin_text n) (p ++ end),
      one_most (ltb n 10) (bytes " ") [] 1 (omega arith) (omega arith),
      length-append p end,
      pair_most (bytes " ") n (bytes " ") count,
      length-append (meaning n) line_end,
      meaning_most n,
    ))

rows_most : (n : ℕ) (counts : List ℕ) → length (rows_text n counts) ≤ 148 * length counts
unfolding rows_text
rows_most n [] = omega arith
rows_most n (c ∷ cs) = omega (arith, length-append (row_text n c) (rows_text (n + 1) cs), row_most n c, rows_most (n + 1) cs)

pub summary_most : (t : Tally) → length t.numbers ≡ 36 → length (summary_text t) ≤ 5276
summary_most t h =
    let a = pair (bytes "summary:") t.records (bytes " records,") t.calls in
    let b = named (bytes " calls,") t.refused in
    omega (
      arith,
      length-append (counts_text t) (rows_text 1 (drop 1 t.numbers)),
      length-append a (b ++ bytes " refused\n"),
      length-append b (bytes " refused\n"),
      pair_most (bytes "summary:") t.records (bytes " records,") t.calls,
      named_most (bytes " calls,") t.refused,
      rows_most 1 (drop 1 t.numbers),
      length-drop 1 t.numbers,
    )

-- ---- a refused line of the set-up

pub setup_line_most : (n : ℕ) (word : List ℕ) (refusal : ℕ) → length (setup_line n word refusal) ≤ length word + 166
unfolding setup_line
setup_line_most n word refusal =
    let said = refused_text refusal ++ line_end in
    omega (
      arith,
      length-append (titled (bytes "setup line") n) (word ++ (bytes ": " ++ said)),
      length-append word (bytes ": " ++ said),
      length-append (refused_text refusal) line_end,
      title_most (bytes "setup line") n,
      refused_most refusal,
    )
