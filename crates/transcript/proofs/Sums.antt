-- The texts of the summary, case by case, and row by row. Assumes nothing.
use Rattle.std.proofs.Common.{
  ◌≡◌,
  ℕ,
  ◌+◌,
  ◌<◌,
  ◌≤◌,
  List,
  [],
  ◌++◌,
  length,
  get_or,
  drop,
  add-one,
  drop_of_length-le,
  drop-cons,
  le-ltb,
  lt-ltb,
  ne_eqb,
}
use Rattle.print.specs.Text.{bytes, line_end}
use Rattle.refusals.specs.Meaning.{meaning}
use Rattle.refusals.specs.Named.{pair}
use Rattle.transcript.specs.Summary.{margin_text, row_text, rows_text}

module _ (n : ℕ) where
  pub margin_one : n < 10 → bytes " " ≡ margin_text n
  unfolding margin_text
  margin_one h = rw (lt-ltb n 10 h)

  pub margin_none : 10 ≤ n → [] ≡ margin_text n
  unfolding margin_text
  margin_none h = rw (le-ltb n 10 h)

  module _ (count : ℕ) where
    pub row_none : count ≡ 0 → [] ≡ row_text n count
    unfolding row_text
    row_none e = rw e

    module _ (d : count ≡ 0 → ⊥) where
      pub row_some : margin_text n ++ (pair (bytes " ") n (bytes " ") count ++ (bytes "  " ++ (meaning n ++ line_end))) ≡ row_text n count
      unfolding row_text
      row_some = rw (ne_eqb count 0 d)

-- ---- the rows of the numbers from n on, of the counts of all

module _ (counts : List ℕ) (n : ℕ) where
  pub rows_end : length counts ≤ n → rows_text n (drop n counts) ≡ []
  unfolding rows_text
  rows_end h = rw (drop_of_length-le counts h)

  pub rows_next : n < length counts
      → rows_text n (drop n counts) ≡ row_text n (get_or counts n 0) ++ rows_text (n + 1) (drop (n + 1) counts)
  unfolding rows_text
  rows_next h = rw (drop-cons counts n 0 h, add-one n)
