-- The rows that are left of a table, from a place on. Assumes nothing.
use Rattle.std.proofs.Common.{◌≡◌, ℕ, zero, suc, ◌+◌, ◌<◌, ◌≤◌, List, [], ◌∷◌, length, get_or, drop, map, eqb, refl, sym, ap, ◌∙◌, subst, arith, drop_of_length-le, Bor}
use Rattle.std.proofs.lemmas.List.{length-map}
use native.Mathlib.Numerals.{add-one}
use borrow.Author.Tests.{eq-eqb, ne_eqb}
use Rattle.rules.specs.Rules.{pick}
use Rattle.rules.proofs.Tests.{pick_yes, pick_no}
use Rattle.print.specs.Text.{bytes}
use Rattle.refusals.specs.Meaning.{Row, meanings, meaning, text_in}

-- a row as the code holds it: its text is lent
abbrev pub Lent : Type 0
Lent = ℕ × Bor (List ℕ)

abbrev pub row_of : Lent → Row
row_of r = (r.0, r.1.now)

-- rows that are those of the table
pub record Table (rows : List Lent) : Type 0 where
  pub same : map row_of rows ≡ meanings

-- what would stand behind them
abbrev past : Lent
past = (0, record { ref_ptr = (0, 0); now = [] })

pub all_left : (n : ℕ) → text_in meanings n ≡ meaning n
unfolding meaning
all_left n = refl

rows_many : length meanings ≡ 25
unfolding meanings
rows_many = refl

next_row : (n : ℕ) (rows : List Lent) (i : ℕ) → i < length rows
    → text_in (drop i (map row_of rows)) n
    ≡ pick (eqb n (get_or rows i past).0) (get_or rows i past).1.now (text_in (drop (suc i) (map row_of rows)) n)
next_row n [] i h = absurd (omega arith)
next_row n (r ∷ rows) zero h = refl
next_row n (r ∷ rows) (suc i) h = next_row n rows i (omega arith)

-- the row at a place, where the rows from there on have the meaning of n
module _ (n : ℕ) {rows : List Lent} (e : Table rows) {i : ℕ} (h : i < 25) (k : text_in (drop i meanings) n ≡ meaning n) where
  abbrev here : Lent
  here = get_or rows i past

  abbrev behind : List ℕ
  behind = text_in (drop (i + 1) meanings) n

  row_here : pick (eqb n here.0) here.1.now behind ≡ meaning n
  row_here =
      rw (add-one i)
      (sym (subst (λ (rs : List Row). text_in (drop i rs) n ≡ pick (eqb n here.0) here.1.now (text_in (drop (suc i) rs) n)) e.same
      (next_row n rows i (omega (arith, ap length e.same, length-map rows row_of, rows_many)))) ∙ k)

  pub row_found : here.0 ≡ n → here.1.now ≡ meaning n
  row_found q = sym (pick_yes here.1.now behind (eq-eqb n here.0 (sym q))) ∙ row_here

  pub row_passed : (here.0 ≡ n → ⊥) → behind ≡ meaning n
  row_passed q = sym (pick_no here.1.now behind (ne_eqb n here.0 (λ z. q (sym z)))) ∙ row_here

pub none_left : (n i : ℕ) → 25 ≤ i → text_in (drop i meanings) n ≡ meaning n → bytes "see the table of refusals" ≡ meaning n
none_left n i h k =
    let z : drop i meanings ≡ [] = drop_of_length-le meanings (omega (arith, rows_many)) in
    sym (ap (λ (rs : List Row). text_in rs n) z) ∙ k
