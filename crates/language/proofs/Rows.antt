-- The code's table of words and commands: each of its rows is the vocabulary's, and what is left of them from a place on. Assumes nothing.
use Rattle.std.proofs.Common.{◌≡◌, ℕ, ◌+◌, ◌<◌, ◌≤◌, List, [], ◌∷◌, true, false, length, get_or, drop, map, Bor}
use Rattle.std.proofs.Common.{refl, sym, ap, ◌∙◌, arith, drop_of_length-le}
use Rattle.std.proofs.lemmas.List.{get_or-map, length-map, drop-map}
use Rattle.std.specs.Prelude.{Option, Some, None}
use Prim.Native.String.{String}
use native.Mathlib.Numerals.{add-one}
use lib.Seq.{drop-cons}
use Rattle.rules.specs.Rules.{pick}
use Rattle.print.specs.Text.{bytes}
use Rattle.parse.specs.Line.{same}
use Rattle.language.specs.declared.command.Call.TheVariants as C
use Rattle.language.specs.declared.command.Command.{Command}
use Rattle.language.specs.declared.command.Command.TheVariants as K
use Rattle.language.specs.declared.vocabulary.TheConstants.{WORDS}
use Rattle.language.specs.Vocabulary.{vocabulary, among, named}

-- ---- the rows of the code

-- a row by the bytes of its word
abbrev pub Row : Type 0
Row = List ℕ × Command

abbrev pub table : List Row
table = map (λ r. (r.0.now, r.1)) WORDS

abbrev row_of : String × Command → Row
row_of r = (bytes r.0, r.1)

-- what would stand behind the rows
abbrev pub no_row : String × Command
no_row = ("", K.Call C.Controller)

-- the code's row has the word and the command of the vocabulary's
pub record Stands (i : ℕ) : Type 0 where
  pub word : (get_or table i (row_of no_row)).0 ≡ bytes (get_or vocabulary i no_row).0
  pub command : (get_or table i (row_of no_row)).1 ≡ (get_or vocabulary i no_row).1

same_rows : table ≡ map row_of vocabulary
unfolding vocabulary
same_rows = refl

pub rows : length vocabulary ≡ 27
unfolding vocabulary
rows = refl

pub stands : (i : ℕ) → i < 27 → Stands i
stands i h =
    let e : get_or table i (row_of no_row) ≡ row_of (get_or vocabulary i no_row) =
    ap (λ (l : List Row). get_or l i (row_of no_row)) same_rows ∙ get_or-map row_of vocabulary i no_row _ (omega (arith, h, rows)) in
    record { word = ap (λ (r : Row). r.0) e; command = ap (λ (r : Row). r.1) e }

-- ---- the rows that are left, from a place on

-- a row as the code goes over it: its word is lent
abbrev pub Lent : Type 0
Lent = Bor (List ℕ) × Command

abbrev pub row_lent : Lent → Row
row_lent r = (r.0.now, r.1)

-- the command of the first that has the word
abbrev pub found_in : List ℕ → List Lent → Option Command
found_in w [] = None
found_in w (r ∷ rs) = pick (same w r.0.now) (Some r.1) (found_in w rs)

-- there are 27, and the command that a word names is that of the rows from the place on
pub record Left (w : List ℕ) (lent : List Lent) (i : ℕ) : Type 0 where
  pub many : length lent ≡ 27
  pub finds : found_in w (drop i lent) ≡ named w

abbrev past : Lent
past = (record { ref_ptr = (0, 0); now = [] }, K.Call C.Controller)

module _ {w : List ℕ} {lent : List Lent} {i : ℕ} (l : Left w lent i) where
  here : i < 27 → pick (same w (get_or lent i past).0.now) (Some (get_or lent i past).1) (found_in w (drop (i + 1) lent)) ≡ named w
  here h = rw (add-one i) (sym (ap (found_in w) (drop-cons lent i past (omega (arith, h, l.many)))) ∙ l.finds)

  pub row_found : i < 27 → same w (get_or lent i past).0.now ≡ true → Some (get_or lent i past).1 ≡ named w
  row_found h e = rw e at (here h)

  pub row_passed : i < 27 → same w (get_or lent i past).0.now ≡ false → Left w lent (i + 1)
  row_passed h e = record { many = l.many; finds = rw e at (here h) }

  pub none_left : 27 ≤ i → None ≡ named w
  none_left h = sym (ap (found_in w) (drop_of_length-le lent (omega (arith, h, l.many)))) ∙ l.finds

-- ---- those of the code's table

-- they are the table's, and the command that a word names is that of the vocabulary's rows from the place on
pub record Standing (w : List ℕ) (lent : List Lent) (i : ℕ) : Type 0 where
  pub are : map row_lent lent ≡ table
  pub finds : among w (drop i vocabulary) ≡ named w

-- the same of rows by the bytes of their words
found : List ℕ → List Row → Option Command
found w [] = None
found w (r ∷ rs) = pick (same w r.0) (Some r.1) (found w rs)

found_lent : (w : List ℕ) (rs : List Lent) → found_in w rs ≡ found w (map row_lent rs)
unfolding found
found_lent w [] = refl
found_lent w (r ∷ rs) = ap (pick (same w r.0.now) (Some r.1)) (found_lent w rs)

found_of : (w : List ℕ) (rs : List (String × Command)) → found w (map row_of rs) ≡ among w rs
unfolding found among
found_of w [] = refl
found_of w (r ∷ rs) = ap (pick (same w (bytes r.0)) (Some r.1)) (found_of w rs)

module _ {w : List ℕ} {lent : List Lent} {i : ℕ} (l : Standing w lent i) where
  -- from any place on, the table's rows find what the vocabulary's do
  found_among : (j : ℕ) → found_in w (drop j lent) ≡ among w (drop j vocabulary)
  found_among j =
      let rest : map row_lent (drop j lent) ≡ map row_of (drop j vocabulary) =
      sym (drop-map row_lent j lent) ∙ ap (drop j) (l.are ∙ same_rows) ∙ drop-map row_of j vocabulary in
      found_lent w (drop j lent) ∙ ap (found w) rest ∙ found_of w (drop j vocabulary)

  pub standing_left : Left w lent i
  standing_left = record { many = sym (length-map lent row_lent) ∙ ap length l.are; finds = found_among i ∙ l.finds }

  pub standing_found : i < 27 → same w (get_or lent i past).0.now ≡ true → Some (get_or lent i past).1 ≡ named w
  standing_found = row_found standing_left

  pub standing_passed : i < 27 → same w (get_or lent i past).0.now ≡ false → Standing w lent (i + 1)
  standing_passed h e = record { are = l.are; finds = sym (found_among (i + 1)) ∙ (row_passed standing_left h e).finds }

  pub none_standing : 27 ≤ i → None ≡ named w
  none_standing = none_left standing_left
