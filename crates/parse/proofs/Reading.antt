-- Laws of the values of words: what the next word of a line adds, and how large values are. Assumes nothing.
use mathlib.Core.Logic.{⊎_elim}
use mathlib.Core.List.{List, [], ◌∷◌}
use mathlib.Core.Path.{◌≡◌, refl, sym, ap, ◌∙◌}
use Prim.Native.Nat.{ℕ, suc, ◌+◌, ◌-◌, ◌*◌, ◌≤◌, ◌<◌}
use native.Mathlib.Numerals.{add-one}
use native.Mathlib.Omega.{arith}
use borrow.Author.Tests.{lt-ltb, le-ltb, eq-eqb, ne_eqb}
use lib.Dec.{eqb}
use lib.ListN.{length, take, drop, get_or, drop_of_length-le}
use lib.Seq.{drop-cons, drop-drop}
use Rattle.rules.proofs.Tests.{lt_or_ge, same_or_not}
use Rattle.le.proofs.Parts.{rest_part}
use Rattle.parse.specs.Line.{words_of, NextWord}
use Rattle.parse.specs.Numeral.{digit}
use Rattle.parse.specs.Values.{Values, all, bad, and_then, of_each, single, number_up_to, fixed_in, byte_of, bytes_of}
use Rattle.parse.specs.Arguments.{is_empty}
use Rattle.std.specs.Prelude.{Option, Some, None}
use Rattle.parse.proofs.Lines.{words_over, words_next}

-- ---- the words of a line, one after another

-- one more word is read
pub drop_next : (ws rest : List (List ℕ)) (w : List ℕ) (i : ℕ) → drop i ws ≡ w ∷ rest → drop (i + 1) ws ≡ rest
drop_next ws rest w i e = sym (drop-drop 1 i ws) ∙ ap (drop 1) e

-- the next word of a line from a place on
module _ {line : List ℕ} {place start end : ℕ} (n : NextWord line place start end) where
  pub each_over : (f : List ℕ → Values) → start ≡ end → of_each f (words_of (drop place line)) ≡ all []
  unfolding of_each
  each_over f h = rw (words_over n h)

  -- whether no word is left
  pub none_left : eqb start end ≡ is_empty (words_of (drop place line))
  none_left =
      ⊎_elim
      (λ (h : start ≡ end). eq-eqb start end h ∙ ap is_empty (sym (words_over n h)))
      (λ (h : start ≡ end → ⊥). ne_eqb start end h ∙ ap is_empty (sym (words_next n h)))
      (same_or_not start end)

  pub fixed_few : (ms : List ℕ) (i : ℕ) → i < length ms → start ≡ end → fixed_in (drop i ms) (words_of (drop place line)) ≡ bad
  unfolding fixed_in
  fixed_few ms i h k = rw (words_over n k, drop-cons ms i 0 h)

  module _ (h : start ≡ end → ⊥) where
    pub each_next : (f : List ℕ → Values)
        → of_each f (words_of (drop place line))
        ≡ and_then (f (take (end - start) (drop start line))) (of_each f (words_of (drop end line)))
    unfolding of_each
    each_next f = rw (words_next n h)

    pub fixed_next : (ms : List ℕ) (i : ℕ) → i < length ms
        → fixed_in (drop i ms) (words_of (drop place line))
        ≡ and_then (number_up_to (get_or ms i 0) (take (end - start) (drop start line)))
        (fixed_in (drop (i + 1) ms) (words_of (drop end line)))
    unfolding fixed_in
    fixed_next ms i l = rw (words_next n h, drop-cons ms i 0 l, add-one i)

pub fixed_all : (ms : List ℕ) (i : ℕ) (ws : List (List ℕ)) → length ms ≤ i → fixed_in (drop i ms) ws ≡ all []
unfolding fixed_in
fixed_all ms i ws h = rw (drop_of_length-le ms h)

-- ---- the bytes of a word

module _ (high low : ℕ) where
  pub byte_high : 16 ≤ digit high → byte_of high low ≡ None
  byte_high h = rw (le-ltb (digit high) 16 h)

  pub byte_low : digit high < 16 → 16 ≤ digit low → byte_of high low ≡ None
  byte_low k h = rw (lt-ltb (digit high) 16 k, le-ltb (digit low) 16 h)

  pub byte_both : digit high < 16 → digit low < 16 → byte_of high low ≡ Some (16 * digit high + digit low)
  byte_both h k = rw (lt-ltb (digit high) 16 h, lt-ltb (digit low) 16 k)

  pub byte_small : (n : ℕ) → byte_of high low ≡ Some n → n < 256
  byte_small n e =
      ⊎_elim
      (λ (h : digit high < 16).
      ⊎_elim
      (λ (k : digit low < 16).
      let f : Some (16 * digit high + digit low) ≡ Some n = sym (byte_both h k) ∙ e in
      let g : 16 * digit high + digit low ≡ n = cc in
      omega arith)
      (λ (k : 16 ≤ digit low). none (sym (byte_low h k) ∙ e))
      (lt_or_ge (digit low) 16))
      (λ (h : 16 ≤ digit high). none (sym (byte_high h) ∙ e))
      (lt_or_ge (digit high) 16)
    where
      none : None ≡ Some n → n < 256
      none f = let z : ◌≡◌ {A = ℕ} 0 1 = cc in absurd (omega arith)

pub bytes_over : (w : List ℕ) → length w ≡ 0 → bytes_of w ≡ all []
unfolding bytes_of
bytes_over [] h = refl
bytes_over (b ∷ w) h = absurd (omega arith)

pub bytes_odd : (w : List ℕ) → (length w ≡ 0 → ⊥) → length w < 2 → bytes_of w ≡ bad
unfolding bytes_of
bytes_odd [] h k = absurd (h refl)
bytes_odd (b ∷ []) h k = refl
bytes_odd (high ∷ low ∷ w) h k = absurd (omega arith)

pub bytes_next : (w : List ℕ) → 2 ≤ length w
    → bytes_of w ≡ and_then (single (byte_of (get_or w 0 0) (get_or w 1 0))) (bytes_of (take (length w - 2) (drop 2 w)))
unfolding bytes_of
bytes_next [] h = absurd (omega arith)
bytes_next (b ∷ []) h = absurd (omega arith)
bytes_next (high ∷ low ∷ w) h = rw (rest_part 2 (high ∷ low ∷ w)) refl

one_most : (x : Option ℕ) (v : Values) (n : ℕ) → 2 * length v.list ≤ n → 2 * length (and_then (single x) v).list ≤ suc (suc n)
unfolding and_then
one_most (Some k) v n h = omega arith
one_most None v n h = omega arith

pub bytes_most : (w : List ℕ) → 2 * length (bytes_of w).list ≤ length w
unfolding bytes_of
bytes_most [] = omega arith
bytes_most (b ∷ []) = omega arith
bytes_most (high ∷ low ∷ w) = one_most (byte_of high low) (bytes_of w) (length w) (bytes_most w)
