-- Laws of the words of a line. Assumes nothing.
use mathlib.Core.Path.{◌≡◌, refl, sym, ap, ◌∙◌}
use mathlib.Core.Bool.{Bool, true, false}
use mathlib.Core.List.{List, [], ◌∷◌, ◌++◌, append_assoc, append-nil}
use mathlib.Core.Logic.{⊎_elim}
use Prim.Native.Nat.{ℕ, zero, suc, ◌+◌, ◌-◌, ◌*◌, ◌≤◌, ◌<◌}
use native.Mathlib.Numerals.{add-one}
use native.Mathlib.Omega.{arith}
use lib.ListN.{length, take, drop, get_or, drop_of_length-le, length-drop, length-append}
use lib.Seq.{drop-cons, drop-drop}
use Rattle.rules.specs.Rules.{pick}
use Rattle.rules.proofs.Tests.{bool_cases}
use Rattle.rules.proofs.Cases.{pick_cases}
use Rattle.parse.specs.Line.{is_blank, in_word, ended, words_on, words_of, lead, NextWord}

-- ---- the bytes at the start that pass a test

pub lead_more : (p : ℕ → Bool) (l : List ℕ) (i : ℕ) → i < length l → p (get_or l i 0) ≡ true
    → i + lead p (drop i l) ≡ i + 1 + lead p (drop (i + 1) l)
unfolding lead
lead_more p l i h e =
    let s : lead p (drop i l) ≡ suc (lead p (drop (i + 1) l)) = rw (drop-cons l i 0 h, e, add-one i) in
    omega (arith, s)

pub lead_stop : (p : ℕ → Bool) (l : List ℕ) (i : ℕ) → i < length l → p (get_or l i 0) ≡ false → lead p (drop i l) ≡ 0
unfolding lead
lead_stop p l i h e = rw (drop-cons l i 0 h, e)

pub lead_end : (p : ℕ → Bool) (l : List ℕ) (i : ℕ) → length l ≤ i → lead p (drop i l) ≡ 0
unfolding lead
lead_end p l i h = ap (lead p) (drop_of_length-le l h)

lead_after : (p : ℕ → Bool) (l : List ℕ) → lead p (drop (lead p l) l) ≡ 0
unfolding lead
lead_after p [] = refl
lead_after p (b ∷ bs) = ⊎_elim (λ (e : p b ≡ true). simp e (lead_after p bs)) (λ (e : p b ≡ false). simp e) (bool_cases (p b))

-- ---- words

-- blanks in front make no word
words_blanks : (l : List ℕ) → words_of l ≡ words_of (drop (lead is_blank l) l)
unfolding words_on lead
words_blanks [] = refl
words_blanks (b ∷ bs) =
    ⊎_elim (λ (e : is_blank b ≡ true). simp e (words_blanks bs)) (λ (e : is_blank b ≡ false). simp e) (bool_cases (is_blank b))

-- a word that has begun goes on as long as its bytes do
pub words_run : (w l : List ℕ) → words_on w l ≡ ended (w ++ take (lead in_word l) l) ++ words_of (drop (lead in_word l) l)
unfolding words_on lead
words_run w [] = simp append-nil
words_run w (b ∷ bs) =
    ⊎_elim
    (λ (e : in_word b ≡ true).
    simp e
    (words_run (w ++ (b ∷ [])) bs
    ∙ ap (λ (x : List ℕ). ended x ++ words_of (drop (lead in_word bs) bs)) (append_assoc w (b ∷ []) (take (lead in_word bs) bs))))
    (λ (e : in_word b ≡ false). simp (e, append-nil))
    (bool_cases (in_word b))

-- neither a blank nor a word stands first
words_none : (l : List ℕ) → lead is_blank l ≡ 0 → lead in_word l ≡ 0 → words_of l ≡ []
unfolding words_on lead
words_none [] h k = refl
words_none (b ∷ bs) h k =
    ⊎_elim (λ (e : in_word b ≡ true). let z : suc (lead in_word bs) ≡ 0 = simp e at k in absurd (omega arith))
    (λ (e : in_word b ≡ false).
    ⊎_elim (λ (f : is_blank b ≡ true). let z : suc (lead is_blank bs) ≡ 0 = simp f at h in absurd (omega arith))
    (λ (f : is_blank b ≡ false). rw (e, f)) (bool_cases (is_blank b)))
    (bool_cases (in_word b))

-- the first word is whole
ended_some : (l : List ℕ) (n : ℕ) → 1 ≤ n → 1 ≤ length l → ended (take n l) ≡ take n l ∷ []
ended_some l zero h k = absurd (omega arith)
ended_some [] (suc n) h k = absurd (omega arith)
ended_some (b ∷ bs) (suc n) h k = refl

-- the next word of a line from a place on
module _ {line : List ℕ} {place start end : ℕ} (n : NextWord line place start end) where
  from_start : words_of (drop place line) ≡ words_of (drop start line)
  from_start =
      words_blanks (drop place line)
      ∙ ap words_of (drop-drop (lead is_blank (drop place line)) place line ∙ ap (λ (k : ℕ). drop k line) (sym n.starts))

  no_blank : lead is_blank (drop start line) ≡ 0
  no_blank =
      ap (λ (k : ℕ). lead is_blank (drop k line)) n.starts
      ∙ ap (lead is_blank) (sym (drop-drop (lead is_blank (drop place line)) place line))
      ∙ lead_after is_blank (drop place line)

  -- no word is left
  pub words_over : start ≡ end → words_of (drop place line) ≡ []
  words_over h = from_start ∙ words_none (drop start line) no_blank (omega (arith, n.ends))

  -- the next word, and those behind it
  pub words_next : (start ≡ end → ⊥) → words_of (drop place line) ≡ take (end - start) (drop start line) ∷ words_of (drop end line)
  words_next h =
      let l : lead in_word (drop start line) ≡ end - start = omega (arith, n.ends) in
      let d : drop (end - start) (drop start line) ≡ drop end line =
      drop-drop (end - start) start line ∙ ap (λ (j : ℕ). drop j line) (omega_end l) in
      from_start ∙ words_run [] (drop start line)
      ∙ ap (λ (j : ℕ). ended (take j (drop start line)) ++ words_of (drop j (drop start line))) l
      ∙ ap (λ (x : List ℕ). ended (take (end - start) (drop start line)) ++ words_of x) d
      ∙ ap (λ (x : List (List ℕ)). x ++ words_of (drop end line)) (ended_some (drop start line) (end - start) some long)
    where
      omega_end : lead in_word (drop start line) ≡ end - start → start + (end - start) ≡ end
      omega_end l = omega (arith, n.ends)

      some : 1 ≤ end - start
      some = omega (arith, n.ends)

      long : 1 ≤ length (drop start line)
      long = simp length-drop (omega (arith, n.ends, n.inside))

take_most : (n : ℕ) (l : List ℕ) → length (take n l) ≤ n
take_most zero l = omega arith
take_most (suc n) [] = omega arith
take_most (suc n) (b ∷ bs) = omega (arith, take_most n bs)

-- a word is as long as its place at most
pub word_most : (line : List ℕ) (start end : ℕ) → length (take (end - start) (drop start line)) ≤ end - start
word_most line start end = take_most (end - start) (drop start line)

-- ---- how many words a line has

ended_most : (w : List ℕ) → length (ended w) ≤ 1
ended_most [] = omega arith
ended_most (b ∷ w) = omega arith

words_on_most : (w l : List ℕ) → 2 * length (words_on w l) ≤ length l + 1 + length (ended w)
unfolding words_on
words_on_most w [] = omega (arith, ended_most w)
words_on_most w (b ∷ bs) =
    pick_cases (λ (x : List (List ℕ)). 2 * length x ≤ length (b ∷ bs) + 1 + length (ended w)) (in_word b) (words_on (w ++ (b ∷ [])) bs)
    (ended w ++ pick (is_blank b) (words_on [] bs) [])
    (λ e. omega (arith, words_on_most (w ++ (b ∷ [])) bs, ended_most (w ++ (b ∷ []))))
    (λ e.
    pick_cases (λ (x : List (List ℕ)). 2 * length (ended w ++ x) ≤ length (b ∷ bs) + 1 + length (ended w)) (is_blank b) (words_on [] bs) []
    (λ f. rw length-append (omega (arith, words_on_most [] bs, ended_most w)))
    (λ f. rw length-append (omega (arith, ended_most w))))

-- a blank stands between two words
pub words_most : (l : List ℕ) → 2 * length (words_of l) ≤ length l + 1
words_most l = omega (arith, words_on_most [] l)
