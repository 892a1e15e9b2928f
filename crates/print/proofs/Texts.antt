-- Laws of the texts: digits, texts one behind the other, and their lengths. Assumes nothing.
use mathlib.Core.Path.{◌≡◌, refl, sym, ap, ◌∙◌}
use mathlib.Core.List.{List, [], ◌∷◌, ◌++◌, append_assoc, append-nil}
use Prim.Native.Nat.{ℕ, zero, suc, ◌+◌, ◌*◌, ◌/◌, ◌%◌, ◌-◌, ◌≤◌, ◌<◌}
use native.Mathlib.Numerals.{add-one}
use native.Mathlib.Omega.{arith}
use lib.Dec.{ltb}
use lib.ListN.{length, take, drop, get_or, length-append, take-append-drop}
use lib.Seq.{take-suc}
use borrow.Author.Tests.{lt-ltb, le-ltb}
use Rattle.rules.proofs.Cases.{pick_cases}
use Rattle.print.specs.Text.{decimal_in, decimal, next, each, numbers, hex_byte, hex, hex_word, line_end, bad_line}

-- ---- the digits of a number

pub digits_none : (k n : ℕ) → k ≡ 0 → decimal_in k n ≡ []
unfolding decimal_in
digits_none k n e = ap (λ (j : ℕ). decimal_in j n) e

pub digits_one : (k n : ℕ) → (k ≡ 0 → ⊥) → n < 10 → decimal_in k n ≡ (48 + n) ∷ []
unfolding decimal_in
digits_one zero n z h = absurd (z refl)
digits_one (suc k) n z h = rw (lt-ltb n 10 h)

pub digits_more : (k n : ℕ) → (k ≡ 0 → ⊥) → 10 ≤ n → decimal_in k n ≡ decimal_in (k - 1) (n / 10) ++ ((48 + n % 10) ∷ [])
unfolding decimal_in
digits_more zero n z h = absurd (z refl)
digits_more (suc k) n z h =
    let e : suc k - 1 ≡ k = omega arith in
    rw (le-ltb n 10 h, e)

-- ---- texts one behind the other

pub take_one_more : (t : List ℕ) (i : ℕ) → i < length t → take i t ++ (get_or t i 0 ∷ []) ≡ take (i + 1) t
take_one_more t i h = sym (take-suc t i 0 h) ∙ ap (λ (k : ℕ). take k t) (sym (add-one i))

module _ (f : ℕ → List ℕ) where
  pub each_append : (a b : List ℕ) → each f (a ++ b) ≡ each f a ++ each f b
  unfolding each
  each_append [] b = refl
  each_append (x ∷ a) b = ap (λ (l : List ℕ). f x ++ l) (each_append a b) ∙ sym (append_assoc (f x) (each f a) (each f b))

  pub each_one : (x : ℕ) → each f (x ∷ []) ≡ f x
  unfolding each
  each_one x = append-nil (f x)

  pub each_none : each f [] ≡ []
  unfolding each
  each_none = refl

  -- the text of one more value
  pub each_more : (l : List ℕ) (i : ℕ) → i < length l → each f (take i l) ++ f (get_or l i 0) ≡ each f (take (i + 1) l)
  each_more l i h =
      ap (λ (x : List ℕ). each f (take i l) ++ x) (sym (each_one (get_or l i 0))) ∙ sym (each_append (take i l) (get_or l i 0 ∷ []))
      ∙ ap (each f) (take_one_more l i h)

  -- the room of all holds it
  pub each_room : (l : List ℕ) (i : ℕ) → i < length l → length (each f (take i l)) + length (f (get_or l i 0)) ≤ length (each f l)
  each_room l i h =
      let w : each f l ≡ each f (take (i + 1) l) ++ each f (drop (i + 1) l) =
      ap (each f) (sym (take-append-drop (i + 1) l)) ∙ each_append (take (i + 1) l) (drop (i + 1) l) in
      omega (arith, simp length-append at (ap length w), simp length-append at (ap length (each_more l i h)))

  -- lengths: of texts of one length, and of texts up to a length
  pub each_length : (k : ℕ) → ((x : ℕ) → length (f x) ≡ k) → (l : List ℕ) → length (each f l) ≡ k * length l
  unfolding each
  each_length k e [] = omega arith
  each_length k e (x ∷ l) = rw length-append (omega (arith, e x, each_length k e l))

  pub each_most : (k : ℕ) → ((x : ℕ) → length (f x) ≤ k) → (l : List ℕ) → length (each f l) ≤ k * length l
  unfolding each
  each_most k e [] = omega arith
  each_most k e (x ∷ l) = rw length-append (omega (arith, e x, each_most k e l))

-- ---- bytes as a word of their own

pub hex_word_none : (bs : List ℕ) → length bs ≡ 0 → hex_word bs ≡ []
hex_word_none [] e = refl
hex_word_none (b ∷ bs) e = absurd (omega arith)

pub hex_word_some : (bs : List ℕ) → (length bs ≡ 0 → ⊥) → hex_word bs ≡ 32 ∷ hex bs
hex_word_some [] h = absurd (h refl)
hex_word_some (b ∷ bs) h = refl

-- ---- the room that a caller needs

digits_most : (k n : ℕ) → length (decimal_in k n) ≤ k
unfolding decimal_in
digits_most zero n = omega arith
digits_most (suc k) n =
    pick_cases (λ (l : List ℕ). length l ≤ suc k) (ltb n 10) ((48 + n) ∷ []) (decimal_in k (n / 10) ++ ((48 + n % 10) ∷ []))
    (λ e. omega arith) (λ e. rw length-append (omega (arith, digits_most k (n / 10))))

pub decimal_most : (n : ℕ) → length (decimal n) ≤ 20
decimal_most n = digits_most 20 n

pub next_most : (n : ℕ) → length (next n) ≤ 21
next_most n = omega (arith, decimal_most n)

pub numbers_most : (ns : List ℕ) → length (numbers ns) ≤ 21 * length ns
numbers_most ns = each_most next 21 next_most ns

pub hex_length : (bs : List ℕ) → length (hex bs) ≡ 2 * length bs
hex_length bs = each_length hex_byte 2 (λ b. refl) bs

pub hex_word_most : (bs : List ℕ) → length (hex_word bs) ≤ 1 + 2 * length bs
hex_word_most [] = omega arith
hex_word_most (b ∷ bs) = omega (arith, hex_length (b ∷ bs))

pub bad_line_most : (n : ℕ) → length (bad_line n) ≤ 23
bad_line_most n = omega (arith, length-append (next n) line_end, next_most n)
