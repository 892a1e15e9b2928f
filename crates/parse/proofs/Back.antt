-- What is printed is read back as it was: numbers in decimal, bytes in hexadecimal. Assumes nothing.
use mathlib.Core.Bool.{Bool, true, false, ◌&&◌}
use mathlib.Core.List.{List, [], ◌∷◌, ◌++◌, map, append-nil}
use mathlib.Core.Logic.{⊎_elim}
use mathlib.Core.Path.{◌≡◌, refl, sym, ap, subst, ◌∙◌}
use Prim.Native.Nat.{ℕ, zero, suc, ◌+◌, ◌*◌, ◌/◌, ◌%◌, ◌^◌, ◌≤◌, ◌<◌}
use native.Mathlib.Omega.{arith}
use native.Mathlib.Nat.{div-add-mod, div-lt_iff_lt-mul, pow-suc}
use borrow.Author.Tests.{ltb-true, lt-ltb, eqb-true, ne_eqb}
use lib.Dec.{ltb, eqb}
use lib.ListN.{length, take, drop, length-append}
use lib.Seq.{take-append_seam, drop-append_seam}
use Rattle.rules.proofs.Tests.{lt_or_ge, and_true, and_no, every, every_at}
use Rattle.print.specs.Text.{decimal_in, decimal, each, numbers, hex_digit, hex, hex_word}
use Rattle.print.proofs.Texts.{digits_one, digits_more, hex_length}
use Rattle.parse.specs.Line.{in_word, ended, words_on, words_of, lead}
use Rattle.parse.specs.Numeral.{digit, digits_of, value_on, number_on, is_hex, number_in}
use Rattle.parse.specs.Values.{all, and_then, of_each, numbers_in, byte_of, bytes_of, bytes_in}
use Rattle.std.specs.Prelude.{Some}
use Rattle.parse.proofs.Lines.{words_run}
use Rattle.parse.proofs.Numerals.{digit_decimal, digit_above, value_decimal, up_to_largest}
use Rattle.parse.proofs.Reading.{byte_both}
use Rattle.parse.proofs.Spelling.{Each, each_as, digit_in_word, digits_each}

-- ---- digits one behind the other

digits_append : (base : ℕ) (a b : List ℕ) → digits_of base a ≡ true → digits_of base b ≡ true → digits_of base (a ++ b) ≡ true
unfolding digits_of
digits_append base [] b h k = k
digits_append base (x ∷ a) b h k =
    let r = and_true (ltb (digit x) base) (digits_of base a) h in
    rw r.0 (digits_append base a b r.1 k)

value_append : (base v : ℕ) (a b : List ℕ) → value_on base v (a ++ b) ≡ value_on base (value_on base v a) b
unfolding value_on
value_append base v [] b = refl
value_append base v (x ∷ a) b = value_append base (v * base + digit x) a b

-- ---- a number

-- w is n in decimal
record Written (n : ℕ) (w : List ℕ) : Type 0 where
  pub some : 1 ≤ length w
  pub digits : digits_of 10 w ≡ true
  pub value : value_on 10 0 w ≡ n

one_digit : (d : ℕ) → d < 10 → digit (48 + d) ≡ d
one_digit d h = omega (arith, digit_decimal (48 + d) (omega arith) (omega arith))

written_one : (d : ℕ) → d < 10 → Written d ((48 + d) ∷ [])
unfolding digits_of value_on
written_one d h = record {
  some = omega arith;
  digits = rw (one_digit d h, lt-ltb d 10 h);
  value = omega (arith, one_digit d h);
}

written_more : (n d : ℕ) (w : List ℕ) → d < 10 → Written n w → Written (10 * n + d) (w ++ ((48 + d) ∷ []))
unfolding value_on
written_more n d w h x = record {
  some = omega (arith, length-append w ((48 + d) ∷ []), x.some);
  digits = digits_append 10 w ((48 + d) ∷ []) x.digits (written_one d h).digits;
  value = value_append 10 0 w ((48 + d) ∷ []) ∙ omega (arith, x.value, one_digit d h);
}

written_short : (k n : ℕ) → n < 10 → Written n (decimal_in (suc k) n)
written_short k n h = rw (digits_one (suc k) n (λ z. omega arith) h) (written_one n h)

written : (k n : ℕ) → n < 10 ^ suc k → Written n (decimal_in (suc k) n)
written zero n h = written_short 0 n (omega arith)
written (suc k) n h =
    ⊎_elim (λ (s : n < 10). written_short (suc k) n s)
    (λ (s : 10 ≤ n).
    let q : n / 10 < 10 ^ suc k = (div-lt_iff_lt-mul (omega arith)).1 (rw (← pow-suc 10 (suc k)) h) in
    let e : decimal_in (suc (suc k)) n ≡ decimal_in (suc k) (n / 10) ++ ((48 + n % 10) ∷ []) =
    digits_more (suc (suc k)) n (λ z. omega arith) s
    ∙ ap (λ (j : ℕ). decimal_in j (n / 10) ++ ((48 + n % 10) ∷ [])) (omega arith) in
    let r = written_more (n / 10) (n % 10) (decimal_in (suc k) (n / 10)) (omega arith) (written k (n / 10) q) in
    rw e (subst (λ (x : ℕ). Written x (decimal_in (suc k) (n / 10) ++ ((48 + n % 10) ∷ []))) (div-add-mod n 10) r))
    (lt_or_ge n 10)

-- digits are never `0x` and something behind it
no_hex : (w : List ℕ) → digits_of 10 w ≡ true → is_hex w ≡ false
unfolding digits_of
no_hex [] h = refl
no_hex (a ∷ []) h = refl
no_hex (a ∷ b ∷ w) h =
    let r = and_true (ltb (digit a) 10) (ltb (digit b) 10 && digits_of 10 w) h in
    let d : digit b < 10 = ltb-true (digit b) 10 (and_true (ltb (digit b) 10) (digits_of 10 w) r.1).0 in
    and_no (ltb 2 (length (a ∷ b ∷ w)) && eqb a 48) (eqb b 120)
    (ne_eqb b 120 (λ e. omega (arith, digit_above b (omega arith))))

decimal_written : (n : ℕ) → n < 2 ^ 64 → Written n (decimal n)
decimal_written n h = written 19 n (omega arith)

pub number_back : (n : ℕ) → n < 2 ^ 64 → number_in (decimal n) ≡ Some n
unfolding number_on
number_back n h =
    let x = decimal_written n h in
    value_decimal (decimal n) (λ e. omega (arith, x.some)) (no_hex (decimal n) x.digits)
    ∙ rw (x.digits, x.value, lt-ltb n (2 ^ 64) h)

-- ---- words

lead_through : (p : ℕ → Bool) (w l : List ℕ) → Each (λ b. p b ≡ true) w → lead p l ≡ 0 → lead p (w ++ l) ≡ length w
unfolding lead
lead_through p [] l h k = k
lead_through p (b ∷ w) l h k = rw h.0 (ap suc (lead_through p w l h.1 k))

-- a word that no byte of a word follows
first_word : (w l : List ℕ) → 1 ≤ length w → Each (λ b. in_word b ≡ true) w → lead in_word l ≡ 0 → words_of (w ++ l) ≡ w ∷ words_of l
first_word [] l s h k = absurd (omega arith)
first_word (b ∷ w) l s h k =
    words_run [] (b ∷ w ++ l)
    ∙ ap (λ (j : ℕ). ended (take j (b ∷ w ++ l)) ++ words_of (drop j (b ∷ w ++ l))) (lead_through in_word (b ∷ w) l h k)
    ∙ ap (λ (x : List ℕ). ended x ++ words_of (drop (length (b ∷ w)) (b ∷ w ++ l))) (take-append_seam (b ∷ w) l)
    ∙ ap (λ (x : List ℕ). (b ∷ w) ∷ words_of x) (drop-append_seam (b ∷ w) l)

-- a space makes no word
space : (l : List ℕ) → words_of (32 ∷ l) ≡ words_of l
unfolding words_on
space l = refl

in_word_lem : (base : ℕ) (w : List ℕ) → base ≤ 16 → digits_of base w ≡ true → Each (λ b. in_word b ≡ true) w
in_word_lem base w h e = each_as (λ b. digit b < 16) (λ b. in_word b ≡ true) digit_in_word w (digits_each base w h e)

-- ---- numbers

-- every number is below 2 to the power 64
abbrev pub Narrow : List ℕ → Type 0
Narrow ns = Each (λ n. n < 2 ^ 64) ns

no_word_first : (ns : List ℕ) → lead in_word (numbers ns) ≡ 0
unfolding lead each
no_word_first [] = refl
no_word_first (n ∷ ns) = refl

pub numbers_words : (ns : List ℕ) → Narrow ns → words_of (numbers ns) ≡ map decimal ns
unfolding each words_on
numbers_words [] h = refl
numbers_words (n ∷ ns) h =
    let x = decimal_written n h.0 in
    first_word (decimal n) (numbers ns) x.some (in_word_lem 10 (decimal n) (omega arith) x.digits) (no_word_first ns)
    ∙ ap (λ (ws : List (List ℕ)). decimal n ∷ ws) (numbers_words ns h.1)

numbers_read : (ns : List ℕ) → Narrow ns → numbers_in 18446744073709551615 (map decimal ns) ≡ all ns
unfolding of_each and_then
numbers_read [] h = refl
numbers_read (n ∷ ns) h =
    rw (up_to_largest 18446744073709551615 (decimal n) n (number_back n h.0) (omega (arith, h.0)), numbers_read ns h.1)

-- numbers that are printed are read as they were
pub numbers_back : (ns : List ℕ) → Narrow ns → numbers_in 18446744073709551615 (words_of (numbers ns)) ≡ all ns
numbers_back ns h = ap (numbers_in 18446744073709551615) (numbers_words ns h) ∙ numbers_read ns h

-- ---- bytes

-- the sixteen digits
right_digit : ℕ → Bool
right_digit d = eqb (digit (hex_digit d)) d

all_right : every right_digit 16 ≡ true
unfolding right_digit digit hex_digit
all_right = refl

hex_digit_back : (d : ℕ) → d < 16 → digit (hex_digit d) ≡ d
unfolding right_digit
hex_digit_back d h = eqb-true (digit (hex_digit d)) d (every_at right_digit 16 d all_right h)

abbrev pub Bytes : List ℕ → Type 0
Bytes bs = Each (λ b. b < 256) bs

module _ (b : ℕ) (h : b < 256) where
  high : digit (hex_digit (b / 16)) ≡ b / 16
  high = hex_digit_back (b / 16) (omega arith)

  low : digit (hex_digit (b % 16)) ≡ b % 16
  low = hex_digit_back (b % 16) (omega arith)

  byte_back : byte_of (hex_digit (b / 16)) (hex_digit (b % 16)) ≡ Some b
  byte_back =
      byte_both (hex_digit (b / 16)) (hex_digit (b % 16)) (omega (arith, high)) (omega (arith, low))
      ∙ ap Some (omega (arith, high, low))

word_back : (bs : List ℕ) → Bytes bs → bytes_of (hex bs) ≡ all bs
unfolding bytes_of each and_then
word_back [] h = refl
word_back (b ∷ bs) h = rw (byte_back b h.0, word_back bs h.1)

hex_in_word : (bs : List ℕ) → Bytes bs → Each (λ b. in_word b ≡ true) (hex bs)
unfolding each
hex_in_word [] h = tt
hex_in_word (b ∷ bs) h =
    let a = digit_in_word (hex_digit (b / 16)) (omega (arith, high b h.0)) in
    let z = digit_in_word (hex_digit (b % 16)) (omega (arith, low b h.0)) in
    (a, (z, hex_in_word bs h.1))

-- bytes that are printed are read as they were
pub bytes_back : (bs : List ℕ) → Bytes bs → bytes_in (words_of (hex_word bs)) ≡ all bs
unfolding of_each words_on and_then lead
bytes_back [] h = refl
bytes_back (b ∷ bs) h =
    let w : words_of (hex (b ∷ bs) ++ []) ≡ hex (b ∷ bs) ∷ [] =
    first_word (hex (b ∷ bs)) [] (some b bs) (hex_in_word (b ∷ bs) h) refl in
    ap bytes_in (ap words_of (sym (append-nil (hex (b ∷ bs)))) ∙ w) ∙ joined
  where
    some : (c : ℕ) (cs : List ℕ) → 1 ≤ length (hex (c ∷ cs))
    some c cs = omega (arith, hex_length (c ∷ cs))

    joined : bytes_in (hex (b ∷ bs) ∷ []) ≡ all (b ∷ bs)
    joined = rw (word_back (b ∷ bs) h, append-nil)
