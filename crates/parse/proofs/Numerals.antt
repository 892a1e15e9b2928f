-- Laws of digits and numbers. Assumes nothing.
use mathlib.Core.Path.{◌≡◌, refl, ◌∙◌}
use mathlib.Core.Bool.{Bool, true, false, ◌&&◌}
use mathlib.Core.List.{List, [], ◌∷◌}
use mathlib.Core.Logic.{◌⊎◌, inl, inr, ⊎_elim}
use Prim.Native.Nat.{ℕ, suc, ◌+◌, ◌-◌, ◌*◌, ◌^◌, ◌≤◌, ◌<◌}
use native.Mathlib.Numerals.{add-one}
use native.Mathlib.Omega.{arith}
use native.Mathlib.Nat.{le_trans, mul-le-mul_left}
use borrow.Author.Tests.{le-leb, lt-leb, lt-ltb, le-ltb, eq-eqb, ne_eqb, ltb-true}
use lib.Dec.{ltb, eqb}
use lib.ListN.{length, drop, get_or, drop_of_length-le}
use lib.Seq.{drop-cons}
use Rattle.rules.proofs.Tests.{and_true, lt_or_ge}
use Rattle.rules.specs.Rules.{pick}
use Rattle.std.specs.Prelude.{Option, Some, None}
use Rattle.std.specs.Char.{digit_value}
use Rattle.parse.specs.Numeral.{digit, digits_of, value_on, number_on, is_hex, number_in, up_to}

module _ (b : ℕ) where
  pub digit_decimal : 48 ≤ b → b ≤ 57 → digit b ≡ b - 48
  unfolding digit
  digit_decimal h k = rw (le-leb 48 b h, le-leb b 57 k)

  pub digit_lower : 97 ≤ b → b ≤ 102 → digit b ≡ b - 97 + 10
  unfolding digit
  digit_lower h k = rw (lt-leb b 57 (omega arith), le-leb 48 b (omega arith), le-leb 97 b h, le-leb b 102 k)

  pub digit_upper : 65 ≤ b → b ≤ 70 → digit b ≡ b - 65 + 10
  unfolding digit
  digit_upper h k = rw (lt-leb b 57 (omega arith), le-leb 48 b (omega arith), lt-leb 97 b (omega arith), le-leb 65 b h, le-leb b 70 k)

  pub digit_below : b < 48 → digit b ≡ 16
  unfolding digit
  digit_below h = rw (lt-leb 48 b h, lt-leb 97 b (omega arith), lt-leb 65 b (omega arith))

  pub digit_between : 57 < b → b < 65 → digit b ≡ 16
  unfolding digit
  digit_between h k = rw (le-leb 48 b (omega arith), lt-leb b 57 h, lt-leb 97 b (omega arith), lt-leb 65 b k)

  pub digit_between2 : 70 < b → b < 97 → digit b ≡ 16
  unfolding digit
  digit_between2 h k = rw (le-leb 48 b (omega arith), lt-leb b 57 (omega arith), lt-leb 97 b k, le-leb 65 b (omega arith), lt-leb b 70 h)

  pub digit_above : 102 < b → digit b ≡ 16
  unfolding digit
  digit_above h =
      rw (
        le-leb 48 b (omega arith),
        lt-leb b 57 (omega arith),
        le-leb 97 b (omega arith),
        lt-leb b 102 h,
        le-leb 65 b (omega arith),
        lt-leb b 70 (omega arith),
      )

-- std's digits of larger bases too
module _ (b : ℕ) (h : 71 ≤ b) where
  large_upper : b < 97 → 16 ≤ digit_value b
  large_upper k =
      ⊎_elim
      (λ (l : b < 91).
      rw (le-ltb b 48 (omega arith), le-ltb b 58 (omega arith), le-ltb b 65 (omega arith), lt-ltb b 91 l) (omega arith))
      (λ (l : 91 ≤ b).
      rw (le-ltb b 48 (omega arith), le-ltb b 58 (omega arith), le-ltb b 65 (omega arith), le-ltb b 91 l, lt-ltb b 97 k) (omega arith))
      (lt_or_ge b 91)

  large_lower : 103 ≤ b → 16 ≤ digit_value b
  large_lower k =
      let e : ltb b 97 ≡ false = le-ltb b 97 (omega arith) in
      ⊎_elim
      (λ (l : b < 123).
      rw (le-ltb b 48 (omega arith), le-ltb b 58 (omega arith), le-ltb b 65 (omega arith), le-ltb b 91 (omega arith), e, lt-ltb b 123 l)
      (omega arith))
      (λ (l : 123 ≤ b).
      rw (le-ltb b 48 (omega arith), le-ltb b 58 (omega arith), le-ltb b 65 (omega arith), le-ltb b 91 (omega arith), e, le-ltb b 123 l)
      (omega arith))
      (lt_or_ge b 123)

-- a digit below 16 is what std has
digits_agree : (b : ℕ) → (digit b ≡ digit_value b) ⊎ ((16 ≤ digit b) × (16 ≤ digit_value b))
digits_agree b = below 48 (λ h. inr (omega (arith, digit_below b h), rw (lt-ltb b 48 h) (omega arith)))
    (λ h. below 58 (λ k. inl (digit_decimal b h (omega arith) ∙ rw (le-ltb b 48 h, lt-ltb b 58 k) refl))
    (λ k. below 65
    (λ l. inr (omega (arith, digit_between b (omega arith) l), rw (le-ltb b 48 h, le-ltb b 58 k, lt-ltb b 65 l) (omega arith)))
    (λ l. below 71
    (λ m.
    inl
    (digit_upper b l (omega arith) ∙ rw (le-ltb b 48 h, le-ltb b 58 k, le-ltb b 65 l, lt-ltb b 91 (omega arith)) (omega arith)))
    (λ m. below 97 (λ n. inr (omega (arith, digit_between2 b (omega arith) n), large_upper b m n))
    (λ n. below 103
    (λ o.
    inl
    (digit_lower b n (omega arith)
    ∙ rw (le-ltb b 48 h, le-ltb b 58 k, le-ltb b 65 l, le-ltb b 91 (omega arith), le-ltb b 97 n, lt-ltb b 123 (omega arith))
    (omega arith)))
    (λ o. inr (omega (arith, digit_above b (omega arith)), large_lower b m o)))))))
  where
    below : {P : Type 0} (n : ℕ) → (b < n → P) → (n ≤ b → P) → P
    below n f g = ⊎_elim f g (lt_or_ge b n)

-- a digit of a base up to 16
module _ (base b : ℕ) (h : base ≤ 16) where
  pub digit_good : digit_value b < base → digit b ≡ digit_value b
  digit_good k = ⊎_elim (λ e. e) (λ (e : (16 ≤ digit b) × (16 ≤ digit_value b)). absurd (omega (arith, e.1))) (digits_agree b)

  pub digit_bad : (digit_value b < base → ⊥) → base ≤ digit b
  digit_bad k =
      ⊎_elim (λ (e : digit b ≡ digit_value b). omega (arith, e)) (λ (e : (16 ≤ digit b) × (16 ≤ digit_value b)). omega (arith, e.0))
      (digits_agree b)

value_grows : (base v : ℕ) (l : List ℕ) → 1 ≤ base → v ≤ value_on base v l
unfolding value_on
value_grows base v [] h = omega arith
value_grows base v (b ∷ bs) h =
    let k : v * 1 ≤ v * base = mul-le-mul_left v h in
    le_trans (omega (arith, k)) (value_grows base (v * base + digit b) bs h)

pub number_end : (base v : ℕ) (l : List ℕ) (i : ℕ) → length l ≤ i → v < 2 ^ 64 → number_on base v (drop i l) ≡ Some v
unfolding number_on value_on digits_of
number_end base v l i h k = rw (drop_of_length-le l h, lt-ltb v (2 ^ 64) k)

pub number_bad_digit : (base v : ℕ) (l : List ℕ) (i : ℕ) → i < length l → base ≤ digit (get_or l i 0) → number_on base v (drop i l) ≡ None
unfolding number_on value_on digits_of
number_bad_digit base v l i h k = rw (drop-cons l i 0 h, le-ltb (digit (get_or l i 0)) base k)

pub number_too_large : (base v : ℕ) (l : List ℕ) (i : ℕ) → i < length l → 1 ≤ base → 2 ^ 64 ≤ v * base + digit (get_or l i 0)
    → number_on base v (drop i l) ≡ None
unfolding number_on value_on digits_of
number_too_large base v l i h k m =
    let w = v * base + digit (get_or l i 0) in
    let big : 2 ^ 64 ≤ value_on base w (drop (suc i) l) = le_trans m (value_grows base w (drop (suc i) l) k) in
    rw (drop-cons l i 0 h, le-ltb (value_on base w (drop (suc i) l)) (2 ^ 64) big)
    (and_false (ltb (digit (get_or l i 0)) base && digits_of base (drop (suc i) l)) _)
  where
    and_false : (t : Bool) (x : Option ℕ) → pick (t && false) x None ≡ None
    and_false true x = refl
    and_false false x = refl

pub number_more : (base v : ℕ) (l : List ℕ) (i : ℕ) → i < length l → digit (get_or l i 0) < base
    → number_on base v (drop i l) ≡ number_on base (v * base + digit (get_or l i 0)) (drop (i + 1) l)
unfolding number_on value_on digits_of
number_more base v l i h k = rw (drop-cons l i 0 h, lt-ltb (digit (get_or l i 0)) base k, add-one i)

-- ---- a word

pub short_no_hex : (w : List ℕ) → length w < 3 → is_hex w ≡ false
short_no_hex w h = rw (le-ltb 2 (length w) (omega arith))

pub long_hex : (w : List ℕ) → 3 ≤ length w → is_hex w ≡ (eqb (get_or w 0 0) 48 && eqb (get_or w 1 0) 120)
long_hex w h = rw (lt-ltb 2 (length w) h)

pub hex_long : (w : List ℕ) → is_hex w ≡ true → 3 ≤ length w
hex_long w e =
    let t = and_true (ltb 2 (length w) && eqb (get_or w 0 0) 48) (eqb (get_or w 1 0) 120) e in
    ltb-true 2 (length w) (and_true (ltb 2 (length w)) (eqb (get_or w 0 0) 48) t.0).0

pub value_none : (w : List ℕ) → length w ≡ 0 → number_in w ≡ None
unfolding number_in
value_none w h = rw (eq-eqb (length w) 0 h)

pub value_hex : (w : List ℕ) → (length w ≡ 0 → ⊥) → is_hex w ≡ true → number_in w ≡ number_on 16 0 (drop 2 w)
unfolding number_in
value_hex w h e = rw (ne_eqb (length w) 0 h, e)

pub value_decimal : (w : List ℕ) → (length w ≡ 0 → ⊥) → is_hex w ≡ false → number_in w ≡ number_on 10 0 w
unfolding number_in
value_decimal w h e = rw (ne_eqb (length w) 0 h, e)

-- ---- a number up to a largest

module _ (m : ℕ) (w : List ℕ) (n : ℕ) (e : number_in w ≡ Some n) where
  pub above_largest : m < n → up_to m (number_in w) ≡ None
  above_largest h = rw (e, lt-ltb m n h)

  pub up_to_largest : n ≤ m → up_to m (number_in w) ≡ Some n
  up_to_largest h = rw (e, le-ltb m n h)
