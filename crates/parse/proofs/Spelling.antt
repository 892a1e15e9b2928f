-- Laws of the bytes that a line is spelt with: where its words give what a command asks for, each byte before its comment is a blank or
-- printable. Assumes nothing.
use mathlib.Core.Bool.{Bool, true, false, not, ◌&&◌, true≢false}
use mathlib.Core.List.{List, [], ◌∷◌, ◌++◌}
use mathlib.Core.Logic.{◌⊎◌, inl, inr, ⊎_elim}
use mathlib.Core.Path.{◌≡◌, refl, sym}
use Prim.Native.Nat.{ℕ, zero, suc, ◌+◌, ◌*◌, ◌≤◌, ◌<◌}
use native.Mathlib.Omega.{arith}
use borrow.Author.Tests.{ltb-true, leb-true, eqb-true, ne_eqb}
use lib.Dec.{ltb, leb, eqb}
use lib.ListN.{length, take, drop, get_or}
use Rattle.rules.specs.Rules.{pick}
use Rattle.rules.proofs.Tests.{bool_cases, lt_or_ge, and_true, clash}
use Rattle.rules.proofs.Cases.{pick_cases}
use Rattle.parse.specs.Line.{is_blank, in_word, ended, words_on, words_of, lead, before}
use Rattle.parse.specs.Numeral.{digit, digits_of, value_on, number_on, is_hex, number_in, up_to}
use Rattle.parse.specs.Values.{Values, and_then, single, of_each, number_up_to, fixed_in, byte_of, bytes_of}
use Rattle.parse.specs.Arguments.{rest_in, arguments_in}
use Rattle.std.specs.Prelude.{Option, Some, None}
use Rattle.parse.specs.declared.arguments.Rest.{Rest}
use Rattle.parse.specs.declared.arguments.Rest.TheVariants.{Nothing, Numbers, Bytes}
use Rattle.parse.proofs.Numerals.{digit_below, digit_above, hex_long}
use Rattle.parse.proofs.Counts.{good_parts}

-- ---- every byte of a text, and of words

abbrev pub Each : (ℕ → Type 0) → List ℕ → Type 0
Each P [] = Unit {0}
Each P (b ∷ bs) = P b × Each P bs

abbrev pub EachWord : (ℕ → Type 0) → List (List ℕ) → Type 0
EachWord P [] = Unit {0}
EachWord P (w ∷ ws) = Each P w × EachWord P ws

module _ (P : ℕ → Type 0) where
  pub each_append : (a b : List ℕ) → Each P a → Each P b → Each P (a ++ b)
  each_append [] b h k = k
  each_append (x ∷ a) b h k = (h.0, each_append a b h.1 k)

  each_before : (a b : List ℕ) → Each P (a ++ b) → Each P a × Each P b
  each_before [] b h = (tt, h)
  each_before (x ∷ a) b h = let r = each_before a b h.1 in ((h.0, r.0), r.1)

  words_before : (a b : List (List ℕ)) → EachWord P (a ++ b) → EachWord P a × EachWord P b
  words_before [] b h = (tt, h)
  words_before (w ∷ a) b h = let r = words_before a b h.1 in ((h.0, r.0), r.1)

  ended_each : (w : List ℕ) → EachWord P (ended w) → Each P w
  ended_each [] h = tt
  ended_each (b ∷ w) h = h.0

  pub each_at : (l : List ℕ) (i : ℕ) → i < length l → Each P l → P (get_or l i 0)
  each_at [] i h e = absurd (omega arith)
  each_at (b ∷ l) zero h e = e.0
  each_at (b ∷ l) (suc i) h e = each_at l i (omega arith) e.1

  pub each_as : (Q : ℕ → Type 0) → ((b : ℕ) → P b → Q b) → (l : List ℕ) → Each P l → Each Q l
  each_as Q f [] h = tt
  each_as Q f (b ∷ l) h = (f b h.0, each_as Q f l h.1)

  -- the bytes of a line up to its comment are blanks and those of its words
  words_on_cover : (w l : List ℕ) → EachWord P (words_on w l)
      → Each P w × Each (λ b. (is_blank b ≡ true) ⊎ P b) (take (before 35 l) l)
  unfolding words_on lead
  words_on_cover w [] h = (ended_each w h, tt)
  words_on_cover w (b ∷ bs) h =
      ⊎_elim
      (λ (c : eqb b 35 ≡ true).
      ⊎_elim
      (λ (e : is_blank b ≡ true). let k : EachWord P (ended w ++ words_on [] bs) = simp (c, e) at h in
      simp c (ended_each w (words_before (ended w) (words_on [] bs) k).0, tt))
      (λ (e : is_blank b ≡ false). let k : EachWord P (ended w ++ []) = simp (c, e) at h in
      simp c (ended_each w (words_before (ended w) [] k).0, tt))
      (bool_cases (is_blank b)))
      (λ (c : eqb b 35 ≡ false).
      ⊎_elim
      (λ (e : is_blank b ≡ true).
      let k : EachWord P (ended w ++ words_on [] bs) = simp (c, e) at h in
      let r = words_before (ended w) (words_on [] bs) k in
      simp c (ended_each w r.0, (inl e, (words_on_cover [] bs r.1).1)))
      (λ (e : is_blank b ≡ false).
      let k : EachWord P (words_on (w ++ (b ∷ [])) bs) = simp (c, e) at h in
      let r = words_on_cover (w ++ (b ∷ [])) bs k in
      let q = each_before w (b ∷ []) r.0 in
      simp c (q.0, (inr q.1.0, r.1)))
      (bool_cases (is_blank b)))
      (bool_cases (eqb b 35))

  pub words_cover : (line : List ℕ) → EachWord P (words_of line) → Each (λ b. (is_blank b ≡ true) ⊎ P b) (take (before 35 line) line)
  words_cover line h = (words_on_cover [] line h).1

lead_most : (p : ℕ → Bool) (l : List ℕ) → lead p l ≤ length l
unfolding lead
lead_most p [] = omega arith
lead_most p (b ∷ bs) =
    pick_cases (λ (n : ℕ). n ≤ length (b ∷ bs)) (p b) (suc (lead p bs)) 0 (λ e. omega (arith, lead_most p bs)) (λ e. omega arith)

pub before_most : (b : ℕ) (l : List ℕ) → before b l ≤ length l
before_most b l = lead_most (λ x. not (eqb x b)) l

-- a text that is known is tested, byte by byte
abbrev pub each_of : (ℕ → Bool) → List ℕ → Bool
each_of f [] = true
each_of f (b ∷ bs) = f b && each_of f bs

pub each_of_lem : (f : ℕ → Bool) (P : ℕ → Type 0) → ((b : ℕ) → f b ≡ true → P b) → (l : List ℕ) → each_of f l ≡ true → Each P l
each_of_lem f P p [] h = tt
each_of_lem f P p (b ∷ bs) h = let r = and_true (f b) (each_of f bs) h in (p b r.0, each_of_lem f P p bs r.1)

-- ---- printable bytes

abbrev pub Printable : ℕ → Type 0
Printable b = (33 ≤ b) × (b ≤ 126)

abbrev is_printable : ℕ → Bool
is_printable b = leb 33 b && leb b 126

-- every byte is, as computing shows
abbrev pub spelt : List ℕ → Bool
spelt l = each_of is_printable l

pub each_printable : (l : List ℕ) → spelt l ≡ true → Each Printable l
each_printable l h =
    each_of_lem is_printable Printable
    (λ b e. let r = and_true (leb 33 b) (leb b 126) e in (leb-true 33 b r.0, leb-true b 126 r.1)) l h

-- ---- digits

pub digit_range : (b : ℕ) → digit b < 16 → (48 ≤ b) × (b ≤ 102)
digit_range b h = (
  ⊎_elim (λ (k : b < 48). absurd (omega (arith, digit_below b k))) (λ (k : 48 ≤ b). k) (lt_or_ge b 48),
  ⊎_elim (λ (k : 102 < b). absurd (omega (arith, digit_above b k))) (λ (k : b ≤ 102). k) (lt_or_ge 102 b),
)

pub digit_printable : (b : ℕ) → digit b < 16 → Printable b
digit_printable b h = let r = digit_range b h in (omega (arith, r.0), omega (arith, r.1))

pub digit_in_word : (b : ℕ) → digit b < 16 → in_word b ≡ true
digit_in_word b h =
    let r = digit_range b h in
    rw (ne_eqb b 32 (λ e. omega (arith, r.0)), ne_eqb b 9 (λ e. omega (arith, r.0)), ne_eqb b 35 (λ e. omega (arith, r.0)))

pub digits_each : (base : ℕ) (w : List ℕ) → base ≤ 16 → digits_of base w ≡ true → Each (λ b. digit b < 16) w
unfolding digits_of
digits_each base [] h e = tt
digits_each base (b ∷ w) h e =
    let r = and_true (ltb (digit b) base) (digits_of base w) e in
    (omega (arith, ltb-true (digit b) base r.0), digits_each base w h r.1)

-- ---- numbers and bytes

number_digits : (base n : ℕ) (w : List ℕ) → number_on base 0 w ≡ Some n → digits_of base w ≡ true
unfolding number_on
number_digits base n w =
    pick_cases (λ (x : Option ℕ). x ≡ Some n → digits_of base w ≡ true) (digits_of base w && ltb (value_on base 0 w) 18446744073709551616)
    (Some (value_on base 0 w)) None (λ e f. (and_true (digits_of base w) _ e).0)
    (λ e f. let z : ◌≡◌ {A = ℕ} 0 1 = cc in absurd (omega arith))

printable_digits : (base n : ℕ) (w : List ℕ) → base ≤ 16 → number_on base 0 w ≡ Some n → Each Printable w
printable_digits base n w h e =
    each_as (λ b. digit b < 16) Printable digit_printable w (digits_each base w h (number_digits base n w e))

hex_each : (n : ℕ) (w : List ℕ) → is_hex w ≡ true → number_on 16 0 (drop 2 w) ≡ Some n → Each Printable w
hex_each n [] h e = absurd (omega (arith, hex_long [] h))
hex_each n (a ∷ []) h e = absurd (omega (arith, hex_long (a ∷ []) h))
hex_each n (a ∷ b ∷ w) h e =
    let p = and_true (ltb 2 (length (a ∷ b ∷ w)) && eqb a 48) (eqb b 120) h in
    let q = and_true (ltb 2 (length (a ∷ b ∷ w))) (eqb a 48) p.0 in
    let x = eqb-true a 48 q.1 in
    let y = eqb-true b 120 p.1 in
    ((omega (arith, x), omega (arith, x)), ((omega (arith, y), omega (arith, y)), printable_digits 16 n w (omega arith) e))

number_each : (w : List ℕ) (n : ℕ) → number_in w ≡ Some n → Each Printable w
unfolding number_in
number_each w n =
    pick_cases (λ (x : Option ℕ). x ≡ Some n → Each Printable w) (eqb (length w) 0) None
    (pick (is_hex w) (number_on 16 0 (drop 2 w)) (number_on 10 0 w)) (λ e f. let z : ◌≡◌ {A = ℕ} 0 1 = cc in absurd (omega arith))
    (λ e.
    pick_cases (λ (x : Option ℕ). x ≡ Some n → Each Printable w) (is_hex w) (number_on 16 0 (drop 2 w)) (number_on 10 0 w)
    (λ h f. hex_each n w h f) (λ h f. printable_digits 10 n w (omega arith) f))

number_good : (m : ℕ) (w : List ℕ) → (number_up_to m w).good ≡ true → Each Printable w
number_good m w = go (number_in w) refl
  where
    go : (x : Option ℕ) → number_in w ≡ x → (single (up_to m x)).good ≡ true → Each Printable w
    go (Some n) e h = number_each w n e
    go None e h = absurd (true≢false (sym h))

then_good : (a b : Values) → (and_then a b).good ≡ true → (a.good ≡ true) × (b.good ≡ true)
unfolding and_then
then_good a b =
    pick_cases (λ (v : Values). v.good ≡ true → (a.good ≡ true) × (b.good ≡ true)) a.good
    (record { good = b.good; list = a.list ++ b.list }) a (λ e f. (e, f)) (λ e f. absurd (clash f e))

byte_good : (high low : ℕ) → (single (byte_of high low)).good ≡ true → (digit high < 16) × (digit low < 16)
byte_good high low =
    pick_cases (λ (x : Option ℕ). (single x).good ≡ true → (digit high < 16) × (digit low < 16)) (ltb (digit high) 16 && ltb (digit low) 16)
    (Some (16 * digit high + digit low)) None
    (λ e f.
    let r = and_true (ltb (digit high) 16) (ltb (digit low) 16) e in
    (ltb-true (digit high) 16 r.0, ltb-true (digit low) 16 r.1))
    (λ e f. absurd (true≢false (sym f)))

bytes_good : (w : List ℕ) → (bytes_of w).good ≡ true → Each Printable w
unfolding bytes_of
bytes_good [] h = tt
bytes_good (b ∷ []) h = absurd (true≢false (sym h))
bytes_good (high ∷ low ∷ w) h =
    let r = then_good (single (byte_of high low)) (bytes_of w) h in
    let d = byte_good high low r.0 in
    (digit_printable high d.0, (digit_printable low d.1, bytes_good w r.1))

-- ---- what stands behind a command

each_good : (f : List ℕ → Values) → ((w : List ℕ) → (f w).good ≡ true → Each Printable w) → (ws : List (List ℕ))
    → (of_each f ws).good ≡ true → EachWord Printable ws
unfolding of_each
each_good f p [] h = tt
each_good f p (w ∷ ws) h = let r = then_good (f w) (of_each f ws) h in (p w r.0, each_good f p ws r.1)

fixed_good : (ms : List ℕ) (ws : List (List ℕ)) → (fixed_in ms ws).good ≡ true → EachWord Printable (drop (length ms) ws)
    → EachWord Printable ws
unfolding fixed_in
fixed_good [] ws h k = k
fixed_good (m ∷ ms) [] h k = tt
fixed_good (m ∷ ms) (w ∷ ws) h k =
    let r = then_good (number_up_to m w) (fixed_in ms ws) h in (number_good m w r.0, fixed_good ms ws r.1 k)

rest_good : (rest : Rest) (ns : List ℕ) (ws : List (List ℕ)) → (rest_in rest ns ws).good ≡ true → EachWord Printable ws
rest_good Nothing ns [] h = tt
rest_good Nothing ns (w ∷ ws) h = absurd (true≢false (sym h))
rest_good (Numbers m) ns ws h = each_good (number_up_to m) (number_good m) ws h
rest_good Bytes ns ws h = each_good bytes_of bytes_good ws h

pub arguments_good : (largest : List ℕ) (rest : Rest) (ws : List (List ℕ)) → (arguments_in largest rest ws).good ≡ true
    → EachWord Printable ws
arguments_good largest rest ws h =
    let b = good_parts largest ws rest h in
    fixed_good largest ws b.0 (rest_good rest (fixed_in largest ws).list (drop (length largest) ws) (rw b.1 at h))
