-- Who is served next in a group, said by comparing ids, and what is left of the turn. Assumes nothing.
use Rattle.std.specs.Prelude as std
use Rattle.std.specs.Prelude.{Option, Some}
use Prim.Native.Nat.{ℕ, zero, suc, ◌+◌, ◌-◌, ◌%◌, ◌^◌, ◌≤◌, ◌<◌}
use mathlib.Core.Bool.{Bool, true, false}
use mathlib.Core.Logic.{◌⊎◌, inl, inr, ⊎_elim, ◌↔◌}
use mathlib.Core.Path.{◌≡◌, refl, sym, ap, ◌∙◌}
use native.Mathlib.Nat.{eq-zero-or-pos}
use native.Mathlib.Numerals.{add-one}
use native.Mathlib.Omega.{arith}
use lib.Dec.{ltb, lit<}
use borrow.Author.Tests.{lt-ltb, ltb-true, ltb-false}
use Rattle.rules.proofs.Cases.{some_both}
use Rattle.rules.proofs.Tests.{bool_cases, lt_or_ge, and_no}
use Rattle.bits.specs.Bits.{is_set, first}
use Rattle.bits.proofs.First.{first_hit, first_below, first_from}
use Rattle.arbiter.specs.declared.Remainder.{Remainder}
use Rattle.arbiter.specs.declared.Remainder.TheVariants.{Left, NoLimit}
use Rattle.arbiter.specs.declared.Group.{Group}
use Rattle.arbiter.specs.Turns.{start, next_after, takes, turn}
use Rattle.arbiter.proofs.Turns.{NoneNearer, next_is, next_none, next_found, next_zero}

module _ (p : ℕ → Bool) where
  -- no queue from a on and below b is a candidate
  abbrev pub None : ℕ → ℕ → Type 0
  None a b = (j : ℕ) → a ≤ j → j < b → p j ≡ false

  -- "the next candidate in rising id order after the holder, wrapping, the holder last": candidate i is above the holder h and none
  -- lies between them, or none is above h, and none below i
  abbrev pub ComesNext : ℕ → ℕ → Type 0
  ComesNext h i =
      (p i ≡ true) × (((h < i) × (i < 16) × None (h + 1) i) ⊎ ((i ≤ h) × None (h + 1) 16 × None 0 i))

  module _ (h : ℕ) (low : h < 16) where
    comes_next_found : (i : ℕ) → ComesNext h i → next_after p h ≡ Some i
    comes_next_found i (y, w) =
        ⊎_elim
        (λ (u : (h < i) × (i < 16) × None (h + 1) i). at (i - h) (omega (arith, u.0)) (omega (arith, u.1)) (omega (arith, u.0, u.1))
        (λ j a b. let e : (h + j) % 16 ≡ h + j = omega (arith, u.1) in ap p e ∙ u.2 (h + j) (omega arith) (omega arith)))
        (λ (u : (i ≤ h) × None (h + 1) 16 × None 0 i).
        at (16 + i - h) (omega (arith, u.0)) (omega (arith, u.0)) (omega (arith, u.0))
        (λ j a b.
        ⊎_elim
        (λ (l : h + j < 16). let e : (h + j) % 16 ≡ h + j = omega arith in ap p e ∙ u.1 (h + j) (omega arith) l)
        (λ (l : 16 ≤ h + j). let e : (h + j) % 16 ≡ h + j - 16 = omega arith in ap p e ∙ u.2 (h + j - 16) (omega arith) (omega arith))
        (lt_or_ge (h + j) 16))) w
      where
        at : (d : ℕ) → 1 ≤ d → d ≤ 16 → (h + d) % 16 ≡ i → NoneNearer p h d → next_after p h ≡ Some i
        at d l u e n = sym (next_is p h d l u (ap p e ∙ y) n) ∙ ap Some e

    nobody_next : None 0 16 → next_after p h ≡ std.None
    nobody_next n = sym (next_none p h (λ j a b. n ((h + j) % 16) (omega arith) (omega arith)))

    -- d steps on there is a candidate, and none nearer
    nearest_comes_next : (d : ℕ) → 1 ≤ d → d ≤ 16 → p ((h + d) % 16) ≡ true → NoneNearer p h d → ComesNext h ((h + d) % 16)
    nearest_comes_next d l u y n = (
      y,
      ⊎_elim
          (λ (s : h + d < 16).
          let e : (h + d) % 16 ≡ h + d = omega arith in
          inl (omega arith, omega arith, λ j a b. above j (omega arith) (omega arith) ∙ n (j - h) (omega arith) (omega arith)))
          (λ (s : 16 ≤ h + d).
          let e : (h + d) % 16 ≡ h + d - 16 = omega arith in
          inr (
            omega arith,
            λ j a b. above j (omega arith) b ∙ n (j - h) (omega arith) (omega arith),
            λ j a b. let k : (h + (16 + j - h)) % 16 ≡ j = omega arith in ap p (sym k) ∙ n (16 + j - h) (omega arith) (omega arith),
          ))
          (lt_or_ge (h + d) 16),
    )
      where
        above : (j : ℕ) → h ≤ j → j < 16 → p j ≡ p ((h + (j - h)) % 16)
        above j a b = ap p (omega arith)

    -- what the rule finds: the candidate that comes next, or nobody, and then there is no candidate
    abbrev Found : Option ℕ → Type 0
    Found (Some i) = ComesNext h i
    Found std.None = None 0 16

    found : Found (next_after p h)
    unfolding next_after
    found =
        let q : ℕ → Bool = λ d. p ((h + d) % 16) in
        ⊎_elim
        (λ (e : ltb (first q 1 16) 17 ≡ true).
        let l : first q 1 16 < 17 = ltb-true _ 17 e in
        rw e (nearest_comes_next (first q 1 16) (first_from q 1 16) (omega arith) (first_hit q 1 16 l) (first_below q 1 16)))
        (λ (e : ltb (first q 1 16) 17 ≡ false).
        let g : 17 ≤ first q 1 16 = ltb-false _ 17 e in
        rw e (λ i a l.
        let d = (i + 15 - h) % 16 + 1 in
        let s : (h + d) % 16 ≡ i = omega arith in ap p (sym s) ∙ first_below q 1 16 d (omega arith) (omega arith)))
        (bool_cases (ltb (first q 1 16) 17))

    -- the next turn holder is exactly the candidate that comes next
    pub next_exact : (i : ℕ) → (next_after p h ≡ Some i) ↔ ComesNext h i
    next_exact i = (go (next_after p h) found, comes_next_found i)
      where
        go : (x : Option ℕ) → Found x → x ≡ Some i → ComesNext h i
        go (Some k) c e = let q : k ≡ i = cc in rw q at c
        go std.None n e = let q : ◌≡◌ {A = ℕ} 0 1 = cc in absurd (omega arith)

    pub next_nobody : (next_after p h ≡ std.None) ↔ None 0 16
    next_nobody = (go (next_after p h) found, nobody_next)
      where
        go : (x : Option ℕ) → Found x → x ≡ std.None → None 0 16
        go (Some k) c e = let q : ◌≡◌ {A = ℕ} 0 1 = cc in absurd (omega arith)
        go std.None n e = n

-- "none exactly if the number is 0": the group's candidates are a number of 16 bits
pub nobody_exact : (m : ℕ) → m < 2 ^ 16 → (h : ℕ) → (next_after (is_set m) h ≡ std.None) ↔ (m ≡ 0)
nobody_exact m f h = (
  λ e. ⊎_elim (λ (z : m ≡ 0). z) (λ (p : 0 < m). let q : ◌≡◌ {A = ℕ} 0 1 = cc (e, next_found m h f p) in absurd (omega arith))
      (eq-zero-or-pos m),
  λ z. sym (next_zero m h z),
)

-- ---- what a turn leaves

abbrev pub group : ℕ → Remainder → Group
group h r = record { holder = h; remainder = r }

-- nothing is left of the holder's turn, or the holder is no candidate
abbrev pub Over : Group → (ℕ → Bool) → Type 0
Over g p = (g.remainder ≡ Left 0) ⊎ (p g.holder ≡ false)

module _ (p : ℕ → Bool) where
  -- "If the holder is a candidate with remainder above 0, it is served"; "Serving lowers the remainder by one"
  pub goes_on : (full : Remainder) (h n : ℕ) → p h ≡ true → turn full (group h (Left (n + 1))) p ≡ Some (h, (group h (Left n)))
  unfolding turn
  goes_on full h n e = let q : n + 1 - 1 ≡ n = omega arith in rw (e, lt-ltb 0 (n + 1) (omega arith), q)

  -- "a remainder without limit stays so"
  pub goes_on_without_limit : (full : Remainder) (h : ℕ) → p h ≡ true → turn full (group h NoLimit) p ≡ Some (h, (group h NoLimit))
  unfolding turn
  goes_on_without_limit full h e = rw e

  module _ (g : Group) (low : g.holder < 16) (o : Over g p) where
    passed : (full : Remainder) → takes full (next_after p g.holder) ≡ turn full g p
    unfolding turn
    passed full =
        ⊎_elim (λ (z : g.remainder ≡ Left 0). rw (z, and_no (p g.holder) false refl)) (λ (z : p g.holder ≡ false). rw z) o

    -- "Otherwise the next candidate .. takes the turn with a full remainder and is served"
    module _ {i : ℕ} (c : ComesNext p g.holder i) where
      next : next_after p g.holder ≡ Some i
      next = (next_exact p g.holder low i).1 c

      pub passes_on : (n : ℕ) → turn (Left (n + 1)) g p ≡ Some (i, (group i (Left n)))
      passes_on n = let q : n + 1 - 1 ≡ n = omega arith in sym (passed (Left (n + 1))) ∙ rw (next, q)

      pub passes_on_without_limit : turn NoLimit g p ≡ Some (i, (group i NoLimit))
      passes_on_without_limit = sym (passed NoLimit) ∙ rw next

  -- a group without a candidate serves nobody
  pub turn_idle : (full : Remainder) (g : Group) → g.holder < 16 → None p 0 16 → turn full g p ≡ std.None
  turn_idle full g low n =
      sym (passed g low (inr (n g.holder (omega arith) low)) full) ∙ rw ((next_nobody p g.holder low).1 n)

  -- "at first holder 15, remainder 0": the first turn is the lowest candidate's
  pub first_turn : (full : Remainder) {i : ℕ} {g : Group} → turn full start p ≡ Some (i, g) → (p i ≡ true) × None p 0 i
  first_turn full {i} {g} e = go (next_after p 15) refl (passed start (lit< tt) (inl refl) full ∙ e)
    where
      lowest : ComesNext p 15 i → (p i ≡ true) × None p 0 i
      lowest (y, w) = (y, ⊎_elim (λ u. absurd (omega (arith, u.0, u.1))) (λ u. u.2) w)

      go : (x : Option ℕ) → next_after p 15 ≡ x → takes full x ≡ Some (i, g) → (p i ≡ true) × None p 0 i
      go (Some k) q t = let s = (some_both t).0 in lowest ((next_exact p 15 (lit< tt) i).0 (q ∙ ap Some s))
      go std.None q t = let s : ◌≡◌ {A = ℕ} 0 1 = cc in absurd (omega arith)

-- ---- a whole turn

module _ (p : ℕ → Bool) (full : Remainder) (i : ℕ) where
  -- n turns in a row serve queue i, and lead from the group g to the group k
  unfoldable pub InARow : ℕ → Group → Group → Type 0
  InARow zero g k = g ≡ k
  InARow (suc n) g k = (h : Group) × (turn full g p ≡ Some (i, h)) × InARow n h k

  rest : p i ≡ true → (n : ℕ) → InARow n (group i (Left n)) (group i (Left 0))
  unfolding InARow
  rest y zero = refl
  rest y (suc n) = (group i (Left n), ap (λ (k : ℕ). turn full (group i (Left k)) p) (sym (add-one n)) ∙ goes_on p full i n y, rest y n)

-- a queue that stays a candidate is served exactly as often as its full remainder says, and then nothing is left of its turn
pub whole_turn : (p : ℕ → Bool) (n : ℕ) (g : Group) → g.holder < 16 → Over g p → {i : ℕ} → ComesNext p g.holder i
    → InARow p (Left (n + 1)) i (suc n) g (group i (Left 0))
unfolding InARow
whole_turn p n g low o {i} c = (group i (Left n), passes_on p g low o c n, rest p (Left (n + 1)) i c.0 n)
