-- Distances, valid doorbell values and the refusals of the reader and of the plain checks, once more in propositions. Assumes nothing.
use Rattle.std.specs.Prelude.{Err}
use Prim.Native.Nat.{ℕ, zero, suc, ◌+◌, ◌-◌, ◌*◌, ◌%◌, ◌≤◌, ◌<◌}
use mathlib.Core.Bool.{Bool, not}
use mathlib.Core.List.{List, [], ◌∷◌, ◌++◌}
use mathlib.Core.Logic.{◌⊎◌, ⊎_elim}
use mathlib.Core.Path.{◌≡◌, refl, sym, ap, ◌∙◌}
use native.Mathlib.Nat.{mod-lt, mod-eq_of_lt, mod-add-mod, add-mod_right}
use native.Mathlib.Omega.{arith}
use lib.Dec.{eqb}
use lib.ListN.{length}
use Rattle.rules.proofs.Tests.{lt_or_ge}
use Rattle.rules.proofs.Cases.{pick_cases, settle_cases, settle_number}
use Rattle.rules.proofs.Exactly.{Says, says_is, says_lt, says_le, says_eq, says_not, says_as, says_outside, Reasons, Decided, decided}
use Rattle.ring.specs.Slots.{next, distance, phase_after}
use Rattle.ring.specs.Doorbell.{valid_tail, valid_head, place_rules, checked, tail_check, head_check}
use Rattle.ring.specs.Reader.{phase_in, read_count, reader_rules, reader_refusal, waiting_answer, ring_read}
use Rattle.ring.proofs.Wrap.{Wrapped, low, high, wrapped}
use Rattle.ring.proofs.Steps.{distance_ahead, distance_around, distance_self, next_on, next_over}
use Rattle.ring.proofs.Doorbells.{valid_tail_lem, valid_head_lem, tail_adds, head_releases}

-- ---- the distance of b from a is the number of steps that lead from a to b

module _ (s a : ℕ) (h : a < s) where
  pub distance_below : (b : ℕ) → distance s a b < s
  unfolding distance
  distance_below b = mod-lt (b + s - a) (omega arith)

  pub steps_lead : (b : ℕ) → b < s → (a + distance s a b) % s ≡ b
  steps_lead b l =
      ⊎_elim
      (λ (n : b < a). ap (λ (x : ℕ). (a + x) % s) (distance_around s a b n h) ∙ ap (λ (x : ℕ). x % s) {y = b + s} (omega arith)
      ∙ add-mod_right b s ∙ mod-eq_of_lt l)
      (λ (n : a ≤ b). ap (λ (x : ℕ). (a + x) % s) (distance_ahead s a b n l) ∙ ap (λ (x : ℕ). x % s) {y = b} (omega arith)
      ∙ mod-eq_of_lt l)
      (lt_or_ge b a)

  pub steps_are : (k : ℕ) → k < s → distance s a ((a + k) % s) ≡ k
  steps_are k l = go (wrapped s (a + k) (omega arith))
    where
      go : {b : ℕ} → Wrapped s (a + k) b → distance s a b ≡ k
      go {b} (low m e) = distance_ahead s a b (omega arith) (omega arith) ∙ omega arith
      go {b} (high m e n) = distance_around s a b (omega arith) h ∙ omega arith

-- "a full ring holds size - 1 entries": the slot after the tail is the head
pub says_full : (s h t : ℕ) → h < s → t < s → Says (eqb (distance s h t) (s - 1)) (next s t ≡ h)
says_full s h t x y =
    says_as (says_eq (distance s h t) (s - 1))
    (λ e. ⊎_elim (λ (l : t < h). on (omega (arith, distance_around s h t l x)))
    (λ (l : h ≤ t). over (omega (arith, distance_ahead s h t l y)) (omega (arith, distance_ahead s h t l y))) (lt_or_ge t h))
    (λ e. ⊎_elim (λ (l : t + 1 < s). distance_around s h t (omega (arith, next_on s t 0 l)) x ∙ omega (arith, next_on s t 0 l))
    (λ (l : s ≤ t + 1). distance_ahead s h t (omega (arith, next_over s t 0 (omega arith))) y
    ∙ omega (arith, next_over s t 0 (omega arith))) (lt_or_ge (t + 1) s))
  where
    on : t + 1 ≡ h → next s t ≡ h
    on e = next_on s t 0 (omega arith) ∙ e

    over : h ≡ 0 → t + 1 ≡ s → next s t ≡ h
    over z e = next_over s t 0 e ∙ sym z

-- ---- valid doorbell values

module _ (size head tail v : ℕ) where
  -- a tail value by which k entries more are submitted, at least one, and then no more than size - 1 in all
  abbrev pub TailValue : Type 0
  TailValue = (k : ℕ) × (1 ≤ k) × (distance size head tail + k < size) × (v ≡ (tail + k) % size)

  -- a head value by which k of the entries posted are released, at least one
  abbrev pub HeadValue : Type 0
  HeadValue = (k : ℕ) × (1 ≤ k) × (k ≤ distance size head tail) × (v ≡ (head + k) % size)

  module _ (h : head < size) (t : tail < size) where
    -- the slot k steps after the tail lies so much farther from the head
    farther : (k : ℕ) → distance size head tail + k < size → distance size head ((tail + k) % size) ≡ distance size head tail + k
    farther k l =
        let d = distance size head tail in
        let e : (tail + k) % size ≡ (head + (d + k)) % size =
        ap (λ (x : ℕ). (x + k) % size) (sym (steps_lead size head h tail t)) ∙ mod-add-mod (head + d) size k
        ∙ ap (λ (x : ℕ). x % size) (omega arith) in
        ap (distance size head) e ∙ steps_are size head h (d + k) l

    pub says_tail : Says (valid_tail size head tail v) TailValue
    says_tail =
        says_as (says_is (valid_tail size head tail v))
        (λ e. let a = tail_adds size head tail v h t e in (
          distance size tail v,
          a.0,
          omega (arith, a.1, distance_below size head h v),
          sym (steps_lead size tail t v ((valid_tail_lem size head tail v).0 e).0),
        ))
        (λ p. let f = farther p.0 p.2 in
        let g = steps_are size tail t p.0 (omega (arith, p.2)) in
        (valid_tail_lem size head tail v).1 (rw p.3 (
          mod-lt (tail + p.0) (omega arith),
          omega (arith, f),
          λ e. omega (arith, p.1, g, ap (distance size tail) e, distance_self size tail t),
        )))

    pub says_head : Says (valid_head size head tail v) HeadValue
    says_head =
        says_as (says_is (valid_head size head tail v))
        (λ e. let a = head_releases size head tail v h t e in (
          distance size head v,
          a.0,
          omega (arith, a.1),
          sym (steps_lead size head h v ((valid_head_lem size head tail v).0 e).0),
        ))
        (λ p. let g = steps_are size head h p.0 (omega (arith, p.2, distance_below size head h tail)) in
        (valid_head_lem size head tail v).1 (rw p.3 (
          mod-lt (head + p.0) (omega arith),
          omega (arith, g, p.2),
          λ e. omega (arith, p.1, g, ap (distance size head) e, distance_self size head h),
        )))

-- ---- refusals

-- "size outside 2 to 1,024 entries"
abbrev pub WrongSize : ℕ → Type 0
WrongSize size = (size < 2) ⊎ (1024 < size)

-- "plain doorbell checks 3, 10"
abbrev pub check_reasons : ℕ → ℕ → ℕ → Type 0 → Reasons
check_reasons size head tail Valid = (WrongSize size, 3) ∷ (size ≤ head, 10) ∷ (size ≤ tail, 10) ∷ ((Valid → ⊥), 10) ∷ []

check : (size head tail : ℕ) {valid : Bool} {P : Type 0} → (head < size → tail < size → Says valid P)
    → Decided (check_reasons size head tail P) (checked size head tail valid)
unfolding checked
check size head tail {valid} {P} s =
    decided (place_rules size head tail ++ ((not valid, 10) ∷ [])) (check_reasons size head tail P) (
      refl,
      says_outside 2 1024 size,
      λ a. (
        refl,
        says_le size head,
        λ b. (
          refl,
          says_le size tail,
          λ c. (refl, says_not (s (omega (arith, b)) (omega (arith, c))), λ d. tt),
        ),
      ),
    )

pub tail_check_lem : (size head tail v : ℕ) → Decided (check_reasons size head tail (TailValue size head tail v)) (tail_check size head tail v)
tail_check_lem size head tail v = check size head tail (says_tail size head tail v)

pub head_check_lem : (size head tail v : ℕ) → Decided (check_reasons size head tail (HeadValue size head tail v)) (head_check size head tail v)
head_check_lem size head tail v = check size head tail (says_head size head tail v)

-- "reader 3, 5, 10", on n bytes
abbrev pub reader_reasons : ℕ → ℕ → ℕ → Reasons
reader_reasons n size head = (WrongSize size, 3) ∷ (n < 16 * size, 5) ∷ (size ≤ head, 10) ∷ []

module _ (ring : List ℕ) (size head phase : ℕ) where
  -- the number that it answers is its refusal
  pub reader_number : (waiting_answer (ring_read ring size head phase)).0 ≡ reader_refusal (length ring) size head
  unfolding ring_read
  reader_number = settle_number (λ r. (waiting_answer r).0) (reader_refusal (length ring) size head) Err _ (λ k. refl) refl

  pub reader_refusal_lem : Decided (reader_reasons (length ring) size head) (waiting_answer (ring_read ring size head phase)).0
  unfolding reader_refusal
  reader_refusal_lem =
      let n = length ring in
      rw reader_number
      (decided (reader_rules n size head) (reader_reasons n size head)
      (refl, says_outside 2 1024 size, λ a. (refl, says_lt n (16 * size), λ b. (refl, says_le size head, λ c. tt))))

-- "at most size - 1 entries"
count_most : (n : ℕ) (ring : List ℕ) (size p phase : ℕ) → read_count n ring size p phase ≤ n
unfolding read_count
count_most zero ring size p phase = omega arith
count_most (suc n) ring size p phase =
    let h = count_most n ring size (next size p) (phase_after size p phase) in
    pick_cases (λ (k : ℕ). k ≤ suc n) (eqb (phase_in ring p) phase) _ _ (λ e. omega arith) (λ e. omega arith)

pub reader_most : (ring : List ℕ) (size head phase : ℕ) → (waiting_answer (ring_read ring size head phase)).1 ≤ size - 1
unfolding ring_read
reader_most ring size head phase =
    settle_cases (λ r. (waiting_answer r).1 ≤ size - 1) (reader_refusal (length ring) size head) _ _
    (λ z. count_most (size - 1) ring size head (phase % 2)) (λ z. omega arith)
