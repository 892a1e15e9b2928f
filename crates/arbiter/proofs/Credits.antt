-- What a level's turn costs and how long it lasts, and when the levels refill. Assumes nothing.
use Rattle.arbiter.specs.declared.Group.{Group}
use Rattle.std.specs.Prelude.{Option, Some, None}
use Prim.Native.Nat.{ℕ, ◌+◌, ◌-◌, ◌≤◌, ◌<◌}
use mathlib.Core.Bool.{Bool, true, false, ◌||◌}
use mathlib.Core.Logic.{◌⊎◌, inl, inr, ⊎_elim}
use mathlib.Core.Path.{◌≡◌, refl, sym, ap, ◌∙◌}
use native.Mathlib.Nat.{min-eq_left, min-eq_right, eq-zero-or-pos}
use native.Mathlib.Omega.{arith}
use borrow.Author.Tests.{lt-ltb}
use Rattle.rules.proofs.Cases.{some_both}
use Rattle.rules.proofs.Tests.{bool_cases, clash, or-false, or-true}
use Rattle.bits.specs.Bits.{is_set}
use Rattle.bits.proofs.Some.{some_found, some_which}
use Rattle.arbiter.specs.declared.Remainder.{Remainder}
use Rattle.arbiter.specs.declared.Remainder.TheVariants.{Left, NoLimit}
use Rattle.arbiter.specs.declared.Level.{Level}
use Rattle.arbiter.specs.declared.Arbiter.{Arbiter}
use Rattle.arbiter.specs.declared.Candidates.{Candidates}
use Rattle.arbiter.specs.Turns.{turn}
use Rattle.arbiter.specs.Arbiter.{refilled, some, ready, level_full, charged, level_turn, some_waits, some_ready, refilled_if_due}
use Rattle.arbiter.proofs.TurnOrder.{ComesNext, Over, group, goes_on, passes_on}
use Rattle.arbiter.proofs.Levels.{ready_parts, level_idle, level_turn_lem}

-- one of the 16 queues is a candidate
abbrev pub Has : (ℕ → Bool) → Type 0
Has p = (i : ℕ) × (i < 16) × (p i ≡ true)

-- a level "with a candidate and credit"
abbrev pub Ready : Level → (ℕ → Bool) → Type 0
Ready l p = Has p × (0 < l.credit)

abbrev pub level : ℕ → Remainder → ℕ → Level
level h r c = record { group = group h r; credit = c }

module _ (p : ℕ → Bool) where
  pub has_some : Has p → some p ≡ true
  has_some (i, l, e) = some_found 16 p i l e

  pub has_none : (Has p → ⊥) → some p ≡ false
  has_none n = ⊎_elim (λ (e : some p ≡ true). absurd (n (some_which 16 p e))) (λ (e : some p ≡ false). e) (bool_cases (some p))

  module _ (l : Level) where
    pub is_ready : Ready l p → ready l p ≡ true
    unfolding ready
    is_ready (h, c) = rw (has_some h, lt-ltb 0 l.credit c)

    pub ready_is : ready l p ≡ true → Ready l p
    ready_is e = let w = ready_parts l p e in (some_which 16 p w.0, w.1)

    not_ready : (Ready l p → ⊥) → ready l p ≡ false
    not_ready n = ⊎_elim (λ (e : ready l p ≡ true). absurd (n (ready_is e))) (λ (e : ready l p ≡ false). e) (bool_cases (ready l p))

    -- a level without a candidate, or without credit, serves nobody
    pub not_ready_idle : (b : Remainder) → (Ready l p → ⊥) → level_turn b l p ≡ None
    not_ready_idle b n = sym (level_idle b l p (not_ready n))

    -- "serving costs one credit"
    pub costs_one : (b : Remainder) {i : ℕ} {left : Level} → level_turn b l p ≡ Some (i, left) → left.credit + 1 ≡ l.credit
    costs_one b {i} {left} e =
        ⊎_elim
        (λ (y : ready l p ≡ true).
        go (turn (level_full b l.credit) l.group p) (ready_is y).1 (level_turn_lem b l p refl y ∙ e))
        (λ (n : ready l p ≡ false). let q = level_idle b l p n in let z : ◌≡◌ {A = ℕ} 0 1 = cc in absurd (omega arith))
        (bool_cases (ready l p))
      where
        go : (x : Option (ℕ × Group)) → 0 < l.credit → charged l.credit x ≡ Some (i, left) → left.credit + 1 ≡ l.credit
        go (Some (k, g)) h q = let s = ap (λ (x : Level). x.credit) (some_both q).1 in omega arith
        go None h q = let z : ◌≡◌ {A = ℕ} 0 1 = cc in absurd (omega arith)

  -- the holder goes on at the cost of one credit
  pub level_goes_on : (b : Remainder) (h n c : ℕ) → h < 16 → p h ≡ true
      → level_turn b (level h (Left (n + 1)) (c + 1)) p ≡ Some (h, (level h (Left n) c))
  level_goes_on b h n c low e =
      let l = level h (Left (n + 1)) (c + 1) in
      let q : c + 1 - 1 ≡ c = omega arith in
      sym (level_turn_lem b l p refl (is_ready l ((h, low, e), omega arith)))
      ∙ rw (goes_on p (level_full b (c + 1)) h n e, q)

  -- "A level's full remainder is the smaller of burst and credit, so under burst 7 it is the credit and is lowered": queue i, which
  -- comes next, is served out of it; the burst is k + 1 or without limit, the credit c + 1
  module _ (h : ℕ) (r : Remainder) (c : ℕ) (low : h < 16) (o : Over (group h r) p) {i : ℕ} (n : ComesNext p h i) where
    by_full : (b : Remainder) (k : ℕ) → level_full b (c + 1) ≡ Left (k + 1)
        → level_turn b (level h r (c + 1)) p ≡ Some (i, (level i (Left k) c))
    by_full b k e =
        let l = level h r (c + 1) in
        let q : c + 1 - 1 ≡ c = omega arith in
        sym (level_turn_lem b l p (sym e) (is_ready l ((i, below, n.0), omega arith)))
        ∙ rw (passes_on p (group h r) low o n k, q)
      where
        below : i < 16
        below = ⊎_elim (λ u. u.1) (λ u. omega (arith, u.0)) n.1

    pub by_burst : (k : ℕ) → k ≤ c → level_turn (Left (k + 1)) (level h r (c + 1)) p ≡ Some (i, (level i (Left k) c))
    by_burst k l = by_full (Left (k + 1)) k (ap Left (min-eq_left (omega arith)))

    pub by_credit : (k : ℕ) → c ≤ k → level_turn (Left (k + 1)) (level h r (c + 1)) p ≡ Some (i, (level i (Left c) c))
    by_credit k l = by_full (Left (k + 1)) c (ap Left (min-eq_right (omega arith)))

    pub by_credit_without_limit : level_turn NoLimit (level h r (c + 1)) p ≡ Some (i, (level i (Left c) c))
    by_credit_without_limit = by_full NoLimit c refl

-- ---- the refill

-- a level with a candidate has no credit
abbrev pub NoCredit : Level → (ℕ → Bool) → Type 0
NoCredit l p = Has p → l.credit ≡ 0

module _ (a : Arbiter) (c : Candidates) where
  abbrev high : ℕ → Bool
  high = is_set c.high

  abbrev medium : ℕ → Bool
  medium = is_set c.medium

  abbrev low : ℕ → Bool
  low = is_set c.low

  -- "levels have candidates but none of these has credit"
  abbrev pub Due : Type 0
  Due = (Has high ⊎ Has medium ⊎ Has low) × NoCredit a.high high × NoCredit a.medium medium × NoCredit a.low low

  waits : some_waits c ≡ true → Has high ⊎ Has medium ⊎ Has low
  unfolding some_waits
  waits e =
      ⊎_elim
      (λ (f : (some high || some medium) ≡ true).
      ⊎_elim (λ (g : some high ≡ true). inl (some_which 16 high g)) (λ (g : some medium ≡ true). inr (inl (some_which 16 medium g)))
      (or-true _ _ f)) (λ (f : some low ≡ true). inr (inr (some_which 16 low f))) (or-true (some high || some medium) _ e)

  nobody_waits : some_waits c ≡ false → Has high ⊎ Has medium ⊎ Has low → ⊥
  unfolding some_waits
  nobody_waits e w =
      let f = or-false (some high || some medium) (some low) e in
      let g = or-false (some high) (some medium) f.0 in
      ⊎_elim (λ (h : Has high). clash (has_some high h) g.0)
      (⊎_elim (λ (h : Has medium). clash (has_some medium h) g.1) (λ (h : Has low). clash (has_some low h) f.1)) w

  no_credit : (l : Level) (p : ℕ → Bool) → ready l p ≡ false → NoCredit l p
  no_credit l p e h =
      ⊎_elim (λ (z : l.credit ≡ 0). z) (λ (u : 0 < l.credit). absurd (clash (is_ready p l (h, u)) e)) (eq-zero-or-pos l.credit)

  none_has_credit : some_ready a c ≡ false → NoCredit a.high high × NoCredit a.medium medium × NoCredit a.low low
  unfolding some_ready
  none_has_credit e =
      let f = or-false (ready a.high high || ready a.medium medium) (ready a.low low) e in
      let g = or-false (ready a.high high) (ready a.medium medium) f.0 in
      (no_credit a.high high g.0, no_credit a.medium medium g.1, no_credit a.low low f.1)

  has_credit : (l : Level) (p : ℕ → Bool) → ready l p ≡ true → NoCredit l p → ⊥
  has_credit l p e d = let r = ready_is p l e in omega (arith, r.1, d r.0)

  some_credit : some_ready a c ≡ true → NoCredit a.high high → NoCredit a.medium medium → NoCredit a.low low → ⊥
  unfolding some_ready
  some_credit e h m l =
      ⊎_elim
      (λ (f : (ready a.high high || ready a.medium medium) ≡ true).
      ⊎_elim (λ (g : ready a.high high ≡ true). has_credit a.high high g h)
      (λ (g : ready a.medium medium ≡ true). has_credit a.medium medium g m) (or-true _ _ f))
      (λ (f : ready a.low low ≡ true). has_credit a.low low f l) (or-true (ready a.high high || ready a.medium medium) _ e)

  -- "if levels have candidates but none of these has credit, all three refill first", and otherwise nothing changes
  pub refill_exact : (Due × (refilled_if_due a c ≡ refilled a)) ⊎ ((Due → ⊥) × (refilled_if_due a c ≡ a))
  unfolding refilled_if_due
  refill_exact =
      ⊎_elim
      (λ (w : some_waits c ≡ true).
      ⊎_elim
      (λ (r : some_ready a c ≡ true). inr (λ d. some_credit r d.1 d.2 d.3, rw (w, r)))
      (λ (r : some_ready a c ≡ false).
      let d = none_has_credit r in inl ((waits w, d.0, d.1, d.2), rw (w, r)))
      (bool_cases (some_ready a c)))
      (λ (w : some_waits c ≡ false). inr (λ d. nobody_waits w d.0, rw w)) (bool_cases (some_waits c))
