-- What a valid doorbell value is, and the cases of the plain checks. Assumes nothing.
use Prim.Native.Nat.{ℕ, ◌+◌, ◌≤◌, ◌<◌}
use mathlib.Core.Bool.{Bool, true, false, not, ◌&&◌}
use mathlib.Core.Logic.{◌↔◌}
use mathlib.Core.Path.{◌≡◌, refl, sym, ap, ◌∙◌}
use mathlib.Core.List.{[], ◌∷◌}
use native.Mathlib.Omega.{arith}
use lib.Dec.{ltb, leb}
use borrow.Author.Tests.{leb-false, leb-true, le-leb, ltb-true, lt-ltb, le-ltb, eqb-false, eq-eqb, ne_eqb, not-true}
use Rattle.rules.specs.Rules.{first_match}
use Rattle.rules.proofs.Tests.{and_true, and_no, range}
use Rattle.rules.proofs.Tables.{Unapplied, passed, append_refused, append_passed}
use Rattle.rules.specs.Refusal.{number}
use Rattle.rules.specs.declared.refusal.Refusal.{Refusal}
use Rattle.rules.proofs.Refusals.{number_not_0}
use Rattle.rules.proofs.Exactly.{says_is, says_lt, says_le, says_and, says_as, says_same}
use Rattle.ring.specs.Slots.{distance}
use Rattle.ring.specs.Doorbell.{differs, valid_tail, valid_head, place_rules, place_refusal, checked}
use Rattle.ring.proofs.Steps.{distance_self, distance_other, distance_over}

-- what both doorbells ask of a value: it is below the size, its distance is right, and it is not held
asks : (size held v a b : ℕ) → ((ltb v size && leb a b && differs held v) ≡ true) ↔ ((v < size) × (a ≤ b) × (v ≡ held → ⊥))
asks size held v a b = (
  λ e. let f = and_true _ _ e in
      let g = and_true _ _ f.0 in
      (ltb-true _ _ g.0, leb-true _ _ g.1, eqb-false _ _ (not-true _ f.1)),
  λ h. rw (lt-ltb _ _ h.0, le-leb _ _ h.1, ne_eqb _ _ h.2),
)

-- a value is valid exactly if it is below the size, as a tail no nearer to the head, as a head no farther than the tail, and not held
module _ (size head tail v : ℕ) where
  pub valid_tail_lem : (valid_tail size head tail v ≡ true)
      ↔ ((v < size) × (distance size head tail ≤ distance size head v) × (v ≡ tail → ⊥))
  unfolding valid_tail
  valid_tail_lem = asks size tail v _ _

  pub valid_head_lem : (valid_head size head tail v ≡ true)
      ↔ ((v < size) × (distance size head v ≤ distance size head tail) × (v ≡ head → ⊥))
  unfolding valid_head
  valid_head_lem = asks size head v _ _

-- the value held is never valid
module _ (size head tail : ℕ) where
  pub tail_held : valid_tail size head tail tail ≡ false
  unfolding valid_tail
  tail_held = and_no (ltb tail size && leb (distance size head tail) (distance size head tail)) _ (rw (eq-eqb tail tail refl))

  pub head_held : valid_head size head tail head ≡ false
  unfolding valid_head
  head_held = and_no (ltb head size && leb (distance size head head) (distance size head tail)) _ (rw (eq-eqb head head refl))

-- a valid value moves its end of the ring by one step or more, "by exactly the distance"
module _ (size head tail v : ℕ) (h : head < size) (t : tail < size) where
  pub tail_adds : valid_tail size head tail v ≡ true
      → (1 ≤ distance size tail v) × (distance size head v ≡ distance size head tail + distance size tail v)
  tail_adds e =
      let p = (valid_tail_lem size head tail v).0 e in
      (distance_other size tail t v p.0 (λ d. p.2 (sym d)), distance_over size head tail v h t p.0 p.1)

  pub head_releases : valid_head size head tail v ≡ true
      → (1 ≤ distance size head v) × (distance size head tail ≡ distance size head v + distance size v tail)
  head_releases e =
      let p = (valid_head_lem size head tail v).0 e in
      (distance_other size head h v p.0 (λ d. p.2 (sym d)), distance_over size head v tail h p.0 t p.1)

-- ---- as the code tests a value: in steps from the head

module _ (size head tail v : ℕ) where
  pub tail_beyond : size ≤ v → false ≡ valid_tail size head tail v
  unfolding valid_tail
  tail_beyond l = rw (le-ltb v size l)

  pub head_beyond : size ≤ v → false ≡ valid_head size head tail v
  unfolding valid_head
  head_beyond l = rw (le-ltb v size l)

  module _ (h : head < size) (t : tail < size) (l : v < size) where
    pub tail_steps : ltb (distance size head tail) (distance size head v) ≡ valid_tail size head tail v
    tail_steps =
        says_same (says_lt (distance size head tail) (distance size head v))
        (says_as (says_is (valid_tail size head tail v)) (λ e. let a = tail_adds size head tail v h t e in omega (arith, a.0, a.1))
        (λ d. (valid_tail_lem size head tail v).1 (l, omega arith, λ e. omega (arith, ap (distance size head) e))))

    pub head_steps : (ltb 0 (distance size head v) && leb (distance size head v) (distance size head tail)) ≡ valid_head size head tail v
    head_steps =
        says_same (says_and (says_lt 0 (distance size head v)) (says_le (distance size head v) (distance size head tail)))
        (says_as (says_is (valid_head size head tail v))
        (λ e. let a = head_releases size head tail v h t e in (a.0, ((valid_head_lem size head tail v).0 e).1))
        (λ d. (valid_head_lem size head tail v).1
        (l, d.1, λ e. omega (arith, d.0, ap (distance size head) e, distance_self size head h))))

-- ---- the plain checks

module _ (size head tail : ℕ) (valid : Bool) where
  pub check_places : (r : Refusal) → number r ≡ place_refusal size head tail → number r ≡ checked size head tail valid
  unfolding place_refusal checked
  check_places r e = e ∙ sym (append_refused (place_rules size head tail) ((not valid, 10) ∷ []) (λ z. number_not_0 r (e ∙ z)))

  module _ (e : 0 ≡ place_refusal size head tail) where
    places : Unapplied (place_rules size head tail)
    unfolding place_refusal
    places = passed (place_rules size head tail) tt (sym e)

    pub sound : (head < size) × (tail < size) × (size ≤ 1024)
    sound = (leb-false size head places.1.0, leb-false size tail places.1.1.0, (range 2 1024 size places.0).1)

    pub check_value : (k : ℕ) → first_match ((not valid, 10) ∷ []) ≡ k → k ≡ checked size head tail valid
    unfolding checked
    check_value k v = sym (append_passed (place_rules size head tail) ((not valid, 10) ∷ []) places ∙ v)
