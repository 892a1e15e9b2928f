-- What a candidate is, and what its class means, of the masks that the arbiter is given. Assumes nothing.
use Prim.Native.Nat.{ℕ, ◌<◌}
use mathlib.Core.Bool.{Bool, true, false, not}
use mathlib.Core.Logic.{◌↔◌}
use mathlib.Core.Path.{◌≡◌, ◌∙◌}
use borrow.Author.Tests.{eq-eqb, ne_eqb, eqb-true, eqb-false}
use Rattle.rules.proofs.Tests.{and_true, not_yes}
use Rattle.bits.specs.Bits.{is_set, mask_of}
use Rattle.bits.proofs.Masks.{mask_is, mask_set}
use Rattle.controller.specs.Controller.{Controller}
use Rattle.controller.specs.State.{sq_at}
use Rattle.controller.specs.Starting.{candidate_at, class_at, candidates}

module _ (c : Controller) (i : ℕ) where
  -- "an unmarked SQ that is not empty"; "Empty is head = tail"
  abbrev pub Waits : Type 0
  Waits =
      let q = sq_at c i in (q.ring.exists ≡ true) × (q.marked ≡ false) × (q.ring.head ≡ q.ring.tail → ⊥)

  pub candidate_exact : (candidate_at c i ≡ true) ↔ Waits
  unfolding candidate_at
  candidate_exact = (to, λ (x, m, n). rw (x, m, ne_eqb _ _ n))
    where
      to : candidate_at c i ≡ true → Waits
      to e =
          let q = sq_at c i in
          let a = and_true q.ring.exists _ e in
          let b = and_true (not q.marked) _ a.1 in
          (a.0, not_yes q.marked b.0, eqb-false _ _ (not_yes _ b.1))

  -- a mask of the 16 queues that pass p, each exactly if P holds of it
  mask_exact : {P : Type 0} (p : ℕ → Bool) → (p i ≡ true) ↔ P → (is_set (mask_of p 16) i ≡ true) ↔ ((i < 16) × P)
  mask_exact p f =
      (λ e. let w = mask_set p 16 i e in (w.0, f.0 w.1), λ (l, x). mask_is p 16 i l ∙ f.1 x)

  class_exact : (k : ℕ) → (class_at c k i ≡ true) ↔ (Waits × ((sq_at c i).class ≡ k))
  class_exact k = (
    λ e. let w = and_true (candidate_at c i) _ e in (candidate_exact.0 w.0, eqb-true _ _ w.1),
    λ (w, q). rw (candidate_exact.1 w, eq-eqb _ _ q),
  )

  -- all candidates, and those of class 0, urgent, 1, high, 2, medium, and 3, low
  pub all_exact : (is_set (candidates c).all i ≡ true) ↔ ((i < 16) × Waits)
  unfolding candidates
  all_exact = mask_exact (candidate_at c) candidate_exact

  pub urgent_exact : (is_set (candidates c).urgent i ≡ true) ↔ ((i < 16) × (Waits × ((sq_at c i).class ≡ 0)))
  unfolding candidates
  urgent_exact = mask_exact (class_at c 0) (class_exact 0)

  pub high_exact : (is_set (candidates c).high i ≡ true) ↔ ((i < 16) × (Waits × ((sq_at c i).class ≡ 1)))
  unfolding candidates
  high_exact = mask_exact (class_at c 1) (class_exact 1)

  pub medium_exact : (is_set (candidates c).medium i ≡ true) ↔ ((i < 16) × (Waits × ((sq_at c i).class ≡ 2)))
  unfolding candidates
  medium_exact = mask_exact (class_at c 2) (class_exact 2)

  pub low_exact : (is_set (candidates c).low i ≡ true) ↔ ((i < 16) × (Waits × ((sq_at c i).class ≡ 3)))
  unfolding candidates
  low_exact = mask_exact (class_at c 3) (class_exact 3)
