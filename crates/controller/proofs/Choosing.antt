-- The queue that the arbiter names is a candidate, and it names nobody exactly if there is none. Assumes nothing.
use Rattle.std.specs.Prelude.{Some, None}
use Prim.Native.Nat.{ℕ, zero, suc, ◌≤◌, ◌<◌}
use mathlib.Core.Bool.{Bool, true, false, ◌&&◌, ◌||◌}
use mathlib.Core.Logic.{◌↔◌}
use mathlib.Core.Path.{◌≡◌, refl, sym, ap, ◌∙◌}
use native.Mathlib.Omega.{arith}
use lib.Dec.{eqb, lit<}
use borrow.Author.Tests.{eq-eqb}
use Rattle.rules.specs.Rules.{pick}
use Rattle.rules.proofs.Tests.{and_true, or-false, clash}
use Rattle.bits.specs.Bits.{is_set, mask_of}
use Rattle.bits.proofs.Masks.{mask_is, mask_set}
use Rattle.bits.proofs.Some.{some_none, none_some}
use Rattle.arbiter.specs.Arbiter.{some, some_waits, choice, anyone}
use Rattle.arbiter.specs.declared.Arbiter.{Arbiter}
use Rattle.arbiter.proofs.Choice.{Within, named, nobody}
use Rattle.controller.specs.Controller.{Controller}
use Rattle.controller.specs.State.{sq_at}
use Rattle.controller.specs.Valid.{Valid}
use Rattle.controller.specs.Starting.{candidate_at, class_at, candidates}

abbrev pub Candidate : Controller → ℕ → Type 0
Candidate c i = (i < 16) × (candidate_at c i ≡ true)

module _ (c : Controller) where
  of_class_lem : (k i : ℕ) → is_set (mask_of (class_at c k) 16) i ≡ true → Candidate c i
  of_class_lem k i e = let h = mask_set (class_at c k) 16 i e in (h.0, (and_true _ _ h.1).0)

  candidates_within : Within (Candidate c) (candidates c)
  unfolding candidates
  candidates_within =
      record {
        all = mask_set (candidate_at c) 16;
        urgent = of_class_lem 0;
        high = of_class_lem 1;
        medium = of_class_lem 2;
        low = of_class_lem 3;
      }

  pub chosen : {id : ℕ} {a : Arbiter} → choice c.arbiter (candidates c) ≡ Some (id, a) → Candidate c id
  chosen e = named (Candidate c) (λ i h. h.0) (candidates c) candidates_within c.arbiter e

-- "no SQ is a candidate"
abbrev pub NoCandidate : Controller → Type 0
NoCandidate c = (i : ℕ) → i < 16 → candidate_at c i ≡ false

module _ (c : Controller) (v : Valid c) where
  abbrev everyone : ℕ
  everyone = mask_of (candidate_at c) 16

  abbrev of_class : ℕ → ℕ
  of_class k = mask_of (class_at c k) 16

  -- a class has a candidate
  abbrev waits : ℕ → Bool
  waits k = some (is_set (of_class k))

  class_is : (k i : ℕ) → i < 16 → is_set (of_class k) i ≡ class_at c k i
  class_is k i l = mask_is (class_at c k) 16 i l

  of_empty : (k i : ℕ) → i < 16 → (sq_at c i).class ≡ k → waits k ≡ false → candidate_at c i ≡ false
  of_empty k i l e n = left _ _ (eq-eqb (sq_at c i).class k e) (sym (class_is k i l) ∙ none_some 16 (is_set (of_class k)) n i l)
    where
      left : (a b : Bool) → b ≡ true → (a && b) ≡ false → a ≡ false
      left true b y z = absurd (clash y z)
      left false b y z = refl

  -- every class is 0 to 3
  by_class : (i : ℕ) → i < 16 → (k : ℕ) → (sq_at c i).class ≡ k → k ≤ 3 → waits 0 ≡ false → waits 1 ≡ false → waits 2 ≡ false
      → waits 3 ≡ false
      → candidate_at c i ≡ false
  by_class i l zero e h p q r s = of_empty 0 i l e p
  by_class i l (suc zero) e h p q r s = of_empty 1 i l e q
  by_class i l (suc (suc zero)) e h p q r s = of_empty 2 i l e r
  by_class i l (suc (suc (suc zero))) e h p q r s = of_empty 3 i l e s
  by_class i l (suc (suc (suc (suc k)))) e h p q r s = absurd (omega arith)

  abbrev Looked : Bool → Type 0
  Looked w = pick w (is_set everyone 0 || waits 0 || (waits 1 || waits 2 || waits 3)) (some (is_set everyone)) ≡ false

  nobody_none : (w : Bool) → Looked w → NoCandidate c
  nobody_none true e i l =
      let x = or-false (is_set everyone 0 || waits 0) (waits 1 || waits 2 || waits 3) e in
      let y = or-false (is_set everyone 0) (waits 0) x.0 in
      let z = or-false (waits 1 || waits 2) (waits 3) x.1 in
      let u = or-false (waits 1) (waits 2) z.0 in
      by_class i l (sq_at c i).class refl (v.sq_class i) y.1 u.0 u.1 z.1
  nobody_none false e i l = sym (mask_is (candidate_at c) 16 i l) ∙ none_some 16 (is_set everyone) e i l

  none_waits : NoCandidate c → (k : ℕ) → waits k ≡ false
  none_waits n k = some_none 16 (is_set (of_class k)) (λ i l. class_is k i l ∙ ap (λ (b : Bool). b && eqb (sq_at c i).class k) (n i l))

  none_nobody : (w : Bool) → NoCandidate c → Looked w
  none_nobody true n =
      rw (mask_is (candidate_at c) 16 0 (lit< tt), n 0 (lit< tt), none_waits n 0, none_waits n 1, none_waits n 2, none_waits n 3) refl
  none_nobody false n = some_none 16 (is_set everyone) (λ i l. mask_is (candidate_at c) 16 i l ∙ n i l)

  -- the arbiter names nobody, and the answer is 12, exactly if no SQ is a candidate
  pub nobody_waits : (choice c.arbiter (candidates c) ≡ None) ↔ NoCandidate c
  unfolding anyone candidates some_waits
  nobody_waits =
      let x = nobody (Candidate c) (λ i h. h.0) (candidates c) (candidates_within c) c.arbiter in
      (λ e. nobody_none c.arbiter.weighted (x.0 e), λ n. x.1 (none_nobody c.arbiter.weighted n))
