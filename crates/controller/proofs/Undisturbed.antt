-- Demand 3's premise holds where, after any runs in any memories, a completion queue is created on a clear ring, any calls but its
-- deletion follow, and nobody but the controller writes to memory. Assumes nothing.
use Prim.Native.Nat.{ℕ, ◌*◌, ◌^◌, ◌<◌}
use mathlib.Core.Bool.{Bool, true, not, ◌&&◌}
use mathlib.Core.List.{List, [], ◌∷◌, ◌++◌}
use mathlib.Core.Logic.{⊎_elim}
use mathlib.Core.Path.{◌≡◌, refl, ap, ◌∙◌}
use native.Mathlib.Omega.{arith}
use lib.Dec.{ltb, eqb, lit<}
use lib.ListN.{length}
use lib.Seq.{get_or-set_same}
use borrow.Author.Tests.{ltb-true, eq-eqb}
use Rattle.rules.proofs.Tests.{and_true, clash}
use Rattle.rules.proofs.Tables.{settle_accepted}
use Rattle.le.specs.Memory.{Memory, part, Bytes}
use Rattle.ring.specs.Reader.{phase_in}
use Rattle.controller.specs.Controller.{Controller}
use Rattle.controller.specs.State.{no_cq, cq_at, with_cq, fresh_controller}
use Rattle.controller.specs.Answers.{done, outcome, refusing}
use Rattle.controller.specs.Create as create
use Rattle.controller.specs.Create.{create_cq_refusal, new_cq}
use Rattle.controller.specs.Calls.{Call, create_cq, create_sq, delete_cq, delete_sq, tail_write, head_write, start, finish, result_of}
use Rattle.controller.specs.Calls.{perform, Reachable, fresh, after}
use Rattle.controller.specs.Steps.{steps, given, final, Run, memory_after, all_steps, after_runs}
use Rattle.controller.specs.Demand.{There, ClearTags, Untouched, Narrow, Typed, History}
use Rattle.controller.proofs.Made.{NewCq, new_cq_lem, made}
use Rattle.controller.proofs.Steps.{after_join, reached_runs}
use Rattle.controller.proofs.Validity.{valid}
use Rattle.controller.proofs.Apart.{cq, of_rings, stays_or_deleted}
use Rattle.controller.proofs.Lifetimes.{earlier_clear, earlier_untouched}

-- every result that is given has 32 bits, tested
abbrev pub narrow : List Call → Bool
narrow [] = true
narrow (x ∷ xs) = ltb (result_of x) (2 ^ 32) && narrow xs

pub narrow_is : (xs : List Call) → narrow xs ≡ true → Narrow xs
narrow_is [] e = tt
narrow_is (x ∷ xs) e =
    let h = and_true (ltb (result_of x) (2 ^ 32)) (narrow xs) e in (ltb-true (result_of x) (2 ^ 32) h.0, narrow_is xs h.1)

-- ---- calls on a completion queue that exists

-- none of the calls is the deletion of completion queue q, tested
abbrev spared : ℕ → Call → Bool
spared q (create_cq id size base) = true
spared q (create_sq id size base k class) = true
spared q (delete_cq id) = not (eqb id q)
spared q (delete_sq id) = true
spared q (tail_write id v) = true
spared q (head_write id v) = true
spared q start = true
spared q (finish tag status result) = true

abbrev pub spares : ℕ → List Call → Bool
spares q [] = true
spares q (x ∷ xs) = spared q x && spares q xs

-- so the queue stays
stays : {c : Controller} → Reachable c → (m : Memory) (q : ℕ) (x : Call) → spared q x ≡ true → There q c
    → There q (perform c m x).controller
stays {c} r m q x s h =
    ⊎_elim (λ y. y) (λ y. absurd (clash s (ap (spared q) y.0 ∙ ap not (eq-eqb q q refl))))
    (stays_or_deleted (of_rings (valid r) (made c m (valid r).free_64 x)) (cq q) h)

module _ (q : ℕ) where
  -- it is there after the calls, and they ask for no clear tags
  pub record Spared (c : Controller) (m : Memory) (xs : List Call) : Type 0 where
    pub clear : ClearTags q (steps c (given c m xs) ++ [])
    pub there : There q (final c (given c m xs))

  run_spares : {c : Controller} (m : Memory) (xs : List Call) → Reachable c → spares q xs ≡ true → There q c → Spared c m xs
  run_spares m [] r s y = record { clear = tt; there = y }
  run_spares {c} m (x ∷ xs) r s y =
      let p = and_true (spared q x) (spares q xs) s in
      let u = run_spares {c = (perform c m x).controller} (perform c m x).memory xs (after r m x) p.1 (stays r m q x p.0 y) in
      record { clear = (λ z e. absurd (clash y e), u.clear); there = u.there }

-- ---- a completion queue that is created after any runs, and what they left of its ring is no matter

pub typed_join : (xs ys : List Run) → Typed xs → Typed ys → Typed (xs ++ ys)
typed_join [] ys t u = u
typed_join (x ∷ xs) ys t u = (t.0, t.1, typed_join xs ys t.2 u)

module _ (weighted : Bool) (word : ℕ) (earlier : List Run) (earlier_typed : Typed earlier) (q size base : ℕ) (m : Memory)
    (bytes : Bytes m) where
  abbrev first : Controller
  first = fresh_controller weighted word

  abbrev c : Controller
  c = after_runs first earlier

  module _ (creates : create_cq_refusal c (length m) q size base ≡ 0)
      (clear : (i : ℕ) → i < size → phase_in (part m base (16 * size)) i ≡ 0)
      (calls : List Call) (typed : narrow calls ≡ true) (spared : spares q calls ≡ true) where
    abbrev creating : Call
    creating = create_cq q size base

    reachable : Reachable c
    reachable = reached_runs earlier (fresh weighted word)

    created : perform c m creating ≡ outcome done (with_cq c q (new_cq size base)) m
    unfolding create.create_cq
    created = settle_accepted (create_cq_refusal c (length m) q size base) (refusing c m) _ creates

    is_new : NewCq c (length m) q size base
    is_new = new_cq_lem c (length m) q size base creates

    here : cq_at (perform c m creating).controller q ≡ new_cq size base
    here =
        ap (λ o. cq_at o.controller q) created
        ∙ get_or-set_same c.cqs q (new_cq size base) no_cq (omega (arith, is_new.id_low, (valid reachable).cqs_16))

    -- the creation and the calls after it
    abbrev latest : Run
    latest = record { memory = m; calls = creating ∷ calls }

    abbrev whole : List Run
    whole = earlier ++ (latest ∷ [])

    rest : Spared q (perform c m creating).controller (perform c m creating).memory calls
    rest = run_spares q _ calls (after reachable m creating) spared (ap (λ x. x.ring.exists) here)

    pub all_clear : ClearTags q (all_steps first whole)
    all_clear = earlier_clear q earlier (latest ∷ []) first is_new.absent (λ s e y. rw here clear, rest.clear)

    pub all_untouched : Untouched q first [] whole (memory_after c latest)
    all_untouched = earlier_untouched q earlier (latest ∷ []) first [] m _ is_new.absent (λ s e. refl, λ e. refl)

    pub all_there : There q (after_runs first whole)
    all_there = ap (λ d. (cq_at d q).ring.exists) (after_join first earlier (latest ∷ [])) ∙ rest.there

    unfoldable pub undisturbed : History
    undisturbed =
        record {
          weighted = weighted;
          word = word;
          runs = whole;
          seen = memory_after c latest;
          q = q;
          typed = typed_join earlier (latest ∷ []) earlier_typed (bytes, (lit< tt, narrow_is calls typed), tt);
          clear = all_clear;
          untouched = all_untouched;
          exists = all_there;
        }
