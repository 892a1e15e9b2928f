-- What a deletion takes away and what it leaves, when a queue ends, and that a deleted id and its bytes may be used again. Assumes nothing.
use Prim.Native.Nat.{ℕ, ◌+◌, ◌*◌, ◌≤◌, ◌<◌}
use mathlib.Core.Bool.{true, false}
use mathlib.Core.Logic.{inl, inr, ⊎_elim, ◌↔◌}
use mathlib.Core.Path.{◌≡◌, refl, sym, ap, subst, ◌∙◌}
use native.Mathlib.Omega.{arith}
use lib.ListN.{length, set}
use lib.Seq.{get_or-set_other, set-set, set-get_or}
use Rattle.rules.specs.Rules.{settle}
use Rattle.rules.proofs.Cases.{settle_cases}
use Rattle.rules.proofs.Tests.{clash}
use Rattle.rules.proofs.Exactly.{NoneOf, none_given}
use Rattle.le.specs.Memory.{Memory}
use Rattle.controller.specs.declared.SubmissionQueue.{SubmissionQueue}
use Rattle.controller.specs.declared.CompletionQueue.{CompletionQueue}
use Rattle.controller.specs.Controller.{Controller}
use Rattle.controller.specs.State.{no_sq, no_cq, sq_at, cq_at, command_at, outstanding, with_queues, with_sq, with_cq}
use Rattle.controller.specs.Valid.{Valid}
use Rattle.controller.specs.Create as create
use Rattle.controller.specs.Create.{new_cq, new_sq}
use Rattle.controller.specs.Delete as delete
use Rattle.controller.specs.Starting.{passed, one_taken, pair_taken}
use Rattle.controller.specs.Finishing.{cq_of, posted, finished_controller}
use Rattle.controller.specs.Answers.{done, Outcome, outcome, refusing}
use Rattle.controller.specs.Calls.{Call, create_cq, create_sq, delete_cq, delete_sq, perform, Reachable, fresh, after}
use Rattle.controller.proofs.Lists.{set_ind, set_all, get_d_same}
use Rattle.controller.proofs.Made.{Mixed, takes_one, takes_pair, finishes, Made, refuses, marks, creates_cq, creates_sq, moves_tail}
use Rattle.controller.proofs.Made.{deletes_cq, deletes_sq, moves_head, commands, made, new_cq_lem, new_sq_lem, deletable_sq, deletable_cq}
use Rattle.controller.proofs.Refusals.{done_not}
use Rattle.controller.proofs.Validity.{candidate_here, sq_below, cq_below, valid}
use Rattle.controller.proofs.Apart.{RingId, sq, cq, ring_at, bytes_of, without, deletion, sq_gone, cq_gone, Here}
use Rattle.controller.proofs.Apart.{stays_or_deleted, of_rings}
use Rattle.controller.proofs.Apart.{entry_of, ring_ok, others, same_ring, Disjoint, apart}
use Rattle.controller.proofs.Written.{posts_to}
use Rattle.controller.proofs.Exactly.{number, ByteInBoth, Shares, ring_reasons, create_cq_reasons, create_sq_reasons, create_cq_lem}
use Rattle.controller.proofs.Exactly.{create_sq_lem}

-- an outstanding command's SQ exists, and that SQ's CQ
pub has_queues : {c : Controller} → Reachable c → (tag : ℕ) → outstanding c.free tag ≡ true
    → ((sq_at c (command_at c tag).sq).ring.exists ≡ true) × ((cq_at c (cq_of c tag)).ring.exists ≡ true)
has_queues r tag o = ((valid r).command_sq tag o, posts_to (valid r) tag o)

-- ---- what a deletion leaves, refused or not

-- all but the queue of x: every byte of memory, every command, every other queue; "Turn holders and remainders stay as numbers", and
-- so do credits
pub record Spares (c : Controller) (m : Memory) (x : RingId) (o : Outcome) : Type 0 where
  pub memory : o.memory ≡ m
  pub commands : o.controller.commands ≡ c.commands
  pub free : o.controller.free ≡ c.free
  pub arbiter : o.controller.arbiter ≡ c.arbiter
  pub next_number : o.controller.next_number ≡ c.next_number
  pub sqs : (i : ℕ) → (sq i ≡ x → ⊥) → sq_at o.controller i ≡ sq_at c i
  pub cqs : (i : ℕ) → (cq i ≡ x → ⊥) → cq_at o.controller i ≡ cq_at c i

module _ (c : Controller) (m : Memory) where
  as_it_was : (x : RingId) {o : Outcome} → o.memory ≡ m → o.controller ≡ c → Spares c m x o
  as_it_was x e f =
      record {
        memory = e;
        commands = ap (λ (d : Controller). d.commands) f;
        free = ap (λ (d : Controller). d.free) f;
        arbiter = ap (λ (d : Controller). d.arbiter) f;
        next_number = ap (λ (d : Controller). d.next_number) f;
        sqs = λ i n. ap (λ d. sq_at d i) f;
        cqs = λ i n. ap (λ d. cq_at d i) f;
      }

  pub spares : (x : RingId) → Spares c m x (perform c m (deletion x))
  unfolding delete.delete_sq delete.delete_cq
  spares (sq j) =
      settle_cases (Spares c m (sq j)) _ _ _
      (λ z. record {
        memory = refl;
        commands = refl;
        free = refl;
        arbiter = refl;
        next_number = refl;
        sqs = λ i n. get_or-set_other c.sqs j i no_sq no_sq (λ e. n (ap sq e));
        cqs = λ i n. refl;
      }) (λ n. as_it_was (sq j) refl refl)
  spares (cq j) =
      settle_cases (Spares c m (cq j)) _ _ _
      (λ z. record {
        memory = refl;
        commands = refl;
        free = refl;
        arbiter = refl;
        next_number = refl;
        sqs = λ i n. refl;
        cqs = λ i n. get_or-set_other c.cqs j i no_cq no_cq (λ e. n (ap cq e));
      }) (λ n. as_it_was (cq j) refl refl)

-- ---- a deleted queue is as one that never was

-- the queue of a ring is all zero
abbrev pub NoQueue : Controller → RingId → Type 0
NoQueue c (sq i) = sq_at c i ≡ no_sq
NoQueue c (cq i) = cq_at c i ≡ no_cq

no_queue : (c : Controller) (x : RingId) → NoQueue c x → (ring_at c x).exists ≡ false
no_queue c (sq i) e = ap (λ (q : SubmissionQueue). q.ring.exists) e
no_queue c (cq i) e = ap (λ (q : CompletionQueue). q.ring.exists) e

-- what a deletion that is not refused comes to
deleted : (c : Controller) (m : Memory) (x : RingId) → (perform c m (deletion x)).answer ≡ done
    → perform c m (deletion x) ≡ outcome done (without c x) m
unfolding delete.delete_sq delete.delete_cq
deleted c m (sq i) =
    settle_cases (λ (o : Outcome). o.answer ≡ done → o ≡ outcome done (without c (sq i)) m) _ _ _ (λ z e. refl)
    (λ n e. absurd (done_not (sym e)))
deleted c m (cq i) =
    settle_cases (λ (o : Outcome). o.answer ≡ done → o ≡ outcome done (without c (cq i)) m) _ _ _ (λ z e. refl)
    (λ n e. absurd (done_not (sym e)))

-- its queue existed
was_there : (c : Controller) (m : Memory) (x : RingId) → (perform c m (deletion x)).answer ≡ done → Here c x
unfolding delete.delete_sq delete.delete_cq
was_there c m (sq i) =
    settle_cases (λ (o : Outcome). o.answer ≡ done → Here c (sq i)) _ _ _ (λ z e. (deletable_sq c i z).here)
    (λ n e. absurd (done_not (sym e)))
was_there c m (cq i) =
    settle_cases (λ (o : Outcome). o.answer ≡ done → Here c (cq i)) _ _ _ (λ z e. (deletable_cq c i z).here)
    (λ n e. absurd (done_not (sym e)))

module _ {c : Controller} (r : Reachable c) where
  left_none : (x : RingId) → Here c x → NoQueue (without c x) x
  left_none (sq i) h = sq_gone (valid r) i (sq_below (valid r) h)
  left_none (cq i) h = cq_gone (valid r) i (cq_below (valid r) h)

  module _ (m : Memory) where
    pub gone : (x : RingId) → (perform c m (deletion x)).answer ≡ done → NoQueue (perform c m (deletion x)).controller x
    gone x e = rw (deleted c m x e) (left_none x (was_there c m x e))

    -- a queue that exists ends by its own deletion, if that is not refused, and by no other call
    pub ends : (call : Call) (x : RingId) → Here c x
        → ((ring_at (perform c m call).controller x).exists ≡ false) ↔ ((call ≡ deletion x) × ((perform c m call).answer ≡ done))
    ends call x h = (
      λ n. ⊎_elim (λ y. absurd (clash y n)) (λ y. (y.0, ap (λ (o : Outcome). o.answer) y.1))
          (stays_or_deleted (of_rings (valid r) (made c m (valid r).free_64 call)) x h),
      λ y.
          let e = ap (λ a. (perform c m a).answer) y.0 in
          rw y.0 (no_queue (perform c m (deletion x)).controller x (gone x (sym e ∙ y.1))),
    )

-- ---- what does not exist is all zero; and SQ 0 alone names CQ 0

record Orderly (c : Controller) : Type 0 where
  pub sqs : (i : ℕ) → (sq_at c i).ring.exists ≡ false → sq_at c i ≡ no_sq
  pub cqs : (i : ℕ) → (cq_at c i).ring.exists ≡ false → cq_at c i ≡ no_cq
  pub pairs : (i : ℕ) → (sq_at c i).ring.exists ≡ true → Mixed i (sq_at c i).cq → ⊥

module _ {c : Controller} (v : Valid c) (h : Orderly c) (i : ℕ) (l : i < 16) where
  with_sq_lem : (q : SubmissionQueue) → (q.ring.exists ≡ false → q ≡ no_sq) → (q.ring.exists ≡ true → Mixed i q.cq → ⊥)
      → Orderly (with_sq c i q)
  with_sq_lem q n p =
      let l' : i < length c.sqs = rw v.sqs_16 l in
      record {
        sqs = set_all c.sqs i q no_sq (λ x. x.ring.exists ≡ false → x ≡ no_sq) l' n h.sqs;
        cqs = h.cqs;
        pairs = set_ind c.sqs i q no_sq (λ j x. x.ring.exists ≡ true → Mixed j x.cq → ⊥) l' p (λ j d. h.pairs j);
      }

  -- one that exists already, with the same CQ
  same_sq : (q : SubmissionQueue) → q.ring.exists ≡ true → (sq_at c i).ring.exists ≡ true → q.cq ≡ (sq_at c i).cq → Orderly (with_sq c i q)
  same_sq q e f k = with_sq_lem q (λ n. absurd (clash e n)) (λ y z. h.pairs i f (rw (sym k) z))

  with_cq_lem : (q : CompletionQueue) → (q.ring.exists ≡ false → q ≡ no_cq) → Orderly (with_cq c i q)
  with_cq_lem q n =
      record {
        sqs = h.sqs;
        cqs = set_all c.cqs i q no_cq (λ x. x.ring.exists ≡ false → x ≡ no_cq) (rw v.cqs_16 l) n h.cqs;
        pairs = h.pairs;
      }

same_queues : {c d : Controller} → d.sqs ≡ c.sqs → d.cqs ≡ c.cqs → Orderly c → Orderly d
same_queues e f h = record { sqs = rw e h.sqs; cqs = rw f h.cqs; pairs = rw e h.pairs }

orderly_kept : {c : Controller} {m : Memory} {call : Call} {o : Outcome} → Valid c → Orderly c → Made c m call o → Orderly o.controller
unfolding one_taken pair_taken finished_controller posted
orderly_kept v h (refuses call n) = h
orderly_kept v h (marks id x g e) = same_sq v h id g.id_low _ g.here g.here refl
orderly_kept v h (creates_cq id size base g) = with_cq_lem v h id g.id_low _ (λ n. absurd (clash refl n))
orderly_kept v h (creates_sq id size base k class g) = with_sq_lem v h id g.id_low _ (λ n. absurd (clash refl n)) (λ y. g.unmixed)
orderly_kept v h (deletes_cq id g) = with_cq_lem v h id g.id_low no_cq (λ n. refl)
orderly_kept v h (deletes_sq id g) = with_sq_lem v h id g.id_low no_sq (λ n. refl) (λ y. absurd (clash y refl))
orderly_kept v h (moves_tail id x g e) = same_sq v h id g.id_low _ g.here g.here refl
orderly_kept v h (moves_head id x g) = with_cq_lem v h id g.id_low _ (λ n. absurd (clash g.here n))
orderly_kept {c} v h (commands (takes_one id a t left s e w)) =
    let y = candidate_here c id s.candidate.1 in
    same_queues refl refl (same_sq v h id s.candidate.0 (passed (sq_at c id) 1) y y refl)
orderly_kept {c} v h (commands (takes_pair id a t u left s e w)) =
    let y = candidate_here c id s.candidate.1 in
    same_queues refl refl (same_sq v h id s.candidate.0 (passed (sq_at c id) 2) y y refl)
orderly_kept {c} v h (commands (finishes tag status result g)) =
    let y = posts_to v tag g.out in
    same_queues refl refl (with_cq_lem v h (cq_of c tag) (cq_below v y) (posted (cq_at c (cq_of c tag))) (λ n. absurd (clash y n)))

orderly : {c : Controller} → Reachable c → Orderly c
orderly (fresh weighted word) =
    record {
      sqs = λ i n. get_d_same 16 i no_sq;
      cqs = λ i n. get_d_same 16 i no_cq;
      pairs = λ i y. absurd (clash y (ap (λ (q : SubmissionQueue). q.ring.exists) (get_d_same 16 i no_sq)));
    }
orderly (after {c} r m call) = orderly_kept (valid r) (orderly r) (made c m (valid r).free_64 call)

module _ {c : Controller} (r : Reachable c) where
  -- a queue that does not exist, since it was never created or since it was deleted, is all zero
  pub absent : (x : RingId) → (ring_at c x).exists ≡ false → NoQueue c x
  absent (sq i) = (orderly r).sqs i
  absent (cq i) = (orderly r).cqs i

  -- "SQ 0 a CQ other than 0; or another SQ the CQ 0" is said of no SQ
  pub unmixed : (i : ℕ) → (sq_at c i).ring.exists ≡ true → Mixed i (sq_at c i).cq → ⊥
  unmixed = (orderly r).pairs

-- ---- "A deleted id and its bytes may be used again"

-- what a call that answers no number comes to
unrefused : (c : Controller) (m : Memory) (x : Outcome) (k : ℕ) → number (settle k (refusing c m) x) ≡ 0 → settle k (refusing c m) x ≡ x
unrefused c m x k = settle_cases (λ o. number o ≡ 0 → o ≡ x) k _ _ (λ z e. refl) (λ n e. absurd (n e))

no_byte : (a k b l : ℕ) → Disjoint b l a k → ByteInBoth a k b l → ⊥
no_byte a k b l (inl p) w = omega (arith, w.1, w.2)
no_byte a k b l (inr p) w = omega (arith, w.1, w.2)

module _ {c : Controller} (r : Reachable c) where
  -- no ring that lives has a byte in common with the one that is gone
  pub bytes_free : (x : RingId) → Here c x → Shares (without c x) (ring_at c x).base (bytes_of c x) → ⊥
  bytes_free x h w =
      ⊎_elim (λ (e : w.ring ≡ x). clash w.here (rw e (no_queue (without c x) x (left_none r x h))))
      (λ (d : w.ring ≡ x → ⊥).
      let o = others c x w.ring d in
      no_byte _ _ _ _ (apart r w.ring x d (rw o at w.here) h) (rw o at w.is))
      (same_ring w.ring x)

  -- its ring may be made anew, if it lies in n bytes
  ring_again : (x : RingId) → Here c x → {n : ℕ} → (ring_at c x).base + bytes_of c x ≤ n
      → NoneOf (ring_reasons (without c x) n (entry_of x) (ring_at c x).size (ring_at c x).base)
  ring_again x h fits =
      let ok = ring_ok (valid r) x h in (
        ⊎_elim (λ k. omega (arith, k, ok.low)) (λ k. omega (arith, k, ok.high)),
        (λ k. k ok.aligned, (λ k. omega (arith, k, fits), (bytes_free x h, tt))),
      )

  -- a deletion is a call
  still_reachable : (m : Memory) (x : RingId) → (perform c m (deletion x)).answer ≡ done → Reachable (without c x)
  still_reachable m x e = subst (λ (o : Outcome). Reachable o.controller) (deleted c m x e) (after r m (deletion x))

  module _ (m m' : Memory) (id : ℕ) where
    -- a queue that was deleted is created again with the numbers that it had, if its ring lies in the memory then given: that is never
    -- refused, and it gives the queue of a first creation
    pub again_cq : (perform c m (delete_cq id)).answer ≡ done
        → (let k = (cq_at c id).ring in
        k.base + 16 * k.size ≤ length m'
        → perform (perform c m (delete_cq id)).controller m' (create_cq id k.size k.base)
        ≡ outcome done (with_cq c id (new_cq k.size k.base)) m')
    unfolding create.create_cq
    again_cq e fits =
        let k = (cq_at c id).ring in
        let d = with_cq c id no_cq in
        let h = was_there c m (cq id) e in
        let free : NoneOf (create_cq_reasons d (length m') id k.size k.base) = (
          λ n. omega (arith, n, cq_below (valid r) h),
          (λ y. clash y (no_queue d (cq id) (left_none r (cq id) h)), ring_again (cq id) h fits),
        ) in
        rw (deleted c m (cq id) e)
        (unrefused d m' _ _
        (none_given (create_cq_reasons d (length m') id k.size k.base) free
        (create_cq_lem (still_reachable m (cq id) e) m' id k.size k.base))
        ∙ ap (λ ys. outcome done (with_queues c c.sqs ys) m') (set-set c.cqs id no_cq (new_cq k.size k.base)))

    pub again_sq : (perform c m (delete_sq id)).answer ≡ done
        → (let q = sq_at c id in
        q.ring.base + 64 * q.ring.size ≤ length m'
        → perform (perform c m (delete_sq id)).controller m' (create_sq id q.ring.size q.ring.base q.cq q.class)
        ≡ outcome done (with_sq c id (new_sq q.ring.size q.ring.base q.cq q.class)) m')
    unfolding create.create_sq
    again_sq e fits =
        let q = sq_at c id in
        let k = q.ring in
        let d = with_sq c id no_sq in
        let h = was_there c m (sq id) e in
        let free : NoneOf (create_sq_reasons d (length m') id k.size k.base q.cq q.class) = (
          λ n. omega (arith, n, sq_below (valid r) h),
          (
            λ y. clash y (no_queue d (sq id) (left_none r (sq id) h)),
            (
              λ n. omega (arith, n, (valid r).sq_class id),
              (⊎_elim (λ n. n ((valid r).sq_cq id h)) (unmixed r id h), ring_again (sq id) h fits),
            ),
          ),
        ) in
        rw (deleted c m (sq id) e)
        (unrefused d m' _ _
        (none_given (create_sq_reasons d (length m') id k.size k.base q.cq q.class) free
        (create_sq_lem (still_reachable m (sq id) e) m' id k.size k.base q.cq q.class))
        ∙ ap (λ xs. outcome done (with_queues c xs c.cqs) m')
        (set-set c.sqs id no_sq (new_sq k.size k.base q.cq q.class)))

    -- created and then deleted, a queue leaves the controller as if it had never been
    pub never_was_cq : (size base : ℕ)
        → (let o = perform c m (create_cq id size base) in
        o.answer ≡ done → (perform o.controller m' (delete_cq id)).answer ≡ done
        → (perform o.controller m' (delete_cq id)).controller ≡ c)
    unfolding create.create_cq
    never_was_cq size base =
        settle_cases
        (λ (o : Outcome). o.answer ≡ done → (perform o.controller m' (delete_cq id)).answer ≡ done
        → (perform o.controller m' (delete_cq id)).controller ≡ c) _ _ _
        (λ z e f. ap (λ (o : Outcome). o.controller) (deleted (with_cq c id (new_cq size base)) m' (cq id) f)
        ∙ ap (with_queues c c.sqs)
        (set-set c.cqs id (new_cq size base) no_cq
        ∙ ap (set c.cqs id) (sym (absent r (cq id) (new_cq_lem c (length m) id size base z).absent)) ∙ set-get_or c.cqs id no_cq))
        (λ n e. absurd (done_not (sym e)))

    pub never_was_sq : (size base k class : ℕ)
        → (let o = perform c m (create_sq id size base k class) in
        o.answer ≡ done → (perform o.controller m' (delete_sq id)).answer ≡ done
        → (perform o.controller m' (delete_sq id)).controller ≡ c)
    unfolding create.create_sq
    never_was_sq size base k class =
        settle_cases
        (λ (o : Outcome). o.answer ≡ done → (perform o.controller m' (delete_sq id)).answer ≡ done
        → (perform o.controller m' (delete_sq id)).controller ≡ c) _ _ _
        (λ z e f. ap (λ (o : Outcome). o.controller) (deleted (with_sq c id (new_sq size base k class)) m' (sq id) f)
        ∙ ap (λ xs. with_queues c xs c.cqs)
        (set-set c.sqs id (new_sq size base k class) no_sq
        ∙ ap (set c.sqs id) (sym (absent r (sq id) (new_sq_lem c (length m) id size base k class z).absent)) ∙ set-get_or c.sqs id no_sq))
        (λ n e. absurd (done_not (sym e)))
