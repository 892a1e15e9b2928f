-- What an accepted doorbell write moves, and that no value is accepted twice. Assumes nothing.
use Prim.Native.Nat.{ℕ, ◌+◌, ◌≤◌, ◌<◌}
use mathlib.Core.Bool.{true}
use mathlib.Core.Path.{◌≡◌, refl, sym}
use native.Mathlib.Omega.{arith}
use lib.ListN.{length, length-drop}
use lib.Seq.{get_or-set_same}
use borrow.Author.Tests.{le-ltb, eq-eqb}
use Rattle.rules.specs.Rules.{settle}
use Rattle.rules.proofs.Cases.{pick_cases, settle_cases}
use Rattle.le.specs.Memory.{Memory}
use Rattle.ring.specs.Slots.{distance}
use Rattle.ring.proofs.Doorbells as value
use Rattle.ring.proofs.Phase.{waiting_length}
use Rattle.controller.specs.Controller.{Controller}
use Rattle.controller.specs.State.{no_sq, no_cq, sq_at, cq_at, with_sq, with_cq}
use Rattle.controller.specs.Create as create
use Rattle.controller.specs.Create.{new_sq, new_cq}
use Rattle.controller.specs.Doorbell as doorbell
use Rattle.controller.specs.Doorbell.{valid_tail, tail_moved, head_moved, mark}
use Rattle.controller.specs.Answers.{done, refused, Outcome, outcome}
use Rattle.controller.specs.Calls.{create_cq, create_sq, tail_write, head_write, Reachable, perform}
use Rattle.controller.specs.Book.{enter}
use Rattle.controller.specs.Demand.{History, last, size_of, book, unreleased, book_head}
use Rattle.controller.proofs.Made.{NewCq, NewSq, TakesTail, TakesHead, new_cq_lem, new_sq_lem, takes_tail, takes_head}
use Rattle.controller.proofs.Refusals.{done_not}
use Rattle.controller.proofs.Validity.{valid}
use Rattle.controller.proofs.Submitted.{waiting}
use Rattle.controller.proofs.Demand.{reachable, queue}

-- ---- the value held: "refused with 10 on either doorbell .. and on a tail write it marks the SQ"

module _ (c : Controller) (m : Memory) (id : ℕ) where
  pub tail_held : TakesTail c id
      → perform c m (tail_write id (sq_at c id).ring.tail) ≡ outcome (refused 10) (with_sq c id (mark (sq_at c id))) m
  unfolding doorbell.tail_write doorbell.tail_refusal settle
  tail_held t = rw (le-ltb 15 id (omega (arith, t.id_low)), t.here, t.unmarked, value.tail_held _ _ _)

  pub head_held : id < 16 → (cq_at c id).ring.exists ≡ true
      → perform c m (head_write id (cq_at c id).ring.head) ≡ outcome (refused 10) c m
  unfolding doorbell.head_write doorbell.head_refusal settle
  head_held l h = rw (le-ltb 15 id (omega arith), h, value.head_held _ _ _)

-- ---- an accepted write, after which c has become d

-- how many completions are posted to a queue and not yet released
abbrev pub unread : Controller → ℕ → ℕ
unread c id = let r = (cq_at c id).ring in distance r.size r.head r.tail

-- v is held, and at least one entry more is submitted: exactly as many as v lies after the old tail
pub record Submits (c d : Controller) (id v : ℕ) : Type 0 where
  pub takes : TakesTail d id
  pub held : (sq_at d id).ring.tail ≡ v
  pub some : 1 ≤ distance (sq_at c id).ring.size (sq_at c id).ring.tail v
  pub more : waiting d id ≡ waiting c id + distance (sq_at c id).ring.size (sq_at c id).ring.tail v

-- v is held, and at least one completion is released: exactly as many as v lies after the old head
pub record Releases (c d : Controller) (id v : ℕ) : Type 0 where
  pub id_low : id < 16
  pub here : (cq_at d id).ring.exists ≡ true
  pub held : (cq_at d id).ring.head ≡ v
  pub some : 1 ≤ distance (cq_at c id).ring.size (cq_at c id).ring.head v
  pub fewer : unread c id ≡ distance (cq_at c id).ring.size (cq_at c id).ring.head v + unread d id

-- P of what a call leaves that is accepted
abbrev Accepted : (Controller → Type 0) → Outcome → Type 0
Accepted P o = o.answer ≡ done → P o.controller

module _ {c : Controller} (r : Reachable c) (m : Memory) (id v : ℕ) where
  submits : TakesTail c id → valid_tail (sq_at c id).ring v ≡ true → Submits c (with_sq c id (tail_moved (sq_at c id) v)) id v
  submits t e =
      let here = get_or-set_same c.sqs id (tail_moved (sq_at c id) v) no_sq (omega (arith, t.id_low, (valid r).sqs_16)) in
      let k = (valid r).sq_ok id t.here in
      let a = value.tail_adds _ _ _ v k.head_below k.tail_below e in
      record {
        takes = record { id_low = t.id_low; here = rw here t.here; unmarked = rw here t.unmarked };
        held = rw here refl;
        some = a.0;
        more = rw here a.1;
      }

  pub tail_adds : (perform c m (tail_write id v)).answer ≡ done → Submits c (perform c m (tail_write id v)).controller id v
  unfolding doorbell.tail_write
  tail_adds =
      let P = Accepted (λ d. Submits c d id v) in
      settle_cases P _ _ _
      (λ z. pick_cases P _ _ _ (λ e d. submits (takes_tail c id z) e) (λ e d. absurd (done_not (sym d))))
      (λ n d. absurd (done_not (sym d)))

  releases : TakesHead c id v → Releases c (with_cq c id (head_moved (cq_at c id) v)) id v
  releases t =
      let here = get_or-set_same c.cqs id (head_moved (cq_at c id) v) no_cq (omega (arith, t.id_low, (valid r).cqs_16)) in
      let k = (valid r).cq_ok id t.here in
      let a = value.head_releases _ _ _ v k.head_below k.tail_below t.valid in
      record { id_low = t.id_low; here = rw here t.here; held = rw here refl; some = a.0; fewer = rw here a.1 }

  pub head_releases : (perform c m (head_write id v)).answer ≡ done → Releases c (perform c m (head_write id v)).controller id v
  unfolding doorbell.head_write
  head_releases =
      settle_cases (Accepted (λ d. Releases c d id v)) _ _ _ (λ z d. releases (takes_head c id v z)) (λ n d. absurd (done_not (sym d)))

  -- the same value written twice: the second write is refused, and at the tail it marks
  pub tail_twice : (perform c m (tail_write id v)).answer ≡ done → (n : Memory)
      → (let d = (perform c m (tail_write id v)).controller in
      perform d n (tail_write id v) ≡ outcome (refused 10) (with_sq d id (mark (sq_at d id))) n)
  tail_twice e n = let s = tail_adds e in rw s.held at (tail_held (perform c m (tail_write id v)).controller n id s.takes)

  pub head_twice : (perform c m (head_write id v)).answer ≡ done → (n : Memory)
      → (let d = (perform c m (head_write id v)).controller in perform d n (head_write id v) ≡ outcome (refused 10) d n)
  head_twice e n =
      let s = head_releases e in rw s.held at (head_held (perform c m (head_write id v)).controller n id s.id_low s.here)

-- ---- "A new queue holds 0": the first write of 0 is refused

module _ {c : Controller} (r : Reachable c) (m : Memory) (id size base : ℕ) where
  module _ (cq class : ℕ) where
    abbrev EmptySq : Controller → Type 0
    EmptySq d = TakesTail d id × ((sq_at d id).ring.tail ≡ 0)

    empty_sq : NewSq c (length m) id size base cq class → EmptySq (with_sq c id (new_sq size base cq class))
    empty_sq q =
        let here = get_or-set_same c.sqs id (new_sq size base cq class) no_sq (omega (arith, q.id_low, (valid r).sqs_16)) in
        (record { id_low = q.id_low; here = rw here refl; unmarked = rw here refl }, rw here refl)

    created_sq : Accepted EmptySq (perform c m (create_sq id size base cq class))
    unfolding create.create_sq
    created_sq =
        settle_cases (Accepted EmptySq) _ _ _ (λ z d. empty_sq (new_sq_lem c (length m) id size base cq class z))
        (λ k d. absurd (done_not (sym d)))

    pub new_sq_held : (perform c m (create_sq id size base cq class)).answer ≡ done → (n : Memory)
        → (let d = (perform c m (create_sq id size base cq class)).controller in
        perform d n (tail_write id 0) ≡ outcome (refused 10) (with_sq d id (mark (sq_at d id))) n)
    new_sq_held e n =
        let s = created_sq e in rw s.1 at (tail_held (perform c m (create_sq id size base cq class)).controller n id s.0)

  abbrev EmptyCq : Controller → Type 0
  EmptyCq d = (id < 16) × ((cq_at d id).ring.exists ≡ true) × ((cq_at d id).ring.head ≡ 0)

  empty_cq : NewCq c (length m) id size base → EmptyCq (with_cq c id (new_cq size base))
  empty_cq q =
      let here = get_or-set_same c.cqs id (new_cq size base) no_cq (omega (arith, q.id_low, (valid r).cqs_16)) in
      (q.id_low, rw here refl, rw here refl)

  created_cq : Accepted EmptyCq (perform c m (create_cq id size base))
  unfolding create.create_cq
  created_cq =
      settle_cases (Accepted EmptyCq) _ _ _ (λ z d. empty_cq (new_cq_lem c (length m) id size base z)) (λ k d. absurd (done_not (sym d)))

  pub new_cq_held : (perform c m (create_cq id size base)).answer ≡ done → (n : Memory)
      → (let d = (perform c m (create_cq id size base)).controller in perform d n (head_write id 0) ≡ outcome (refused 10) d n)
  new_cq_held e n =
      let s = created_cq e in rw s.2 at (head_held (perform c m (create_cq id size base)).controller n id s.0 s.1)

-- ---- in demand 3's book

module _ (h : History) (m : Memory) (v : ℕ) where
  -- "as many as its distance from the head leave, oldest first": so many wait, at least one
  pub book_releases : (perform (last h) m (head_write h.q v)).answer ≡ done
      → (let k = distance (size_of h) (book_head h) v in
      (1 ≤ k) × (length (unreleased h) ≡ k + length ((enter (book h) m (head_write h.q v) done).cqs h.q).waiting))
  unfolding enter
  book_releases e =
      let s = head_releases (reachable h) m h.q v e in
      let q = queue h in
      let n = waiting_length q.phase in
      rw (q.head_same, eq-eqb h.q h.q refl, q.size_same)
      (s.some, omega (arith, s.fewer, n, length-drop (distance (size_of h) (cq_at (last h) h.q).ring.head v) (unreleased h)))
