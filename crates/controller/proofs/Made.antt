-- What a call comes to, by cases: a refusal, or what the call does, with all that is then known. Assumes nothing.
use Rattle.std.specs.Prelude.{Option, Some, None}
use Prim.Native.Nat.{ℕ, ◌+◌, ◌*◌, ◌%◌, ◌^◌, ◌≤◌, ◌<◌}
use mathlib.Core.Bool.{Bool, true, false, not}
use mathlib.Core.List.{List}
use mathlib.Core.Logic.{◌⊎◌}
use mathlib.Core.Path.{◌≡◌, refl, subst}
use native.Mathlib.Omega.{arith}
use lib.Dec.{T, eqb}
use lib.ListN.{length}
use borrow.Author.Tests.{ltb-false, eqb-true, eqb-false}
use Rattle.rules.specs.Rules.{pick, first_match}
use Rattle.rules.proofs.Tests.{or-false, not_no, range}
use Rattle.rules.proofs.Tables.{Unapplied, numbered, passed}
use Rattle.rules.proofs.Exactly.{says_eq, says_not, says_pick}
use Rattle.bits.specs.Tags.{taken_one, taken_two}
use Rattle.bits.proofs.Tags.{OneTaken, one_taken_lem, TwoTaken, two_taken}
use Rattle.le.specs.Memory.{Memory}
use Rattle.arbiter.specs.Arbiter.{choice}
use Rattle.arbiter.specs.declared.Arbiter.{Arbiter}
use Rattle.controller.specs.Controller.{Controller}
use Rattle.controller.specs.declared.SubmissionQueue.{SubmissionQueue}
use Rattle.controller.specs.declared.CompletionQueue.{CompletionQueue}
use Rattle.controller.specs.State.{no_sq, no_cq, sq_at, cq_at, command_at, outstanding, with_queues, with_sq, with_cq}
use Rattle.controller.specs.Rings.{shares, outside}
use Rattle.controller.specs.Answers.{StartAnswer, Answer, refused, done, started, finished, Outcome, outcome}
use Rattle.controller.specs.Create as create
use Rattle.controller.specs.Create.{ring_rules, create_cq_rules, create_sq_rules, create_cq_refusal, create_sq_refusal, new_cq, new_sq}
use Rattle.controller.specs.Delete as delete
use Rattle.controller.specs.Delete.{busy, named, delete_rules, delete_sq_refusal, delete_cq_refusal}
use Rattle.controller.specs.Doorbell as doorbell
use Rattle.controller.specs.Doorbell.{valid_tail, valid_head, tail_rules, tail_refusal, tail_moved, mark, head_rules, head_refusal}
use Rattle.controller.specs.Doorbell.{head_moved}
use Rattle.controller.specs.Starting as starting
use Rattle.controller.specs.Starting.{candidates, is_pair, head_entry, next_entry, one_verdict, pair_verdict, one_taken, pair_taken, with_one}
use Rattle.controller.specs.Starting.{last_number, number_rules, with_two, take_one, take_pair, take_from, start_rules}
use Rattle.controller.specs.Finishing as finishing
use Rattle.controller.specs.Finishing.{cq_of, full, finish_rules, finish_refusal, status_of, completion_of, finished_controller}
use Rattle.controller.specs.Finishing.{finish_answer, posted_memory}
use Rattle.controller.specs.Calls.{Call, create_cq, create_sq, delete_cq, delete_sq, tail_write, head_write, start, finish, perform}
use Rattle.rules.proofs.Cases.{pick_cases, settle_cases}
use Rattle.controller.proofs.Choosing.{Candidate, chosen}

-- ---- what is known of a call that is not refused

-- a new ring of size entries at base, in n bytes of memory
pub record NewRing (c : Controller) (n entry size base : ℕ) : Type 0 where
  pub low : 2 ≤ size
  pub high : size ≤ 1024
  pub aligned : base % 4096 ≡ 0
  pub within : base + entry * size ≤ n
  pub alone : shares c base (entry * size) ≡ false

pub record NewCq (c : Controller) (n id size base : ℕ) : Type 0 where
  pub id_low : id < 16
  pub absent : (cq_at c id).ring.exists ≡ false
  pub ring : NewRing c n 16 size base

-- "SQ 0 a CQ other than 0; or another SQ the CQ 0"
abbrev pub Mixed : ℕ → ℕ → Type 0
Mixed id cq = ((id ≡ 0) × (cq ≡ 0 → ⊥)) ⊎ ((id ≡ 0 → ⊥) × (cq ≡ 0))

pub record NewSq (c : Controller) (n id size base cq class : ℕ) : Type 0 where
  pub id_low : id < 16
  pub absent : (sq_at c id).ring.exists ≡ false
  pub class_low : class ≤ 3
  pub cq_here : (cq_at c cq).ring.exists ≡ true
  pub unmixed : Mixed id cq → ⊥
  pub ring : NewRing c n 64 size base

-- a queue that is deleted: it exists, is not an Admin one and is not in use
pub record Deletable (id : ℕ) (exists in_use : Bool) : Type 0 where
  pub id_low : id < 16
  pub not_admin : id ≡ 0 → ⊥
  pub here : exists ≡ true
  pub unused : in_use ≡ false

abbrev pub DeletableSq : Controller → ℕ → Type 0
DeletableSq c id = Deletable id (sq_at c id).ring.exists (busy c id)

abbrev pub DeletableCq : Controller → ℕ → Type 0
DeletableCq c id = Deletable id (cq_at c id).ring.exists (named c id)

-- the queue of a doorbell write
pub record TakesTail (c : Controller) (id : ℕ) : Type 0 where
  pub id_low : id < 16
  pub here : (sq_at c id).ring.exists ≡ true
  pub unmarked : (sq_at c id).marked ≡ false

pub record TakesHead (c : Controller) (id v : ℕ) : Type 0 where
  pub id_low : id < 16
  pub here : (cq_at c id).ring.exists ≡ true
  pub valid : valid_head (cq_at c id).ring v ≡ true

-- how many commands a start takes from queue id, and so how many tags and start numbers it needs
abbrev pub needs : Controller → Memory → ℕ → ℕ
needs c m id = pick (is_pair id (sq_at c id).ring m) 2 1

-- the queue that a start takes from; it needs no number above the last
pub record Served (c : Controller) (m : Memory) (id : ℕ) (a : Arbiter) : Type 0 where
  pub inside : outside c (length m) ≡ false
  pub choice : choice c.arbiter (candidates c) ≡ Some (id, a)
  pub candidate : Candidate c id
  pub numbers : c.next_number + needs c m id ≤ last_number + 1

pub record Finishable (c : Controller) (n tag status : ℕ) : Type 0 where
  pub accepted : finish_refusal c n tag status ≡ 0
  pub inside : outside c n ≡ false
  pub out : outstanding c.free tag ≡ true
  pub status_low : status ≤ 32767
  pub no_first : (command_at c tag).first ≡ 0
  pub room : full (cq_at c (cq_of c tag)).ring ≡ false

-- ---- the cases

-- the entry at the head of queue id is taken, and a pair there
abbrev head_one_taken : Controller → Memory → ℕ → Arbiter → ℕ → ℕ → Outcome
head_one_taken c m id a = let e = head_entry c m id in one_taken c m id a e (one_verdict c id e)

abbrev head_pair_taken : Controller → Memory → ℕ → Arbiter → ℕ → ℕ → ℕ → Outcome
head_pair_taken c m id a = let e = head_entry c m id in let f = next_entry c m id in pair_taken c m id a e f (pair_verdict c id e f)

-- a start, or a finish
pub data CommandMade (c : Controller) (m : Memory) : Call → Outcome → Type 0 where
  takes_one : (id : ℕ) (a : Arbiter) (t left : ℕ) → Served c m id a → is_pair id (sq_at c id).ring m ≡ false → OneTaken c.free t left
      → CommandMade c m start (head_one_taken c m id a t left)
  takes_pair : (id : ℕ) (a : Arbiter) (t u left : ℕ) → Served c m id a → is_pair id (sq_at c id).ring m ≡ true → TwoTaken c.free t u left
      → CommandMade c m start (head_pair_taken c m id a t u left)
  finishes : (tag status result : ℕ) → Finishable c (length m) tag status
      → CommandMade c m (finish tag status result)
      (outcome (finished (finish_answer c tag))
      (finished_controller c tag (status_of (command_at c tag).verdict status))
      (posted_memory c m (cq_of c tag) (completion_of c tag status result)))

pub data Made (c : Controller) (m : Memory) : Call → Outcome → Type 0 where
  refuses : (call : Call) (n : ℕ) → Made c m call (outcome (refused n) c m)
  marks : (id v : ℕ) → TakesTail c id → valid_tail (sq_at c id).ring v ≡ false
      → Made c m (tail_write id v) (outcome (refused 10) (with_sq c id (mark (sq_at c id))) m)
  creates_cq : (id size base : ℕ) → NewCq c (length m) id size base
      → Made c m (create_cq id size base) (outcome done (with_cq c id (new_cq size base)) m)
  creates_sq : (id size base cq class : ℕ) → NewSq c (length m) id size base cq class
      → Made c m (create_sq id size base cq class) (outcome done (with_sq c id (new_sq size base cq class)) m)
  deletes_cq : (id : ℕ) → DeletableCq c id → Made c m (delete_cq id) (outcome done (with_cq c id no_cq) m)
  deletes_sq : (id : ℕ) → DeletableSq c id → Made c m (delete_sq id) (outcome done (with_sq c id no_sq) m)
  moves_tail : (id v : ℕ) → TakesTail c id → valid_tail (sq_at c id).ring v ≡ true
      → Made c m (tail_write id v) (outcome done (with_sq c id (tail_moved (sq_at c id) v)) m)
  moves_head : (id v : ℕ) → TakesHead c id v
      → Made c m (head_write id v) (outcome done (with_cq c id (head_moved (cq_at c id) v)) m)
  commands : {call : Call} {o : Outcome} → CommandMade c m call o → Made c m call o

-- A coarser view, for laws of the commands and of memory: a call that is no start and no finish leaves both alone.
pub data Commands (c : Controller) (m : Memory) : Call → Outcome → Type 0 where
  refused_leaves : (call : Call) (n : ℕ) (xs : List SubmissionQueue) → Commands c m call (outcome (refused n) (with_queues c xs c.cqs) m)
  done_leaves : (call : Call) (xs : List SubmissionQueue) (ys : List CompletionQueue)
      → Commands c m call (outcome done (with_queues c xs ys) m)
  changes : {call : Call} {o : Outcome} → CommandMade c m call o → Commands c m call o

pub of_commands : {c : Controller} {m : Memory} {call : Call} {o : Outcome} → Made c m call o → Commands c m call o
of_commands (refuses call n) = refused_leaves call n _
of_commands (marks id v r e) = refused_leaves _ 10 _
of_commands (creates_cq id size base r) = done_leaves _ _ _
of_commands (creates_sq id size base cq class r) = done_leaves _ _ _
of_commands (deletes_cq id r) = done_leaves _ _ _
of_commands (deletes_sq id r) = done_leaves _ _ _
of_commands (moves_tail id v r e) = done_leaves _ _ _
of_commands (moves_head id v r) = done_leaves _ _ _
of_commands (commands w) = changes w

-- ---- each call is one of the cases

new_ring : (c : Controller) (n entry size base : ℕ) → Unapplied (ring_rules c n entry size base) → NewRing c n entry size base
new_ring c n entry size base p =
    let s = range 2 1024 size p.0 in
    record {
      low = s.0;
      high = s.1;
      aligned = eqb-true _ _ (not_no _ p.1.0);
      within = ltb-false _ _ p.1.1.0;
      alone = p.1.1.1.0;
    }

deletable : (id : ℕ) (exists in_use : Bool) (n : ℕ) → T (numbered (delete_rules id exists in_use n))
    → first_match (delete_rules id exists in_use n) ≡ 0 → Deletable id exists in_use
deletable id exists in_use n h z =
    let p = passed (delete_rules id exists in_use n) h z in
    record {
      id_low = omega (arith, ltb-false 15 id p.0);
      not_admin = eqb-false id 0 p.1.0;
      here = not_no _ p.1.1.0;
      unused = p.1.1.1.0;
    }

-- where a call's refusal is 0
module _ (c : Controller) where
  pub new_cq_lem : (n id size base : ℕ) → create_cq_refusal c n id size base ≡ 0 → NewCq c n id size base
  unfolding create_cq_refusal
  new_cq_lem n id size base z =
      let p = passed (create_cq_rules c n id size base) tt z in
      record { id_low = omega (arith, ltb-false 15 id p.0); absent = p.1.0; ring = new_ring c n 16 size base p.1.1 }

  pub new_sq_lem : (n id size base cq class : ℕ) → create_sq_refusal c n id size base cq class ≡ 0 → NewSq c n id size base cq class
  unfolding create_sq_refusal
  new_sq_lem n id size base cq class z =
      let p = passed (create_sq_rules c n id size base cq class) tt z in
      record {
        id_low = omega (arith, ltb-false 15 id p.0);
        absent = p.1.0;
        class_low = ltb-false 3 class p.1.1.0;
        cq_here = not_no _ (or-false _ _ p.1.1.1.0).0;
        unmixed =
            (says_pick (eqb id 0) (says_eq id 0) (says_not (says_eq cq 0)) (says_eq cq 0)).no
            (or-false (not (cq_at c cq).ring.exists) _ p.1.1.1.0).1;
        ring = new_ring c n 64 size base p.1.1.1.1;
      }

  pub deletable_sq : (id : ℕ) → delete_sq_refusal c id ≡ 0 → DeletableSq c id
  unfolding delete_sq_refusal
  deletable_sq id = deletable id _ _ 33 tt

  pub deletable_cq : (id : ℕ) → delete_cq_refusal c id ≡ 0 → DeletableCq c id
  unfolding delete_cq_refusal
  deletable_cq id = deletable id _ _ 34 tt

  pub takes_tail : (id : ℕ) → tail_refusal c id ≡ 0 → TakesTail c id
  unfolding tail_refusal
  takes_tail id z =
      let p = passed (tail_rules c id) tt z in
      record { id_low = omega (arith, ltb-false 15 id p.0); here = not_no _ p.1.0; unmarked = p.1.1.0 }

  pub takes_head : (id v : ℕ) → head_refusal c id v ≡ 0 → TakesHead c id v
  unfolding head_refusal
  takes_head id v z =
      let p = passed (head_rules c id v) tt z in
      record { id_low = omega (arith, ltb-false 15 id p.0); here = not_no _ p.1.0; valid = not_no _ p.1.1.0 }

module _ (c : Controller) (m : Memory) where
  cq_made : (id size base : ℕ) → Made c m (create_cq id size base) (perform c m (create_cq id size base))
  unfolding create.create_cq
  cq_made id size base =
      settle_cases (Made c m (create_cq id size base)) _ _ _ (λ z. creates_cq id size base (new_cq_lem c (length m) id size base z))
      (λ n. refuses (create_cq id size base) _)

  sq_made : (id size base cq class : ℕ) → Made c m (create_sq id size base cq class) (perform c m (create_sq id size base cq class))
  unfolding create.create_sq
  sq_made id size base cq class =
      settle_cases (Made c m (create_sq id size base cq class)) _ _ _
      (λ z. creates_sq id size base cq class (new_sq_lem c (length m) id size base cq class z))
      (λ n. refuses (create_sq id size base cq class) _)

  cq_deleted : (id : ℕ) → Made c m (delete_cq id) (perform c m (delete_cq id))
  unfolding delete.delete_cq
  cq_deleted id =
      settle_cases (Made c m (delete_cq id)) _ _ _ (λ z. deletes_cq id (deletable_cq c id z)) (λ n. refuses (delete_cq id) _)

  sq_deleted : (id : ℕ) → Made c m (delete_sq id) (perform c m (delete_sq id))
  unfolding delete.delete_sq
  sq_deleted id = settle_cases (Made c m (delete_sq id)) _ _ _ (λ z. deletes_sq id (deletable_sq c id z)) (λ n. refuses (delete_sq id) _)

  tail_made : (id v : ℕ) → Made c m (tail_write id v) (perform c m (tail_write id v))
  unfolding doorbell.tail_write
  tail_made id v =
      settle_cases (Made c m (tail_write id v)) _ _ _
      (λ z. pick_cases (Made c m (tail_write id v)) _ _ _ (moves_tail id v (takes_tail c id z)) (marks id v (takes_tail c id z)))
      (λ n. refuses (tail_write id v) _)

  head_made : (id v : ℕ) → Made c m (head_write id v) (perform c m (head_write id v))
  unfolding doorbell.head_write
  head_made id v =
      settle_cases (Made c m (head_write id v)) _ _ _ (λ z. moves_head id v (takes_head c id v z)) (λ n. refuses (head_write id v) _)

  module _ (h : c.free < 2 ^ 64) (id : ℕ) (a : Arbiter) (i : outside c (length m) ≡ false)
      (q : choice c.arbiter (candidates c) ≡ Some (id, a)) where
    -- where n is the highest number that a start needs
    served : (n : ℕ) → first_match (number_rules n) ≡ 0 → c.next_number + needs c m id ≡ n + 1 → Served c m id a
    served n z e =
        let l = ltb-false last_number n (passed (number_rules n) tt z).0 in
        record { inside = i; choice = q; candidate = chosen c q; numbers = omega (arith, l, e) }

    one_made : is_pair id (sq_at c id).ring m ≡ false → Made c m start (take_one c m id a (head_entry c m id))
    unfolding take_one
    one_made e = go (taken_one c.free) refl
      where
        go : (x : Option (ℕ × ℕ)) → taken_one c.free ≡ x
            → Made c m start (with_one c m (head_one_taken c m id a) x)
        go None w = refuses start 13
        go (Some (t, left)) w =
            settle_cases (Made c m start) _ _ _
            (λ z. commands (takes_one id a t left (served c.next_number z (rw e)) e (one_taken_lem c.free h w)))
            (λ n. refuses start _)

    pair_made : is_pair id (sq_at c id).ring m ≡ true → Made c m start (take_pair c m id a (head_entry c m id) (next_entry c m id))
    unfolding take_pair
    pair_made e = go (taken_two c.free) refl
      where
        go : (x : Option (ℕ × ℕ × ℕ)) → taken_two c.free ≡ x
            → Made c m start (with_two c m (head_pair_taken c m id a) x)
        go None w = refuses start 13
        go (Some (t, u, left)) w =
            settle_cases (Made c m start) _ _ _
            (λ z. commands (takes_pair id a t u left (served (c.next_number + 1) z (rw e (omega arith))) e (two_taken c.free h w)))
            (λ n. refuses start _)

  start_made : c.free < 2 ^ 64 → Made c m start (perform c m start)
  unfolding starting.start
  start_made h =
      settle_cases (Made c m start) _ _ _
      (λ z. go (passed (start_rules c (length m)) tt z).0 (choice c.arbiter (candidates c)) refl)
      (λ n. refuses start _)
    where
      go : outside c (length m) ≡ false → (x : Option (ℕ × Arbiter)) → choice c.arbiter (candidates c) ≡ x → Made c m start (take_from c m x)
      go i None q = refuses start 12
      go i (Some (id, a)) q =
          pick_cases (Made c m start) (is_pair id (sq_at c id).ring m) _ _ (pair_made h id a i q) (one_made h id a i q)

  pub finishable : (tag status : ℕ) → finish_refusal c (length m) tag status ≡ 0 → Finishable c (length m) tag status
  unfolding finish_refusal
  finishable tag status z =
      let p = passed (finish_rules c (length m) tag status) tt z in
      record {
        accepted = z;
        inside = p.0;
        out = not_no _ p.1.0;
        status_low = ltb-false _ _ p.1.1.0;
        no_first = eqb-true _ _ (not_no _ p.1.1.1.0);
        room = p.1.1.1.1.0;
      }

  finish_made : (tag status result : ℕ) → Made c m (finish tag status result) (perform c m (finish tag status result))
  unfolding finishing.finish
  finish_made tag status result =
      settle_cases (Made c m (finish tag status result)) _ _ _ (λ z. commands (finishes tag status result (finishable tag status z)))
      (λ n. refuses (finish tag status result) _)

  -- every call does what one of the cases says
  pub made : c.free < 2 ^ 64 → (call : Call) → Made c m call (perform c m call)
  made h (create_cq id size base) = cq_made id size base
  made h (create_sq id size base cq class) = sq_made id size base cq class
  made h (delete_cq id) = cq_deleted id
  made h (delete_sq id) = sq_deleted id
  made h (tail_write id v) = tail_made id v
  made h (head_write id v) = head_made id v
  made h start = start_made h
  made h (finish tag status result) = finish_made tag status result

-- ---- what a start answers

-- P of what a start took, where the answer is that of a start
abbrev IfStarted : (StartAnswer → Type 0) → Answer → Type 0
IfStarted P (refused n) = Unit {0}
IfStarted P done = Unit {0}
IfStarted P (started s) = P s
IfStarted P (finished f) = Unit {0}

-- what holds of one command that is taken, and of a pair, with the controller left, holds of what a start answers
module _ (c : Controller) (m : Memory) (P : StartAnswer → Controller → Type 0) where
  abbrev Shown : Outcome → Type 0
  Shown o = IfStarted (λ s. P s o.controller) o.answer

  module _ (one : (id : ℕ) (a : Arbiter) (t left : ℕ) → Served c m id a → is_pair id (sq_at c id).ring m ≡ false → OneTaken c.free t left
      → Shown (head_one_taken c m id a t left))
      (pair : (id : ℕ) (a : Arbiter) (t u left : ℕ) → Served c m id a → is_pair id (sq_at c id).ring m ≡ true → TwoTaken c.free t u left
      → Shown (head_pair_taken c m id a t u left)) where
    shown : {call : Call} {o : Outcome} → Commands c m call o → Shown o
    shown (refused_leaves call n xs) = tt
    shown (done_leaves call xs ys) = tt
    shown (changes (takes_one id a t left s e w)) = one id a t left s e w
    shown (changes (takes_pair id a t u left s e w)) = pair id a t u left s e w
    shown (changes (finishes tag status result f)) = tt

    pub of_start : c.free < 2 ^ 64 → {s : StartAnswer} → (perform c m start).answer ≡ started s → P s (perform c m start).controller
    of_start h e = subst (IfStarted (λ s. P s (perform c m start).controller)) e (shown (of_commands (made c m h start)))
