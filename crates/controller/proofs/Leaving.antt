-- What each call leaves of each queue, of the commands, of the arbiter and of memory, and what it sets, field by field. Assumes nothing.
use Prim.Native.Nat.{ℕ, ◌+◌, ◌-◌, ◌%◌, ◌<◌}
use mathlib.Core.Bool.{Bool, true, false, not}
use mathlib.Core.List.{List, [], ◌∷◌}
use mathlib.Core.Logic.{◌⊎◌, inl, inr, ⊎_elim}
use mathlib.Core.Path.{◌≡◌, refl, sym, ap, ◌∙◌}
use native.Mathlib.Omega.{arith}
use lib.Dec.{ltb}
use lib.ListN.{length, get_or, set}
use lib.Seq.{get_or-set_same, get_or-set_other}
use borrow.Author.Tests.{eq-eqb, ne_eqb}
use Rattle.rules.specs.Rules.{first_match}
use Rattle.rules.proofs.Tests.{same_or_not, clash}
use Rattle.rules.proofs.Cases.{pick_cases, settle_cases}
use Rattle.le.specs.Memory.{Memory}
use Rattle.ring.specs.Slots.{next, phase_after}
use Rattle.controller.specs.declared.SubmissionQueue.{SubmissionQueue}
use Rattle.controller.specs.declared.CompletionQueue.{CompletionQueue}
use Rattle.controller.specs.Controller.{Controller}
use Rattle.controller.specs.State.{no_sq, no_cq, sq_at, cq_at, command_at, with_queues, with_sq, with_cq}
use Rattle.controller.specs.Valid.{Valid}
use Rattle.controller.specs.Doorbell as doorbell
use Rattle.controller.specs.Doorbell.{valid_tail, tail_refusal, tail_moved, mark}
use Rattle.controller.specs.Starting.{passed, one_taken, pair_taken}
use Rattle.controller.specs.Finishing.{cq_of, finish_answer, finished_controller, posted}
use Rattle.controller.specs.Answers.{StartAnswer, FinishAnswer, Answer, refused, done, started, finished, Outcome, outcome}
use Rattle.controller.specs.Answers.{refusing}
use Rattle.controller.specs.Calls.{Call, create_cq, create_sq, delete_cq, delete_sq, tail_write, head_write, start, finish, perform}
use Rattle.controller.specs.Calls.{Reachable}
use Rattle.controller.proofs.Made.{takes_one, takes_pair, finishes, Made, refuses, marks, creates_cq, creates_sq, moves_tail}
use Rattle.controller.proofs.Made.{deletes_cq, deletes_sq, moves_head, commands, takes_tail, made}
use Rattle.controller.proofs.Refusals.{done_not, finished_not}
use Rattle.controller.proofs.Validity.{valid}
use Rattle.controller.proofs.Lasting.{Becomes}

-- ---- a submission queue

-- the fields of a queue: e whether it exists, b base, s size, h head, t tail, k whether it is marked, q its CQ, z its class
pub record SqIs (x : SubmissionQueue) (e : Bool) (b s h t : ℕ) (k : Bool) (q z : ℕ) : Type 0 where
  pub exists : x.ring.exists ≡ e
  pub base : x.ring.base ≡ b
  pub size : x.ring.size ≡ s
  pub head : x.ring.head ≡ h
  pub tail : x.ring.tail ≡ t
  pub marked : x.marked ≡ k
  pub cq : x.cq ≡ q
  pub class : x.class ≡ z

-- y is x with that head, tail and mark; all else is as it was
abbrev pub SqWith : SubmissionQueue → SubmissionQueue → ℕ → ℕ → Bool → Type 0
SqWith x y h t k = SqIs y x.ring.exists x.ring.base x.ring.size h t k x.cq x.class

abbrev pub SameSq : SubmissionQueue → SubmissionQueue → Type 0
SameSq x y = SqWith x y x.ring.head x.ring.tail x.marked

-- the calls that change SQ i, with their answers
abbrev pub ChangesSq : ℕ → Call → Answer → Type 0
ChangesSq i (create_sq id size base cq class) a = (id ≡ i) × (a ≡ done)
ChangesSq i (delete_sq id) a = (id ≡ i) × (a ≡ done)
ChangesSq i (tail_write id v) a = (id ≡ i) × ((a ≡ done) ⊎ (a ≡ refused 10))
ChangesSq i start a = (s : StartAnswer) × (a ≡ started s) × (s.sq ≡ i)
ChangesSq i (create_cq id size base) a = ⊥
ChangesSq i (delete_cq id) a = ⊥
ChangesSq i (head_write id v) a = ⊥
ChangesSq i (finish tag status result) a = ⊥

-- SQ i, x before a call and y after it
pub data SqAfter (i : ℕ) (x y : SubmissionQueue) : Call → Answer → Type 0 where
  -- "A new queue has head = tail = 0", the numbers given, and no mark
  sq_created : (size base cq class : ℕ) → x.ring.exists ≡ false → SqIs y true base size 0 0 false cq class
      → SqAfter i x y (create_sq i size base cq class) done
  sq_deleted : SqIs y false 0 0 0 0 false 0 0 → SqAfter i x y (delete_sq i) done
  -- "the SQ head moves past what is taken", and nothing else
  head_passed : (s : StartAnswer) → s.sq ≡ i
      → SqWith x y ((x.ring.head + s.count) % x.ring.size) x.ring.tail x.marked → SqAfter i x y start (started s)
  tail_moved_lem : (v : ℕ) → SqWith x y x.ring.head v x.marked → SqAfter i x y (tail_write i v) done
  -- "10 on a tail write marks the SQ", and does nothing else
  sq_marked : (v : ℕ) → SqWith x y x.ring.head x.ring.tail true → SqAfter i x y (tail_write i v) (refused 10)
  sq_kept : (call : Call) (a : Answer) → (ChangesSq i call a → ⊥) → SameSq x y → SqAfter i x y call a

-- ---- a completion queue

-- likewise, p being the phase tag of the next posting
pub record CqIs (x : CompletionQueue) (e : Bool) (b s h t p : ℕ) : Type 0 where
  pub exists : x.ring.exists ≡ e
  pub base : x.ring.base ≡ b
  pub size : x.ring.size ≡ s
  pub head : x.ring.head ≡ h
  pub tail : x.ring.tail ≡ t
  pub phase : x.phase ≡ p

abbrev pub CqWith : CompletionQueue → CompletionQueue → ℕ → ℕ → ℕ → Type 0
CqWith x y h t p = CqIs y x.ring.exists x.ring.base x.ring.size h t p

abbrev pub SameCq : CompletionQueue → CompletionQueue → Type 0
SameCq x y = CqWith x y x.ring.head x.ring.tail x.phase

-- a finish posted to CQ i: the one that the SQ of its command names
abbrev pub PostedTo : Controller → ℕ → ℕ → Answer → Type 0
PostedTo c i tag a = (f : FinishAnswer) × (a ≡ finished f) × ((sq_at c (command_at c tag).sq).cq ≡ i)

abbrev pub ChangesCq : Controller → ℕ → Call → Answer → Type 0
ChangesCq c i (create_cq id size base) a = (id ≡ i) × (a ≡ done)
ChangesCq c i (delete_cq id) a = (id ≡ i) × (a ≡ done)
ChangesCq c i (head_write id v) a = (id ≡ i) × (a ≡ done)
ChangesCq c i (finish tag status result) a = PostedTo c i tag a
ChangesCq c i (create_sq id size base cq class) a = ⊥
ChangesCq c i (delete_sq id) a = ⊥
ChangesCq c i (tail_write id v) a = ⊥
ChangesCq c i start a = ⊥

-- CQ i, x before a call on c and y after it
pub data CqAfter (c : Controller) (i : ℕ) (x y : CompletionQueue) : Call → Answer → Type 0 where
  -- the tag "is 1 in the first pass"
  cq_created : (size base : ℕ) → x.ring.exists ≡ false → CqIs y true base size 0 0 1 → CqAfter c i x y (create_cq i size base) done
  cq_deleted : CqIs y false 0 0 0 0 0 → CqAfter c i x y (delete_cq i) done
  head_moved : (v : ℕ) → CqWith x y v x.ring.tail x.phase → CqAfter c i x y (head_write i v) done
  -- "The answer names the slot .. the tail moves by one", and the tag "turns over at each wrap"
  posted_to : (tag status result : ℕ) (f : FinishAnswer) (p : ℕ) → (sq_at c (command_at c tag).sq).cq ≡ i → f.slot ≡ x.ring.tail
      → Becomes (x.ring.tail + 1 ≡ x.ring.size) p (1 - x.phase) x.phase
      → CqWith x y x.ring.head ((x.ring.tail + 1) % x.ring.size) p → CqAfter c i x y (finish tag status result) (finished f)
  cq_kept : (call : Call) (a : Answer) → (ChangesCq c i call a → ⊥) → SameCq x y → CqAfter c i x y call a

-- ---- the whole controller, and memory

-- a start took a command; a finish posted one
abbrev pub Started : Call → Answer → Type 0
Started call a = (s : StartAnswer) × (call ≡ start) × (a ≡ started s)

abbrev pub Posted : Call → Answer → Type 0
Posted call a = (tag status result : ℕ) × (f : FinishAnswer) × (call ≡ finish tag status result) × (a ≡ finished f)

pub record Left (c : Controller) (m : Memory) (call : Call) (o : Outcome) : Type 0 where
  pub sq : (i : ℕ) → SqAfter i (sq_at c i) (sq_at o.controller i) call o.answer
  pub cq : (i : ℕ) → CqAfter c i (cq_at c i) (cq_at o.controller i) call o.answer
  -- what only a start changes, and what only a start or a finish does
  pub arbiter : (o.controller.arbiter ≡ c.arbiter) ⊎ Started call o.answer
  pub number : (o.controller.next_number ≡ c.next_number) ⊎ Started call o.answer
  pub free : (o.controller.free ≡ c.free) ⊎ (Started call o.answer ⊎ Posted call o.answer)
  pub commands : (o.controller.commands ≡ c.commands) ⊎ (Started call o.answer ⊎ Posted call o.answer)
  pub memory : (o.memory ≡ m) ⊎ Posted call o.answer

-- ---- by cases

same_sq : (x : SubmissionQueue) → SameSq x x
same_sq x = record { exists = refl; base = refl; size = refl; head = refl; tail = refl; marked = refl; cq = refl; class = refl }

same_cq : (x : CompletionQueue) → SameCq x x
same_cq x = record { exists = refl; base = refl; size = refl; head = refl; tail = refl; phase = refl }

module _ (call : Call) (a : Answer) (c : Controller) (id : ℕ) (low : id < 16) where
  -- one queue is set, and the others are as they were
  set_sq : length c.sqs ≡ 16 → (q : SubmissionQueue) → SqAfter id (sq_at c id) q call a
      → ((i : ℕ) → ChangesSq i call a → i ≡ id) → (i : ℕ) → SqAfter i (sq_at c i) (get_or (set c.sqs id q) i no_sq) call a
  set_sq many q here own i =
      ⊎_elim (λ (e : i ≡ id). rw (e, get_or-set_same c.sqs id q no_sq (rw many low)) here)
      (λ (n : i ≡ id → ⊥). rw (get_or-set_other c.sqs id i q no_sq n) (sq_kept call a (λ h. n (own i h)) (same_sq (sq_at c i))))
      (same_or_not i id)

  set_cq : length c.cqs ≡ 16 → (q : CompletionQueue) → CqAfter c id (cq_at c id) q call a
      → ((i : ℕ) → ChangesCq c i call a → i ≡ id) → (i : ℕ) → CqAfter c i (cq_at c i) (get_or (set c.cqs id q) i no_cq) call a
  set_cq many q here own i =
      ⊎_elim (λ (e : i ≡ id). rw (e, get_or-set_same c.cqs id q no_cq (rw many low)) here)
      (λ (n : i ≡ id → ⊥). rw (get_or-set_other c.cqs id i q no_cq n) (cq_kept call a (λ h. n (own i h)) (same_cq (cq_at c i))))
      (same_or_not i id)

not_done : {n : ℕ} → refused n ≡ done → ⊥
not_done e = done_not (sym e)

not_started : {n : ℕ} {s : StartAnswer} → refused n ≡ started s → ⊥
not_started e = let z : ◌≡◌ {A = ℕ} 0 1 = cc in omega arith

not_finished : {n : ℕ} {f : FinishAnswer} → refused n ≡ finished f → ⊥
not_finished e = finished_not (sym e)

-- a refusal leaves every queue; a tail write that is refused with 10 finds its queue marked
module _ (c : Controller) (n : ℕ) where
  kept_sq : (call : Call) (i : ℕ) → (ChangesSq i call (refused n) → ⊥) → SqAfter i (sq_at c i) (sq_at c i) call (refused n)
  kept_sq call i h = sq_kept call (refused n) h (same_sq (sq_at c i))

  refused_sq : (call : Call) → ((id v : ℕ) → call ≡ tail_write id v → refused n ≡ refused 10 → (sq_at c id).marked ≡ true)
      → (i : ℕ) → SqAfter i (sq_at c i) (sq_at c i) call (refused n)
  refused_sq (create_cq id size base) ten i = kept_sq (create_cq id size base) i (λ h. h)
  refused_sq (create_sq id size base cq class) ten i = kept_sq (create_sq id size base cq class) i (λ h. not_done h.1)
  refused_sq (delete_cq id) ten i = kept_sq (delete_cq id) i (λ h. h)
  refused_sq (delete_sq id) ten i = kept_sq (delete_sq id) i (λ h. not_done h.1)
  refused_sq (tail_write id v) ten i =
      ⊎_elim
      (λ (e : (id ≡ i) × (n ≡ 10)).
      rw (e.0, e.1)
      (sq_marked v (record {
        exists = refl;
        base = refl;
        size = refl;
        head = refl;
        tail = refl;
        marked = ten i v (ap (λ (k : ℕ). tail_write k v) e.0) (ap refused e.1);
        cq = refl;
        class = refl;
      })))
      (λ (d : (id ≡ i) × (n ≡ 10) → ⊥).
      kept_sq (tail_write id v) i (λ h. d (h.0, ⊎_elim (λ e. absurd (not_done e)) number_ten h.1)))
      (both (same_or_not id i) (same_or_not n 10))
    where
      number_ten : refused n ≡ refused 10 → n ≡ 10
      number_ten e = cc

      both : {A B : Type 0} → A ⊎ (A → ⊥) → B ⊎ (B → ⊥) → (A × B) ⊎ (A × B → ⊥)
      both (inl a) (inl b) = inl (a, b)
      both (inl a) (inr b) = inr (λ h. b h.1)
      both (inr a) b = inr (λ h. a h.0)
  refused_sq (head_write id v) ten i = kept_sq (head_write id v) i (λ h. h)
  refused_sq start ten i = kept_sq start i (λ h. not_started h.1)
  refused_sq (finish tag status result) ten i = kept_sq (finish tag status result) i (λ h. h)

  refused_cq : (call : Call) (i : ℕ) → CqAfter c i (cq_at c i) (cq_at c i) call (refused n)
  refused_cq call i = cq_kept call (refused n) (unchanged call) (same_cq (cq_at c i))
    where
      unchanged : (x : Call) → ChangesCq c i x (refused n) → ⊥
      unchanged (create_cq id size base) h = not_done h.1
      unchanged (create_sq id size base cq class) h = h
      unchanged (delete_cq id) h = not_done h.1
      unchanged (delete_sq id) h = h
      unchanged (tail_write id v) h = h
      unchanged (head_write id v) h = not_done h.1
      unchanged start h = h
      unchanged (finish tag status result) h = not_finished h.1

-- a call that sets queues and nothing else
queues : {call : Call} {a : Answer} (c : Controller) (m : Memory) (xs : List SubmissionQueue) (ys : List CompletionQueue)
    → ((i : ℕ) → SqAfter i (sq_at c i) (get_or xs i no_sq) call a) → ((i : ℕ) → CqAfter c i (cq_at c i) (get_or ys i no_cq) call a)
    → Left c m call (outcome a (with_queues c xs ys) m)
queues c m xs ys s q =
    record {
      sq = s;
      cq = q;
      arbiter = inl refl;
      number = inl refl;
      free = inl refl;
      commands = inl refl;
      memory = inl refl;
    }

-- a start that takes n commands from queue s .sq
took : {c : Controller} {m : Memory} {d : Controller} (s : StartAnswer) → Valid c → s.sq < 16
    → d.sqs ≡ set c.sqs s.sq (passed (sq_at c s.sq) s.count) → d.cqs ≡ c.cqs → Left c m start (outcome (started s) d m)
took {c} {m} {d} s v low e f =
    let y : Started start (started s) = (s, refl, refl) in
    record {
      sq = λ i. rw e (set_sq start (started s) c s.sq low v.sqs_16 (passed (sq_at c s.sq) s.count)
          (head_passed s refl (same_sq _))
          (λ j h. sym h.2 ∙ same_queue h.1) i);
      cq = λ i. rw f (cq_kept start (started s) (λ h. h) (same_cq (cq_at c i)));
      arbiter = inr y;
      number = inr y;
      free = inr (inl y);
      commands = inr (inl y);
      memory = inl refl;
    }
  where
    same_queue : {x y : StartAnswer} → started x ≡ started y → y.sq ≡ x.sq
    same_queue e = cc

-- the tag after a posting
turned : (size p phase : ℕ) → Becomes (p + 1 ≡ size) (phase_after size p phase) (1 - phase) phase
unfolding phase_after
turned size p phase =
    ⊎_elim (λ (e : p + 1 ≡ size). inl (e, rw (eq-eqb (p + 1) size e))) (λ (n : p + 1 ≡ size → ⊥). inr (n, rw (ne_eqb (p + 1) size n)))
    (same_or_not (p + 1) size)

module _ {c : Controller} {m : Memory} (v : Valid c) where
  -- a call that sets SQ id, or CQ id, and nothing else
  one_sq : {call : Call} {a : Answer} (id : ℕ) → id < 16 → (q : SubmissionQueue) → SqAfter id (sq_at c id) q call a
      → ((i : ℕ) → ChangesSq i call a → i ≡ id) → ((i : ℕ) → ChangesCq c i call a → ⊥) → Left c m call (outcome a (with_sq c id q) m)
  one_sq id low q here own none =
      queues c m (set c.sqs id q) c.cqs (set_sq _ _ c id low v.sqs_16 q here own)
      (λ i. cq_kept _ _ (none i) (same_cq (cq_at c i)))

  one_cq : {call : Call} {a : Answer} (id : ℕ) → id < 16 → (q : CompletionQueue) → CqAfter c id (cq_at c id) q call a
      → ((i : ℕ) → ChangesCq c i call a → i ≡ id) → ((i : ℕ) → ChangesSq i call a → ⊥) → Left c m call (outcome a (with_cq c id q) m)
  one_cq id low q here own none =
      queues c m c.sqs (set c.cqs id q) (λ i. sq_kept _ _ (none i) (same_sq (sq_at c i)))
      (set_cq _ _ c id low v.cqs_16 q here own)

  -- what a call leaves, where a tail write that is refused with 10 leaves its queue marked
  left : {call : Call} {o : Outcome}
      → ((id x : ℕ) → call ≡ tail_write id x → o.answer ≡ refused 10 → (sq_at o.controller id).marked ≡ true)
      → Made c m call o → Left c m call o
  unfolding one_taken pair_taken finished_controller posted next
  left ten (refuses call n) = queues c m c.sqs c.cqs (refused_sq c n call ten) (refused_cq c n call)
  left ten (marks id x r e) = one_sq id r.id_low _ (sq_marked x (same_sq _)) (λ i h. sym h.0) (λ i h. h)
  left ten (creates_cq id size base r) =
      one_cq id r.id_low _ (cq_created size base r.absent (same_cq _)) (λ i h. sym h.0) (λ i h. h)
  left ten (creates_sq id size base cq class r) =
      one_sq id r.id_low _ (sq_created size base cq class r.absent (same_sq _)) (λ i h. sym h.0) (λ i h. h)
  left ten (deletes_cq id r) = one_cq id r.id_low _ (cq_deleted (same_cq _)) (λ i h. sym h.0) (λ i h. h)
  left ten (deletes_sq id r) = one_sq id r.id_low _ (sq_deleted (same_sq _)) (λ i h. sym h.0) (λ i h. h)
  left ten (moves_tail id x r e) = one_sq id r.id_low _ (tail_moved_lem x (same_sq _)) (λ i h. sym h.0) (λ i h. h)
  left ten (moves_head id x r) = one_cq id r.id_low _ (head_moved x (same_cq _)) (λ i h. sym h.0) (λ i h. h)
  left ten (commands (takes_one id a t rest s e w)) = took _ v s.candidate.0 refl refl
  left ten (commands (takes_pair id a t u rest s e w)) = took _ v s.candidate.0 refl refl
  left ten (commands (finishes tag status result r)) =
      let q = cq_of c tag in
      let y : Posted (finish tag status result) (finished (finish_answer c tag)) = (tag, status, result, finish_answer c tag, refl, refl) in
      record {
        sq = λ i. sq_kept _ _ (λ h. h) (same_sq (sq_at c i));
        cq = set_cq _ _ c q (v.sq_cq_low (command_at c tag).sq) v.cqs_16 _
            (posted_to tag status result (finish_answer c tag) _ refl refl (turned _ _ _) (same_cq _)) (λ i h. sym h.2);
        arbiter = inl refl;
        number = inl refl;
        free = inr (inr y);
        commands = inr (inr y);
        memory = inr y;
      }

-- ---- every controller that came from a fresh one by calls

-- "tail write 1, 9, 11, 10": no number before 10 is 10
not_ten : (a b d : Bool) → first_match ((a, 1) ∷ (b, 9) ∷ (d, 11) ∷ []) ≡ 10 → ⊥
not_ten true b d e = omega arith
not_ten false true d e = omega arith
not_ten false false true e = omega arith
not_ten false false false e = omega arith

-- a tail write that is refused with 10 leaves its queue marked
ten_marks : (c : Controller) → length c.sqs ≡ 16 → (m : Memory) (id v : ℕ) → (perform c m (tail_write id v)).answer ≡ refused 10
    → (sq_at (perform c m (tail_write id v)).controller id).marked ≡ true
unfolding doorbell.tail_write tail_refusal
ten_marks c many m id v =
    let q = sq_at c id in
    let P : Outcome → Type 0 = λ o. o.answer ≡ refused 10 → (sq_at o.controller id).marked ≡ true in
    settle_cases P (tail_refusal c id) (refusing c m) _
    (λ z. pick_cases P (valid_tail q.ring v) (outcome done (with_sq c id (tail_moved q v)) m)
    (outcome (refused 10) (with_sq c id (mark q)) m) (λ y e. absurd (done_not e))
    (λ n e. ap (λ (x : SubmissionQueue). x.marked) (get_or-set_same c.sqs id (mark q) no_sq (rw many (takes_tail c id z).id_low))))
    (λ n e. absurd (not_ten (ltb 15 id) (not q.ring.exists) q.marked (number e)))
  where
    number : {a b : ℕ} → refused a ≡ refused b → a ≡ b
    number e = cc

-- what every call leaves and what it sets, field by field
pub leaves : {c : Controller} → Reachable c → (m : Memory) (call : Call) → Left c m call (perform c m call)
leaves {c} r m call = left (valid r) (ten call) (made c m (valid r).free_64 call)
  where
    ten : (x : Call) (id v : ℕ) → x ≡ tail_write id v → (perform c m x).answer ≡ refused 10
        → (sq_at (perform c m x).controller id).marked ≡ true
    ten x id v e = rw e (ten_marks c (valid r).sqs_16 m id v)

-- ---- a submission queue from its creation to its deletion

-- its place, its size, its CQ and its class stay, in either mechanism, and so does a mark
pub record SqStays (x y : SubmissionQueue) : Type 0 where
  pub exists : y.ring.exists ≡ x.ring.exists
  pub base : y.ring.base ≡ x.ring.base
  pub size : y.ring.size ≡ x.ring.size
  pub cq : y.cq ≡ x.cq
  pub class : y.class ≡ x.class
  pub mark : x.marked ≡ true → y.marked ≡ true

of_fields : {x y : SubmissionQueue} {h t : ℕ} {k : Bool} → (x.marked ≡ true → k ≡ true) → SqWith x y h t k → SqStays x y
of_fields f w =
    record { exists = w.exists; base = w.base; size = w.size; cq = w.cq; class = w.class; mark = λ e. w.marked ∙ f e }

stays : {i : ℕ} {x y : SubmissionQueue} {call : Call} {a : Answer} → x.ring.exists ≡ true → SqAfter i x y call a
    → SqStays x y ⊎ ((call ≡ delete_sq i) × (a ≡ done))
stays h (sq_created size base cq class n w) = absurd (clash h n)
stays h (sq_deleted w) = inr (refl, refl)
stays h (head_passed s e w) = inl (of_fields (λ m. m) w)
stays h (tail_moved_lem v w) = inl (of_fields (λ m. m) w)
stays h (sq_marked v w) = inl (of_fields (λ m. refl) w)
stays h (sq_kept call a n w) = inl (of_fields (λ m. m) w)

-- "a mark ends with its queue", and by nothing else; "Class is stored"
pub sq_stays : {c : Controller} → Reachable c → (m : Memory) (call : Call) (i : ℕ) → (sq_at c i).ring.exists ≡ true
    → SqStays (sq_at c i) (sq_at (perform c m call).controller i) ⊎ ((call ≡ delete_sq i) × ((perform c m call).answer ≡ done))
sq_stays r m call i h = stays h ((leaves r m call).sq i)
