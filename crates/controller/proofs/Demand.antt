-- DEMAND 1, of every call; and DEMAND 3, over any list of runs: the reader finds exactly what was posted and not yet released. Assumes
-- nothing.
use Rattle.std.specs.Prelude.{Ok, Err}
use Prim.Native.Nat.{ℕ, ◌*◌, ◌<◌, ◌^◌}
use mathlib.Core.List.{List, [], ◌∷◌, ◌++◌, foldl-append}
use mathlib.Core.Path.{◌≡◌, refl, sym, ap, ◌∙◌}
use native.Mathlib.Nat.{mod-eq_of_lt}
use native.Mathlib.Omega.{arith}
use lib.ListN.{length}
use lib.Seq.{get_or-set_other}
use borrow.Author.Tests.{le-ltb, lt-leb}
use Rattle.rules.proofs.Tests.{in_range}
use Rattle.rules.proofs.Tables.{settle_accepted}
use Rattle.le.specs.Memory.{Memory, Bytes}
use Rattle.ring.specs.Reader.{read_slots, reader_refusal, ring_read}
use Rattle.ring.proofs.Phase.{counts, finds, reader_phase_in}
use Rattle.controller.specs.Controller.{Controller}
use Rattle.controller.specs.State.{no_cq, cq_at, with_cq}
use Rattle.controller.specs.Create.{new_cq}
use Rattle.controller.specs.Starting.{one_taken, pair_taken}
use Rattle.controller.specs.Finishing.{cq_of, posted, finished_controller}
use Rattle.controller.specs.Answers.{Outcome}
use Rattle.controller.specs.Calls.{Call, result_of, Reachable, fresh, after, perform}
use Rattle.controller.specs.Refusing.{Answered}
use Rattle.controller.specs.Steps.{Step, steps, given, final, leaves, Run, run_steps, after_run, all_steps, after_runs}
use Rattle.controller.specs.Valid.{RingOk}
use Rattle.controller.specs.Book.{Book}
use Rattle.controller.specs.Demand.{booked, heads, reader, Cleared, Keeps, Stays, ClearTags, Untouched, Narrow, Typed, History}
use Rattle.controller.specs.Demand.{last, ring_bytes, size_of, head_writes, book, unreleased, book_head, book_phase}
use Rattle.controller.proofs.Made.{takes_one, takes_pair, finishes, Made, refuses, marks, creates_cq, creates_sq, moves_tail}
use Rattle.controller.proofs.Made.{deletes_cq, deletes_sq, moves_head, commands, of_commands, made}
use Rattle.controller.proofs.Lists.{set_keep, set_same}
use Rattle.controller.proofs.Answered.{answered}
use Rattle.controller.proofs.Steps.{reached, reached_runs}
use Rattle.controller.proofs.MemoryBytes.{call_bytes}
use Rattle.controller.proofs.Validity.{CqHere, valid}
use Rattle.controller.proofs.Account.{Queue, Agrees, Next, agrees_fresh, kept, known}
use Rattle.controller.proofs.Booked.{next_refused, next_marked, next_tail, next_create_sq, next_create_cq, next_head, next_delete_sq}
use Rattle.controller.proofs.Booked.{next_delete_cq}
use Rattle.controller.proofs.BookedStart.{next_one, next_pair}
use Rattle.controller.proofs.BookedFinish.{next_finish}

-- DEMAND 1: any call on any controller, in any memory, is refused by one of its numbers or answers its values; and a refusal leaves
-- memory and controller as they were, but that 10 on a tail write marks the SQ
pub demand1 : (c : Controller) (m : Memory) (call : Call) → Answered c m call (perform c m call)
demand1 = answered

-- ---- over the calls

module _ {q : ℕ} {c : Controller} {b : Book} {m : Memory} {vs : List ℕ} (r : Reachable c) (bytes : Bytes m) where
  -- each call keeps the book and the controller in agreement; P is about what comes after it
  next_call : {P : Type 0} {call : Call} {o : Outcome} → Made c m call o → result_of call < 2 ^ 32
      → Agrees (Keeps q c o.controller × P) q c b m vs → (Keeps q c o.controller × P → Cleared q m c o.controller)
      → Next P q b m vs call o
  unfolding one_taken pair_taken finished_controller posted
  next_call (refuses call n) t w z = next_refused q c b m vs (valid r) (known w (λ p. (λ h. h, p))) call n
  next_call (marks id v g e) t w z = next_marked q c b m vs (valid r) (known w (λ p. (λ h. h, p))) id v
  next_call (creates_cq id size base g) t w z =
      let stays : Keeps q c (with_cq c id (new_cq size base)) =
      set_keep c.cqs id (new_cq size base) no_cq CqHere (omega (arith, g.id_low, (valid r).cqs_16)) refl q in
      next_create_cq q c b m vs (valid r) (known w (λ p. (stays, p))) id size base g (λ p. z (stays, p))
  next_call (creates_sq id size base cq class g) t w z =
      next_create_sq q c b m vs (valid r) (known w (λ p. (λ h. h, p))) id size base cq class g.id_low
  next_call (deletes_cq id g) t w z =
      next_delete_cq q c b m vs (valid r) w id g.id_low
      (λ n p. (λ h. rw (get_or-set_other c.cqs id q no_cq no_cq (λ e. n (sym e))) h, p))
  next_call (deletes_sq id g) t w z = next_delete_sq q c b m vs (valid r) (known w (λ p. (λ h. h, p))) id g.id_low
  next_call (moves_tail id v g e) t w z = next_tail q c b m vs (valid r) (known w (λ p. (λ h. h, p))) id v
  next_call (moves_head id v g) t w z =
      next_head q c b m vs (valid r)
      (known w (λ p. (λ h. set_same c.cqs id _ no_cq (λ x. x.ring.exists) refl q ∙ h, p))) id v g
  next_call (commands (takes_one id a n left g e o)) t w z =
      next_one q c b m vs (valid r) (known w (λ p. (λ h. h, p))) bytes id a g.candidate.0 _ n left o.low
  next_call (commands (takes_pair id a n u left g e o)) t w z =
      next_pair q c b m vs (valid r) (known w (λ p. (λ h. h, p))) bytes id a g.candidate.0 _ n u left o.first.low o.second.low
  next_call (commands (finishes tag status result g)) t w z =
      next_finish q b m vs r
      (known w (λ p. (λ h. set_same c.cqs (cq_of c tag) _ no_cq (λ x. x.ring.exists) refl q ∙ h, p))) tag status result t g

-- after the calls of a run they agree; other steps may follow
run_agrees : (q : ℕ) (xs : List Call) (later : List Step) {c : Controller} {b : Book} {m : Memory} {vs : List ℕ}
    → Reachable c → Bytes m → Narrow xs → (let ss = steps c (given c m xs) in
    ClearTags q (ss ++ later) → Agrees (Stays q (ss ++ later)) q c b m vs
    → Agrees (Stays q later) q (final c (given c m xs)) (booked b ss) (leaves c m xs) (heads q vs ss))
run_agrees q [] later r bytes n k w = w
run_agrees q (x ∷ xs) later {c} {m = m} r bytes n k w =
    let is_made = made c m (valid r).free_64 x in
    run_agrees q xs later (after r m x) (call_bytes bytes (of_commands is_made)) n.1 k.1 (next_call r bytes is_made n.0 w k.0)

clear_later : (q : ℕ) (ss later : List Step) → ClearTags q (ss ++ later) → ClearTags q later
clear_later q [] later k = k
clear_later q (s ∷ ss) later k = clear_later q ss later k.1

-- after the runs they agree
runs_agree : (q : ℕ) (rs : List Run) {c : Controller} {b : Book} {left : Memory} {vs : List ℕ} (seen : Memory)
    → Reachable c → Agrees (Stays q (all_steps c rs)) q c b left vs → Typed rs → ClearTags q (all_steps c rs) → Untouched q c left rs seen
    → Agrees (Unit {0}) q (after_runs c rs) (booked b (all_steps c rs)) seen (heads q vs (all_steps c rs))
runs_agree q [] seen r w t k u = kept w (λ p. u)
runs_agree q (x ∷ rs) {c} {b} {vs = vs} seen r w t k u =
    let ss = run_steps c x in
    let later = all_steps (after_run c x) rs in
    rw (foldl-append _ b ss later, foldl-append _ vs ss later)
    (runs_agree q rs seen (reached (given c x.memory x.calls) r)
    (run_agrees q x.calls later r t.0 t.1 k (kept w u.0)) t.2 (clear_later q ss later k) u.1)

-- ---- of a history

module _ (h : History) where
  pub reachable : Reachable (last h)
  reachable = reached_runs h.runs (fresh h.weighted h.word)

  agrees : Agrees (Unit {0}) h.q (last h) (book h) h.seen (head_writes h)
  agrees =
      runs_agree h.q h.runs h.seen (fresh h.weighted h.word) (agrees_fresh h.weighted h.word h.q []) h.typed
      h.clear h.untouched

  pub queue : Queue (cq_at (last h) h.q) ((book h).cqs h.q) h.seen
  queue = (agrees.account tt).queue h.exists

  -- DEMAND 3, its first half: from the ring's bytes, its size and its accepted head writes alone, "each once, in order, field for field"
  pub demand3 : reader (ring_bytes h) (size_of h) (head_writes h) ≡ unreleased h
  unfolding reader
  demand3 = rw ((agrees.account tt).stands, queue.head_same) (finds queue.phase)

  -- the completion reader refuses nothing here
  accepts : reader_refusal (length (ring_bytes h)) (size_of h) (book_head h) ≡ 0
  unfolding reader_refusal
  accepts =
      let r : RingOk (cq_at (last h) h.q).ring = (valid reachable).cq_ok h.q h.exists in
      let size = in_range 2 1024 (size_of h) r.low r.high in
      let whole = le-ltb (length (ring_bytes h)) (16 * size_of h) (omega (arith, queue.phase.sized)) in
      let head = lt-leb (size_of h) (cq_at (last h) h.q).ring.head r.head_below in
      rw (size, whole, queue.head_same, head)

  -- "The reader, given the book's head and phase tag, answers how many wait; its slots read as these in order, all five fields equal."
  pub demand3_count : ring_read (ring_bytes h) (size_of h) (book_head h) (book_phase h) ≡ Ok (length (unreleased h))
  unfolding ring_read
  demand3_count =
      settle_accepted _ Err _ accepts
      ∙ ap Ok (rw (mod-eq_of_lt (reader_phase_in queue.phase), queue.head_same) (counts queue.phase))

  pub demand3_slots : read_slots (length (unreleased h)) (ring_bytes h) (size_of h) (book_head h) ≡ unreleased h
  demand3_slots = rw queue.head_same queue.phase.slots

-- DEMAND 3, its second half: "different unreleased completions mean different bytes"
pub demand3_apart : (x y : History) → size_of x ≡ size_of y → head_writes x ≡ head_writes y → (unreleased x ≡ unreleased y → ⊥)
    → ring_bytes x ≡ ring_bytes y → ⊥
demand3_apart x y size heads differ bytes =
    let same : reader (ring_bytes x) (size_of x) (head_writes x) ≡ reader (ring_bytes y) (size_of y) (head_writes y) = cc in
    differ (sym (demand3 x) ∙ same ∙ demand3 y)
