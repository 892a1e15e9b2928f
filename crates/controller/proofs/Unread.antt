-- What a finish writes: its own 16 bytes and no others, and never a slot whose entry is still unread. Assumes nothing.
use Prim.Native.Nat.{ℕ, suc, ◌+◌, ◌-◌, ◌*◌, ◌<◌, ◌≤◌}
use mathlib.Core.Bool.{true}
use mathlib.Core.List.{List, []}
use mathlib.Core.Logic.{◌⊎◌, ⊎_elim, ◌↔◌}
use mathlib.Core.Path.{◌≡◌, sym, ap, ◌∙◌}
use native.Mathlib.Omega.{arith}
use lib.ListN.{length, get_or}
use borrow.Author.Tests.{eq-eqb, eqb-true}
use Rattle.rules.proofs.Tests.{same_or_not}
use Rattle.rules.proofs.Tables.{settle_refused, settle_accepted}
use Rattle.rules.proofs.Exactly.{says_iff, NoneOf, given_exactly}
use Rattle.le.specs.Memory.{Memory, part}
use Rattle.le.proofs.Parts.{put_length, put_out, part_put}
use Rattle.entry.specs.Completion.{completion_bytes}
use Rattle.entry.proofs.Completions.{completion_length}
use Rattle.ring.specs.Reader.{slot_in}
use Rattle.ring.proofs.Exact.{place}
use Rattle.ring.proofs.Phase as phase
use Rattle.ring.proofs.Exactly.{says_full}
use Rattle.controller.specs.Controller.{Controller}
use Rattle.controller.specs.State.{cq_at, command_at}
use Rattle.controller.specs.Finishing as finishing
use Rattle.controller.specs.Finishing.{cq_of, full, finish_refusal, completion_of, status_of, finished_controller, tail_of, posted_memory}
use Rattle.controller.specs.Finishing.{finish_answer}
use Rattle.controller.specs.Answers.{FinishAnswer, Answer, refused, done, started, finished, number_of, outcome, refusing}
use Rattle.controller.specs.Calls.{Reachable, finish, perform}
use Rattle.controller.specs.Demand.{History, last, ring_of, ring_bytes, size_of, unreleased, book_head}
use Rattle.controller.proofs.Made.{finishable}
use Rattle.controller.proofs.Validity.{valid}
use Rattle.controller.proofs.Refusals.{finished_not}
use Rattle.controller.proofs.Exactly.{NoFreeSlot, before_full, finish_refusal_lem}
use Rattle.controller.proofs.Written.{posts_to, fits, ring_posted, ring_kept}
use Rattle.controller.proofs.Booked.{this_or_other}
use Rattle.controller.proofs.Demand.{reachable, queue}

same_slot : {x y : FinishAnswer} → finished x ≡ finished y → x.slot ≡ y.slot
same_slot e = cc

module _ {c : Controller} (r : Reachable c) (m : Memory) (tag status result : ℕ) where
  -- its refusal number, where its entry goes, and the entry's bytes
  abbrev number : ℕ
  number = finish_refusal c (length m) tag status

  abbrev spot : ℕ
  spot = tail_of c (cq_of c tag)

  abbrev bytes : List ℕ
  bytes = completion_bytes (completion_of c tag status result) (cq_at c (cq_of c tag)).phase

  -- a finish that is refused answers the number and changes nothing
  pub finish_refused : (number ≡ 0 → ⊥) → perform c m (finish tag status result) ≡ refusing c m number
  unfolding finishing.finish
  finish_refused n = settle_refused number (refusing c m) _ n

  module _ (z : number ≡ 0) where
    -- one that is not refused answers the slot at the tail and posts there
    pub finish_done : perform c m (finish tag status result)
        ≡ outcome (finished (finish_answer c tag))
        (finished_controller c tag (status_of (command_at c tag).verdict status))
        (posted_memory c m (cq_of c tag) (completion_of c tag status result))
    unfolding finishing.finish
    finish_done = settle_accepted number (refusing c m) _ z

    pub finish_answer_lem : (perform c m (finish tag status result)).answer ≡ finished (finish_answer c tag)
    finish_answer_lem = ap (λ o. o.answer) finish_done

    abbrev left : Memory
    left = (perform c m (finish tag status result)).memory

    writes : left ≡ posted_memory c m (cq_of c tag) (completion_of c tag status result)
    writes = ap (λ o. o.memory) finish_done

    fit : spot + length bytes ≤ length m
    fit =
        let f = finishable c m tag status z in
        fits r m f.inside (completion_of c tag status result) (cq_of c tag) (posts_to (valid r) tag f.out)

    size : length bytes ≡ 16
    size = completion_length (completion_of c tag status result) (cq_at c (cq_of c tag)).phase

    -- leaves its entry there, with the phase tag
    pub finish_posts : part left spot 16 ≡ bytes
    finish_posts = rw writes (rw size at (part_put m spot bytes fit))

    -- the slot that is answered is the one that holds it
    pub answered_slot : {f : FinishAnswer} → (perform c m (finish tag status result)).answer ≡ finished f
        → part left ((cq_at c (cq_of c tag)).ring.base + 16 * f.slot) 16 ≡ bytes
    answered_slot e = rw (same_slot (sym e ∙ finish_answer_lem)) finish_posts

    -- and every other byte of memory as it was
    pub finish_length : length left ≡ length m
    finish_length = ap length writes ∙ put_length m spot bytes fit

    pub finish_others : (i : ℕ) → ((i < spot) ⊎ (spot + 16 ≤ i)) → get_or left i 0 ≡ get_or m i 0
    finish_others i o = rw writes (put_out m spot bytes fit i (rw size o))

-- ---- what is still unread

-- an answer whose number is not 0 is that refusal
refusal : (a : Answer) (n : ℕ) → number_of a ≡ suc n → a ≡ refused (suc n)
refusal (refused k) n e = ap refused e
refusal done n e = absurd (omega arith)
refusal (started s) n e = absurd (omega arith)
refusal (finished f) n e = absurd (omega arith)

module _ (h : History) where
  -- the slot of the j-th entry that waits in the history's queue
  abbrev unread_slot : ℕ → ℕ
  unread_slot j = place (size_of h) (book_head h) j

  -- at most size - 1 entries wait
  pub waits_at_most : length (unreleased h) ≤ size_of h - 1
  waits_at_most = omega (arith, (queue h).phase.room)

  -- "the CQ has no free slot" exactly if so many do
  pub full_waits : (full (cq_at (last h) h.q).ring ≡ true) ↔ (length (unreleased h) ≡ size_of h - 1)
  unfolding full
  full_waits = let e = phase.waiting_length (queue h).phase in (λ f. sym e ∙ eqb-true _ _ f, λ n. eq-eqb _ _ (e ∙ n))

  -- and a finish that posts to the queue is refused with 17 exactly if so many wait and no number before 17 applies
  pub refused_full : (m : Memory) (tag status result : ℕ) → cq_of (last h) tag ≡ h.q
      → ((perform (last h) m (finish tag status result)).answer ≡ refused 17)
      ↔ ((length (unreleased h) ≡ size_of h - 1) × NoneOf (before_full (last h) (length m) tag status))
  unfolding full
  refused_full m tag status result e =
      let c = last h in
      let k = (valid (reachable h)).cq_ok h.q h.exists in
      let d = given_exactly (before_full c (length m) tag status) (NoFreeSlot (cq_at c (cq_of c tag)).ring) 17 [] tt tt
      (finish_refusal_lem (reachable h) m tag status result) in
      let f = says_iff (says_full (size_of h) (cq_at c h.q).ring.head (cq_at c h.q).ring.tail k.head_below k.tail_below) in (
        λ a. let x = d.0 (ap number_of a) in (full_waits.0 (f.1 (rw e at x.0)), x.1),
        λ x. refusal (perform c m (finish tag status result)).answer 16 (d.1 (rw e (f.0 (full_waits.1 x.0)), x.1)),
      )

  module _ (tag status result j : ℕ) (waits : j < length (unreleased h)) where
    not_tail : unread_slot j ≡ (cq_at (last h) h.q).ring.tail → ⊥
    not_tail = rw (queue h).head_same (phase.unread (queue h).phase j waits)

    -- a finish that posts to the queue never names a slot whose entry is still unread
    pub never_unread : (m : Memory) → cq_of (last h) tag ≡ h.q
        → {f : FinishAnswer} → (perform (last h) m (finish tag status result)).answer ≡ finished f → f.slot ≡ unread_slot j → ⊥
    never_unread m e a s =
        ⊎_elim
        (λ z. not_tail (sym s ∙ same_slot (sym a ∙ finish_answer_lem (reachable h) m tag status result z)
        ∙ ap (λ k. (cq_at (last h) k).ring.tail) e))
        (λ n. finished_not (sym a ∙ ap (λ o. o.answer) (finish_refused (reachable h) m tag status result n)))
        (same_or_not (finish_refusal (last h) (length m) tag status) 0)

    -- the bytes of that slot, in a memory, are as the reader sees them
    abbrev Stays : Memory → Type 0
    Stays m = slot_in (ring_of (last h) h.q m) (unread_slot j) ≡ slot_in (ring_bytes h) (unread_slot j)

    -- and whatever a finish posts, and wherever, they stay
    pub unread_stays : Stays (perform (last h) h.seen (finish tag status result)).memory
    unread_stays =
        ⊎_elim
        (λ z. let f = finishable (last h) h.seen tag status z in
        let e = completion_of (last h) tag status result in
        rw (finish_done (reachable h) h.seen tag status result z)
        (this_or_other
        (λ k. (cq_at (last h) k).ring.exists ≡ true → Stays (posted_memory (last h) h.seen k e))
        h.q (cq_of (last h) tag)
        (λ here. rw (ring_posted (reachable h) h.seen f.inside e h.q here, (queue h).head_same)
        (phase.unread_stays (queue h).phase e _ j waits))
        (λ n here. rw (ring_kept (reachable h) h.seen f.inside e (cq_of (last h) tag) here h.q n h.exists))
        (posts_to (valid (reachable h)) tag f.out)))
        (λ n. rw (finish_refused (reachable h) h.seen tag status result n))
        (same_or_not (finish_refusal (last h) (length h.seen) tag status) 0)
