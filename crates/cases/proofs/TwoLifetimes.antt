-- Demand 3 over two lifetimes of one completion queue: the first begins on a ring full of old tags, into which the host writes meanwhile,
-- and ends with an entry unread; the second is elsewhere, of another size, on a clear ring. Assumes nothing.
use Prim.Native.Nat.{ℕ, ◌*◌, ◌<◌}
use mathlib.Core.Bool.{false}
use mathlib.Core.List.{List, [], ◌∷◌, ◌++◌, map}
use mathlib.Core.Path.{◌≡◌, refl, sym, ◌∙◌}
use lib.ListN.{replicate}
use Rattle.rules.specs.Rules.{settle}
use Rattle.bits.specs.Bits.{is_set, first, count, mask_of, some_below}
use Rattle.bits.specs.Tags.{taken_one, given_back}
use Rattle.le.specs.Le.{le, le_at}
use Rattle.le.specs.Memory.{Memory, part, put, Bytes}
use Rattle.entry.specs.Completion.{completion, completion_bytes, completion_at, phase_tag}
use Rattle.entry.specs.Submission.{submission_at}
use Rattle.ring.specs.Slots.{next, distance, phase_after}
use Rattle.ring.specs.Doorbell as ring
use Rattle.ring.specs.Reader.{slot_in, phase_in, read_count, read_slots, found}
use Rattle.arbiter.specs.Turns as turns
use Rattle.arbiter.specs.Arbiter as arbiter
use Rattle.arbiter.specs.Word as word
use Rattle.controller.specs.Controller.{Controller}
use Rattle.controller.specs.State.{outstanding, fresh_controller}
use Rattle.controller.specs.Rings.{some_ring, share_byte, shares, outside}
use Rattle.controller.specs.Create as create
use Rattle.controller.specs.Delete as delete
use Rattle.controller.specs.Doorbell as doorbell
use Rattle.controller.specs.Verdict.{in_use, verdict_one}
use Rattle.controller.specs.Starting as starting
use Rattle.controller.specs.Finishing as finishing
use Rattle.controller.specs.Answers.{Answer, refused, done, started, finished}
use Rattle.controller.specs.Calls.{Call, create_cq, create_sq, delete_cq, delete_sq, tail_write, head_write, start, finish, fresh}
use Rattle.controller.specs.Steps.{Run, all_steps}
use Rattle.controller.specs.Demand.{Typed, reader, History, ring_bytes, size_of, head_writes, unreleased}
use Rattle.controller.proofs.Demand.{demand3}
use Rattle.controller.proofs.Undisturbed.{undisturbed}
use Rattle.cases.proofs.Tested.{low_bytes, Shared, calling, after_writing, shared, shared_typed, clear_is, entry}

abbrev c : Controller
c = fresh_controller false 0

-- ---- the first lifetime: CQ 1 of 2 entries at 4,096, SQ 1 of 4 at 0

-- the completion ring is full of ones, so of old tags
unfoldable pub old : Memory
old = replicate 4096 0 ++ replicate 32 1

unfoldable pub first_calls : List Shared
first_calls =
    calling (create_cq 1 2 4096 ∷ create_sq 1 4 0 1 0 ∷ [])
    ∷ after_writing 0 (entry 1 0 10 ++ entry 1 0 11 ++ entry 1 0 12) (tail_write 1 3 ∷ start ∷ start ∷ finish 0 5 70 ∷ head_write 1 1 ∷ [])
    ∷ after_writing 4096 (9 ∷ 9 ∷ 9 ∷ [])
    (finish 1 6 71 ∷ delete_cq 1 ∷ start ∷ delete_sq 1 ∷ head_write 1 0 ∷ finish 0 7 72 ∷ tail_write 1 0 ∷ delete_sq 1 ∷ delete_cq 1 ∷ [])
    ∷ after_writing 4096 (replicate 32 1) (delete_cq 1 ∷ [])
    ∷ []

abbrev earlier : List Run
earlier = shared c old first_calls

-- ---- the second lifetime: CQ 1 of 3 entries at 8,192, SQ 1 of 3 at 0, in a memory that has nothing of the first

unfoldable pub anew : Memory
anew = (entry 1 0 20 ++ entry 1 0 21 ++ replicate 3968 0) ++ replicate 4096 1 ++ replicate 48 0

unfoldable pub second_calls : List Call
second_calls =
    create_sq 1 3 0 1 0 ∷ tail_write 1 2 ∷ start ∷ delete_sq 1 ∷ start ∷ finish 0 8 80 ∷ head_write 1 1 ∷ finish 1 9 81 ∷ delete_cq 0 ∷ []

-- ---- both

pub clear : (i : ℕ) → i < 3 → phase_in (part anew 8192 (16 * 3)) i ≡ 0
unfolding anew phase_in slot_in part phase_tag le_at
clear = clear_is (part anew 8192 (16 * 3)) 3 refl

old_bytes : Bytes old
unfolding old
old_bytes = low_bytes old refl

pub earlier_typed : Typed earlier
unfolding first_calls
earlier_typed = shared_typed old first_calls (fresh false 0) old_bytes refl

pub new_bytes : Bytes anew
unfolding anew
new_bytes = low_bytes anew refl

unfoldable pub example : History
unfolding old first_calls anew second_calls settle is_set first count mask_of some_below taken_one given_back le le_at part put completion_bytes
    submission_at next distance phase_after ring.valid_tail ring.valid_head outstanding some_ring share_byte shares outside create.create_cq_refusal
    create.create_sq_refusal create.create_cq create.create_sq delete.busy delete.named delete.delete_cq_refusal delete.delete_sq_refusal
    delete.delete_cq delete.delete_sq doorbell.tail_refusal doorbell.tail_write doorbell.head_refusal doorbell.head_write in_use verdict_one
    starting.candidate_at starting.candidates starting.entry_at starting.is_pair starting.one_taken starting.take_one starting.start
    finishing.full finishing.finish_refusal finishing.status_of finishing.released finishing.unlinked finishing.posted
    finishing.finished_controller finishing.finish arbiter.choice arbiter.by_group turns.turn turns.next_after word.burst_of
example = undisturbed false 0 earlier earlier_typed 1 3 8192 anew new_bytes refl clear second_calls refl refl

-- the command of a start number taken from SQ 1 with a tag out of a slot, and its completion posted to a slot
abbrev takes : ℕ → ℕ → ℕ → Answer
takes number tag slot = started (record { sq = 1; count = 1; first = tag; second = 0; slot = slot; verdict = 0; number = number })

abbrev posts : ℕ → ℕ → Answer
posts number slot = finished (record { slot = slot; number = number })

abbrev pub called : List Answer
called =
    (done ∷ done ∷ done ∷ takes 0 0 0 ∷ takes 1 1 1 ∷ posts 0 0 ∷ done ∷ posts 1 1
    ∷ refused 34 ∷ takes 2 0 2 ∷ refused 33 ∷ done ∷ posts 2 0 ∷ done ∷ done ∷ done ∷ refused 9 ∷ [])
    ++ (done ∷ done ∷ done ∷ takes 3 0 0 ∷ refused 33 ∷ takes 4 1 1 ∷ posts 3 0 ∷ done ∷ posts 4 1 ∷ refused 35 ∷ [])

-- what is answered; how the first ring stood at its creation; and of the second lifetime the head writes, the size, the bytes and what the
-- reader finds: the last entry alone
pub two_lifetimes : (map (λ s. s.outcome.answer) (all_steps c example.runs) ≡ called)
    × (phase_in (part old 4096 (16 * 2)) 0 ≡ 1)
    × (head_writes example ≡ 1 ∷ [])
    × (size_of example ≡ 3)
    × (ring_bytes example
    ≡ completion_bytes (completion 80 2 1 20 8) 1 ++ completion_bytes (completion 81 2 1 21 9) 1 ++ replicate 16 0)
    × (reader (ring_bytes example) (size_of example) (head_writes example) ≡ completion 81 2 1 21 9 ∷ [])
unfolding old first_calls anew second_calls undisturbed example settle is_set first count mask_of some_below taken_one given_back le le_at part put
    completion_bytes submission_at next distance phase_after ring.valid_tail ring.valid_head outstanding some_ring share_byte shares outside
    create.create_cq_refusal create.create_sq_refusal create.create_cq create.create_sq delete.busy delete.named delete.delete_cq_refusal
    delete.delete_sq_refusal delete.delete_cq delete.delete_sq doorbell.tail_refusal doorbell.tail_write doorbell.head_refusal doorbell.head_write
    in_use verdict_one starting.candidate_at starting.candidates starting.entry_at starting.is_pair starting.one_taken starting.take_one
    starting.start finishing.full finishing.finish_refusal finishing.status_of finishing.released finishing.unlinked finishing.posted
    finishing.finished_controller finishing.finish arbiter.choice arbiter.by_group turns.turn turns.next_after word.burst_of reader found
    read_count read_slots slot_in phase_in completion_at phase_tag
two_lifetimes = (refl, refl, refl, refl, refl, refl)

-- so that alone, by demand 3, was posted in this lifetime and is not yet released; what the first left unread is not among it
pub example_unreleased : unreleased example ≡ completion 81 2 1 21 9 ∷ []
example_unreleased = sym (demand3 example) ∙ two_lifetimes.5
