-- The whole case of document 02's replay, computed; and demand 3 of a history of calls and replays. Assumes nothing.
use Prim.Native.Nat.{ℕ}
use mathlib.Core.Bool.{true, false}
use mathlib.Core.List.{List, [], ◌∷◌, ◌++◌, map}
use mathlib.Core.Path.{◌≡◌, refl, sym, ◌∙◌}
use lib.ListN.{replicate}
use Rattle.rules.specs.Rules.{settle}
use Rattle.bits.specs.Bits.{is_set, first, mask_of, some_below}
use Rattle.bits.specs.Tags.{taken_one, given_back}
use Rattle.le.specs.Le.{le, le_at}
use Rattle.le.specs.Memory.{Memory, part, put, Bytes}
use Rattle.entry.specs.Completion.{completion, completion_bytes, completion_at, phase_tag}
use Rattle.entry.specs.Submission.{submission_at}
use Rattle.ring.specs.Slots.{next, distance, phase_after}
use Rattle.ring.specs.Doorbell as ring
use Rattle.ring.specs.Reader.{slot_in, phase_in, read_count, read_slots, found}
use Rattle.arbiter.specs.Turns as turns
use Rattle.arbiter.specs.Arbiter as arbiter
use Rattle.arbiter.specs.Word as word
use Rattle.controller.specs.Controller.{Controller}
use Rattle.controller.specs.State.{cq_at, outstanding, fresh_controller}
use Rattle.controller.specs.Rings.{some_ring, share_byte, shares, outside}
use Rattle.controller.specs.Create as create
use Rattle.controller.specs.Delete as delete
use Rattle.controller.specs.Doorbell as doorbell
use Rattle.controller.specs.Verdict.{in_use, verdict_one}
use Rattle.controller.specs.Starting as starting
use Rattle.controller.specs.Finishing as finishing
use Rattle.controller.specs.Answers.{Answer, refused, done, started, finished}
use Rattle.controller.specs.Calls.{Call, create_cq, create_sq, delete_cq, delete_sq, fresh}
use Rattle.controller.specs.Steps.{Run, after_run, all_steps, after_runs}
use Rattle.controller.specs.Demand.{heads, reader, There, ring_of, History, unreleased}
use Rattle.controller.proofs.Demand.{demand3}
use Rattle.trace.specs.Record.{record_in}
use Rattle.trace.specs.Trace.{begun, records}
use Rattle.replay.specs.Replay.{answer_bytes, replay}
use Rattle.replay.specs.Runs.{replay_calls}
use Rattle.cases.proofs.Tested.{low_bytes, Shared, calling, after_writing, shared, all_narrow, shared_typed}
use Rattle.cases.proofs.Tested.{all_clear, all_kept, history, entry}

-- ---- the whole case

-- CQ 1 has 4 entries at 0; SQ 1 has 4 at 4,096, and the command with CID 7 in its slot 0
unfoldable pub memory : Memory
memory = replicate 4096 0 ++ entry 2 0 7 ++ replicate 192 0

-- four bytes, "padded with twelve zeros"
abbrev padded : ℕ → ℕ → ℕ → ℕ → List ℕ
padded a b c d = a ∷ b ∷ c ∷ d ∷ replicate 12 0

abbrev pub trace : List ℕ
trace = padded 1 1 1 0 ++ padded 3 0 0 0 ++ padded 3 0 0 0

abbrev pub answers : List ℕ
answers = padded 1 0 1 0 ++ padded 3 0 0 0 ++ padded 3 12 0 0

-- a finish with status 5, an unknown call, and a last short record whose first byte is unknown too
abbrev pub second : List ℕ
second = padded 4 0 5 0 ++ padded 9 0 0 0 ++ (9 ∷ [])

-- the queues of that case, of the class given
abbrev creation : ℕ → List Call
creation class = create_cq 1 4 0 ∷ create_sq 1 4 4096 1 class ∷ []

abbrev created : Controller
created = after_run (fresh_controller false 0) (record { memory = memory; calls = creation 0 })

unfoldable pub seen : Memory
seen = put memory 0 (completion_bytes (completion 0 1 1 7 5) 1)

-- "give 01 00 01 00, 03 00 00 00, 03 0C 00 00, each padded likewise"; bytes past them stay. After it the second trace: a posting, and
-- records that ask for no call.
pub whole_case :
    let e = replay created memory trace (replicate 50 255) in
    let f = replay e.controller e.memory second (replicate 48 255) in
    (e.answer ≡ (0, 3)) × (e.room ≡ answers ++ replicate 2 255) × (e.memory ≡ memory)
    × (f.answer ≡ (0, 3)) × (f.room ≡ padded 4 0 0 0 ++ padded 9 30 0 0 ++ padded 9 31 0 0) × (f.memory ≡ seen)
unfolding memory seen settle is_set first mask_of some_below taken_one given_back le le_at part put completion_bytes submission_at next
    distance phase_after ring.valid_tail ring.valid_head outstanding some_ring share_byte shares outside create.create_cq_refusal
    create.create_sq_refusal create.create_cq create.create_sq doorbell.tail_refusal doorbell.tail_write doorbell.head_refusal
    doorbell.head_write in_use verdict_one starting.candidate_at starting.candidates starting.entry_at starting.is_pair starting.one_taken
    starting.take_one starting.start finishing.full finishing.finish_refusal finishing.status_of finishing.released finishing.unlinked
    finishing.posted finishing.finished_controller finishing.finish arbiter.choice arbiter.by_group turns.turn turns.next_after
    word.burst_of begun records record_in answer_bytes replay
whole_case = (refl, refl, refl, refl, refl, refl)

-- ---- demand 3, under mechanism 1

abbrev c : Controller
c = fresh_controller true 0

abbrev room : List ℕ
room = replicate 48 255

-- a first lifetime of CQ 1, on a ring full of old tags into which the host writes between two replays, and which ends with an entry unread
unfoldable pub old : Memory
old = replicate 64 1 ++ replicate 4032 0 ++ entry 2 0 6 ++ replicate 192 0

unfoldable pub first_calls : List Shared
first_calls =
    calling (creation 1)
    ∷ calling (replay_calls trace room)
    ∷ after_writing 0 (9 ∷ 9 ∷ 9 ∷ []) (replay_calls second room)
    ∷ calling (delete_sq 1 ∷ delete_cq 1 ∷ [])
    ∷ []

abbrev earlier : List Run
earlier = shared c old first_calls

-- and a second one, at the same bytes, now clear, where the host writes to other bytes between two replays
unfoldable pub second_calls : List Shared
second_calls = calling (creation 2) ∷ calling (replay_calls trace room) ∷ after_writing 4160 (entry 2 0 8) (replay_calls second room) ∷ []

abbrev d : Controller
d = after_runs c earlier

abbrev later : List Run
later = shared d memory second_calls

unfoldable pub seen_later : Memory
seen_later = put (put memory 4160 (entry 2 0 8)) 0 (completion_bytes (completion 0 1 1 7 5) 1)

-- the command of a start number taken from SQ 1 with tag 0 out of slot 0, and its completion posted to slot 0
abbrev takes : ℕ → Answer
takes number = started (record { sq = 1; count = 1; first = 0; second = 0; slot = 0; verdict = 0; number = number })

abbrev posts : ℕ → Answer
posts number = finished (record { slot = 0; number = number })

abbrev pub called : List Answer
called =
    done ∷ done ∷ done ∷ takes 0 ∷ refused 12 ∷ posts 0 ∷ done ∷ done
    ∷ done ∷ done ∷ done ∷ takes 1 ∷ refused 12 ∷ posts 1 ∷ []

-- The premises, and that the first lifetime would not have met them; what is answered; and what the reader finds: of the second lifetime
-- the entry that its second replay posted.
pub replays : (all_narrow first_calls ≡ true)
    × (all_clear 1 (all_steps c earlier) ≡ false)
    × ((cq_at d 1).ring.exists ≡ false)
    × (all_narrow second_calls ≡ true)
    × (all_clear 1 (all_steps d later) ≡ true)
    × (all_kept 1 d memory later seen_later ≡ true)
    × There 1 (after_runs d later)
    × (map (λ s. s.outcome.answer) (all_steps c (earlier ++ later)) ≡ called)
    × (reader (ring_of (after_runs c (earlier ++ later)) 1 seen_later) (cq_at (after_runs c (earlier ++ later)) 1).ring.size
    (heads 1 [] (all_steps c (earlier ++ later)))
    ≡ completion 0 1 1 7 5 ∷ [])
unfolding memory old first_calls second_calls seen_later reader found read_count read_slots slot_in phase_in completion_at phase_tag
    arbiter.by_weight arbiter.by_level arbiter.refilled_if_due arbiter.some_waits arbiter.some_ready arbiter.level_turn arbiter.ready delete.busy
    delete.named delete.delete_cq_refusal delete.delete_sq_refusal delete.delete_cq delete.delete_sq replay_calls
    settle is_set first mask_of some_below taken_one given_back le le_at part put completion_bytes submission_at next
    distance phase_after ring.valid_tail ring.valid_head outstanding some_ring share_byte shares outside create.create_cq_refusal
    create.create_sq_refusal create.create_cq create.create_sq doorbell.tail_refusal doorbell.tail_write doorbell.head_refusal
    doorbell.head_write in_use verdict_one starting.candidate_at starting.candidates starting.entry_at starting.is_pair starting.one_taken
    starting.take_one starting.start finishing.full finishing.finish_refusal finishing.status_of finishing.released finishing.unlinked
    finishing.posted finishing.finished_controller finishing.finish arbiter.choice arbiter.by_group turns.turn turns.next_after
    word.burst_of begun records record_in
replays = (refl, refl, refl, refl, refl, refl, refl, refl, refl)

pub old_bytes : Bytes old
unfolding old
old_bytes = low_bytes old refl

pub bytes : Bytes memory
unfolding memory
bytes = low_bytes memory refl

abbrev pub example : History
example =
    let h = replays in
    history true 0 earlier memory second_calls 1 seen_later (shared_typed old first_calls (fresh true 0) old_bytes h.0) h.2 bytes h.3
    h.4 h.5 h.6

-- so that alone, by demand 3, was posted in this lifetime and is not yet released
pub example_unreleased : unreleased example ≡ completion 0 1 1 7 5 ∷ []
example_unreleased = sym (demand3 example) ∙ replays.8
