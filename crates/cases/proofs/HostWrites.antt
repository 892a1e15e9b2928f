-- Demand 3 of a history in which the host writes to other memory between the runs: a completion queue that is not created by the first
-- call, an I/O queue under mechanism 1, a fused pair whose first half fails, and refused calls among the others. Assumes nothing.
use mathlib.Core.Bool.{true}
use mathlib.Core.List.{List, [], ◌∷◌, ◌++◌, map, foldl}
use mathlib.Core.Path.{◌≡◌, refl, sym, ◌∙◌}
use lib.ListN.{replicate}
use Rattle.rules.specs.Rules.{settle}
use Rattle.bits.specs.Bits.{is_set, first, count, mask_of, some_below}
use Rattle.bits.specs.Tags.{taken_one, taken_two, given_back}
use Rattle.le.specs.Le.{le, le_at}
use Rattle.le.specs.Memory.{Memory, part, put, Bytes}
use Rattle.entry.specs.Completion.{completion, completion_bytes, completion_at, phase_tag}
use Rattle.entry.specs.Submission.{submission_at}
use Rattle.ring.specs.Slots.{next, distance, phase_after}
use Rattle.ring.specs.Doorbell as ring
use Rattle.ring.specs.Reader.{slot_in, phase_in, read_count, read_slots, found}
use Rattle.arbiter.specs.Turns as turns
use Rattle.arbiter.specs.Arbiter as arbiter
use Rattle.arbiter.specs.Word as word
use Rattle.controller.specs.Controller.{Controller}
use Rattle.controller.specs.State.{cq_at, outstanding, fresh_controller}
use Rattle.controller.specs.Rings.{some_ring, share_byte, shares, outside}
use Rattle.controller.specs.Create as create
use Rattle.controller.specs.Doorbell as doorbell
use Rattle.controller.specs.Verdict.{in_use, verdict_one, verdict_pair}
use Rattle.controller.specs.Starting as starting
use Rattle.controller.specs.Finishing as finishing
use Rattle.controller.specs.Answers.{Answer, refused, done, started, finished}
use Rattle.controller.specs.Calls.{create_cq, create_sq, tail_write, head_write, start, finish}
use Rattle.controller.specs.Steps.{Run, all_steps, after_runs}
use Rattle.controller.specs.Demand.{heads, reader, There, ring_of, History, unreleased}
use Rattle.controller.proofs.MemoryBytes.{bytes_zeros}
use Rattle.controller.proofs.Demand.{demand3}
use Rattle.cases.proofs.Tested.{Shared, calling, after_writing, shared, all_narrow, all_clear, all_kept, history, entry}

-- CQ 1 has 2 entries at 0, SQ 1 has 4 at 4,096, and 16 bytes behind that are the host's alone
unfoldable pub calls : List Shared
calls =
    calling (create_sq 1 4 4096 1 1 ∷ create_cq 1 2 0 ∷ create_sq 1 4 4096 1 1 ∷ [])
    ∷ after_writing 4096 (entry 5 1 10 ++ entry 1 2 11) (tail_write 1 2 ∷ tail_write 2 1 ∷ start ∷ finish 1 0 78 ∷ [])
    ∷ after_writing 4352 (1 ∷ 2 ∷ 3 ∷ []) (finish 0 5 77 ∷ finish 1 0 78 ∷ head_write 1 1 ∷ [])
    ∷ after_writing 4096 (entry 9 0 99) (finish 1 0 78 ∷ head_write 1 3 ∷ [])
    ∷ []

unfoldable pub memory : Memory
memory = replicate 4368 0

abbrev pub called : List Answer
called =
    refused 7
    ∷ done
    ∷ done
    ∷ done
    ∷ refused 9
    ∷ started (record { sq = 1; count = 2; first = 0; second = 1; slot = 0; verdict = 0; number = 0 })
    ∷ refused 16
    ∷ finished (record { slot = 0; number = 0 })
    ∷ refused 17
    ∷ done
    ∷ finished (record { slot = 1; number = 1 })
    ∷ refused 10
    ∷ []

abbrev c : Controller
c = fresh_controller true 0

abbrev runs : List Run
runs = shared c memory calls

-- the memory that the reader sees: after the last call the host has written once more
unfoldable pub seen : Memory
seen = put (foldl (λ n s. s.outcome.memory) memory (all_steps c runs)) 4355 (9 ∷ [])

-- The premises: the ring has not been created at first; it is created on bytes without a phase tag; from then on the host leaves it
-- alone. What is answered, the ring's size, the head writes, what the ring holds after it, and what the reader finds: the second half
-- alone, aborted since its first half failed.
pub host_writes : (all_narrow calls ≡ true)
    × (all_clear 1 (all_steps c runs) ≡ true)
    × (all_kept 1 c memory runs seen ≡ true)
    × There 1 (after_runs c runs)
    × (map (λ s. s.outcome.answer) (all_steps c runs) ≡ called)
    × ((cq_at (after_runs c runs) 1).ring.size ≡ 2)
    × (heads 1 [] (all_steps c runs) ≡ 1 ∷ [])
    × (ring_of (after_runs c runs) 1 seen ≡ completion_bytes (completion 77 2 1 10 5) 1 ++ completion_bytes (completion 78 2 1 11 9) 1)
    × (reader (ring_of (after_runs c runs) 1 seen) (cq_at (after_runs c runs) 1).ring.size (heads 1 [] (all_steps c runs))
    ≡ completion 78 2 1 11 9 ∷ [])
unfolding memory calls seen settle is_set first count mask_of some_below taken_one taken_two given_back le le_at part put completion_bytes
    submission_at next distance phase_after ring.valid_tail ring.valid_head outstanding some_ring share_byte shares outside
    create.create_cq_refusal create.create_sq_refusal create.create_cq create.create_sq doorbell.tail_refusal doorbell.tail_write
    doorbell.head_refusal doorbell.head_write in_use verdict_one verdict_pair starting.candidate_at starting.candidates starting.entry_at
    starting.is_pair starting.one_taken starting.pair_taken starting.take_one starting.take_pair starting.start finishing.full
    finishing.finish_refusal finishing.status_of finishing.released finishing.unlinked finishing.posted finishing.finished_controller
    finishing.finish arbiter.choice arbiter.by_group arbiter.by_weight arbiter.by_level arbiter.refilled_if_due arbiter.some_waits
    arbiter.some_ready arbiter.level_turn arbiter.ready turns.turn turns.next_after word.burst_of reader found read_count read_slots slot_in
    phase_in completion_at phase_tag
host_writes = (refl, refl, refl, refl, refl, refl, refl, refl, refl)

pub bytes : Bytes memory
unfolding memory
bytes = bytes_zeros 4368

abbrev pub example : History
example = let h = host_writes in history true 0 [] memory calls 1 seen tt refl bytes h.0 h.1 h.2 h.3

-- so that alone, by demand 3, was posted and is not yet released
pub example_unreleased : unreleased example ≡ completion 78 2 1 11 9 ∷ []
example_unreleased = sym (demand3 example) ∙ host_writes.8
