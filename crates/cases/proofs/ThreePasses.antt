-- Demand 3 is not empty: document 01's CQ of size 2, over three passes and into a fourth. Assumes nothing.
use Prim.Native.Nat.{ℕ, ◌*◌, ◌<◌}
use mathlib.Core.Bool.{false}
use mathlib.Core.List.{List, [], ◌∷◌, ◌++◌}
use mathlib.Core.Path.{◌≡◌, refl, sym, ◌∙◌}
use lib.ListN.{replicate}
use Rattle.rules.specs.Rules.{settle}
use Rattle.bits.specs.Bits.{is_set, first, mask_of, some_below}
use Rattle.bits.specs.Tags.{taken_one, given_back}
use Rattle.le.specs.Le.{le, le_at}
use Rattle.le.specs.Memory.{Memory, part, put, Bytes}
use Rattle.entry.specs.Completion.{completion, completion_bytes, completion_at, phase_tag}
use Rattle.entry.specs.Submission.{submission_at}
use Rattle.ring.specs.Slots.{next, distance, phase_after}
use Rattle.ring.specs.Doorbell as ring
use Rattle.ring.specs.Reader.{slot_in, phase_in, read_count, read_slots, found}
use Rattle.arbiter.specs.Turns as turns
use Rattle.arbiter.specs.Arbiter as arbiter
use Rattle.arbiter.specs.Word as word
use Rattle.controller.specs.State.{outstanding, fresh_controller}
use Rattle.controller.specs.Rings.{some_ring, share_byte, shares, outside}
use Rattle.controller.specs.Create as create
use Rattle.controller.specs.Doorbell as doorbell
use Rattle.controller.specs.Verdict.{in_use, verdict_one}
use Rattle.controller.specs.Starting as starting
use Rattle.controller.specs.Finishing as finishing
use Rattle.controller.specs.Answers.{Answer, refused, done, started, finished}
use Rattle.controller.specs.Calls.{Call, create_cq, create_sq, tail_write, head_write, start, finish}
use Rattle.controller.specs.Steps.{answers}
use Rattle.controller.specs.Demand.{reader, History, ring_bytes, size_of, head_writes, unreleased}
use Rattle.controller.proofs.Demand.{demand3}
use Rattle.controller.proofs.Undisturbed.{undisturbed}
use Rattle.cases.proofs.Tested.{low_bytes, clear_is, entry}

-- the completion ring at 0 is clear, and the submission ring at 4,096 holds four entries
unfoldable pub memory : Memory
memory = replicate 4096 0 ++ entry 1 0 10 ++ entry 1 0 11 ++ entry 1 0 12 ++ entry 1 0 13

-- "one posting, then 17; head write 1; slot 1 with tag 1; head write 0; slot 0 with tag 0": the first pass, and on to the fourth
unfoldable pub calls : List Call
calls =
    create_sq 0 4 4096 0 0 ∷ tail_write 0 3 ∷ start ∷ start ∷ start
    ∷ finish 0 5 77 ∷ finish 1 6 78 ∷ head_write 0 1 ∷ finish 1 6 78
    ∷ head_write 0 0 ∷ finish 2 7 79 ∷ tail_write 0 2 ∷ start ∷ start ∷ start ∷ head_write 0 1 ∷ finish 0 8 80
    ∷ head_write 0 0 ∷ finish 1 9 81 ∷ head_write 0 1 ∷ finish 2 10 82 ∷ tail_write 0 3 ∷ start ∷ finish 0 11 83
    ∷ head_write 0 0 ∷ finish 0 11 83
    ∷ []

-- the command of a start number taken from SQ 0 with a tag out of a slot, and its completion posted to a slot
abbrev takes : ℕ → ℕ → ℕ → Answer
takes number tag slot = started (record { sq = 0; count = 1; first = tag; second = 0; slot = slot; verdict = 0; number = number })

abbrev posts : ℕ → ℕ → Answer
posts number slot = finished (record { slot = slot; number = number })

abbrev pub called : List Answer
called =
    done ∷ done ∷ done ∷ takes 0 0 0 ∷ takes 1 1 1 ∷ takes 2 2 2
    ∷ posts 0 0 ∷ refused 17 ∷ done ∷ posts 1 1
    ∷ done ∷ posts 2 0 ∷ done ∷ takes 3 0 3 ∷ takes 4 1 0 ∷ takes 5 2 1 ∷ done ∷ posts 3 1
    ∷ done ∷ posts 4 0 ∷ done ∷ posts 5 1 ∷ done ∷ takes 6 0 2 ∷ refused 17
    ∷ done ∷ posts 6 0
    ∷ []

pub bytes : Bytes memory
unfolding memory
bytes = low_bytes memory refl

pub clears : (i : ℕ) → i < 2 → phase_in (part memory 0 (16 * 2)) i ≡ 0
unfolding memory phase_in slot_in part phase_tag le_at
clears = clear_is (part memory 0 (16 * 2)) 2 refl

-- a history of real calls
unfoldable pub example : History
unfolding memory calls create.create_cq_refusal shares some_ring some_below first
example = undisturbed false 0 [] tt 0 2 0 memory bytes refl clears calls refl refl

-- what is answered, what the ring holds after it, and what the reader finds: the last entry alone, in slot 0 with tag 0
pub three_passes : (answers (fresh_controller false 0) memory (create_cq 0 2 0 ∷ calls) ≡ called)
    × (head_writes example ≡ 1 ∷ 0 ∷ 1 ∷ 0 ∷ 1 ∷ 0 ∷ [])
    × (ring_bytes example ≡ completion_bytes (completion 83 3 0 12 11) 0 ++ completion_bytes (completion 82 2 0 11 10) 1)
    × (reader (ring_bytes example) (size_of example) (head_writes example) ≡ completion 83 3 0 12 11 ∷ [])
unfolding memory calls undisturbed example settle is_set first mask_of some_below taken_one given_back le le_at part put completion_bytes
    submission_at next distance phase_after ring.valid_tail ring.valid_head outstanding some_ring share_byte shares outside create.create_cq_refusal
    create.create_sq_refusal create.create_cq create.create_sq doorbell.tail_refusal doorbell.tail_write doorbell.head_refusal
    doorbell.head_write in_use
    verdict_one starting.candidate_at starting.candidates starting.entry_at starting.is_pair starting.one_taken
    starting.take_one starting.start finishing.full finishing.finish_refusal finishing.status_of finishing.released finishing.unlinked
    finishing.posted finishing.finished_controller finishing.finish arbiter.choice arbiter.by_group turns.turn turns.next_after
    word.burst_of reader found read_count read_slots slot_in phase_in completion_at phase_tag
three_passes = (refl, refl, refl, refl)

-- so that alone, by demand 3, was posted and is not yet released
pub example_unreleased : unreleased example ≡ completion 83 3 0 12 11 ∷ []
example_unreleased = sym (demand3 example) ∙ three_passes.3
