-- The second half of demand 3, of two queues with different ids: the completion queue of HostWrites, and CQ 0 of another controller. Both
-- rings have 2 entries and one head write, of 1, was accepted at each; what waits in them differs, and so do their bytes. Assumes nothing.
use Prim.Native.Nat.{ℕ}
use mathlib.Core.Bool.{false}
use mathlib.Core.List.{List, [], ◌∷◌}
use mathlib.Core.Path.{◌≡◌, refl, sym, ap, ◌∙◌}
use native.Mathlib.Omega.{arith}
use Rattle.rules.specs.Rules.{settle}
use Rattle.bits.specs.Bits.{is_set, first, mask_of, some_below}
use Rattle.bits.specs.Tags.{taken_one, given_back}
use Rattle.le.specs.Le.{le, le_at}
use Rattle.le.specs.Memory.{part, put}
use Rattle.entry.specs.Completion.{completion, completion_bytes, completion_at, phase_tag}
use Rattle.entry.specs.declared.completion.Completion.{Completion}
use Rattle.entry.specs.Submission.{submission_at}
use Rattle.ring.specs.Slots.{next, distance, phase_after}
use Rattle.ring.specs.Doorbell as ring
use Rattle.ring.specs.Reader.{slot_in, phase_in, read_count, read_slots, found}
use Rattle.arbiter.specs.Turns as turns
use Rattle.arbiter.specs.Arbiter as arbiter
use Rattle.arbiter.specs.Word as word
use Rattle.controller.specs.State.{outstanding}
use Rattle.controller.specs.Rings.{some_ring, share_byte, shares, outside}
use Rattle.controller.specs.Create as create
use Rattle.controller.specs.Doorbell as doorbell
use Rattle.controller.specs.Verdict.{in_use, verdict_one}
use Rattle.controller.specs.Starting as starting
use Rattle.controller.specs.Finishing as finishing
use Rattle.controller.specs.Calls.{Call, create_sq, tail_write, head_write, start, finish}
use Rattle.controller.specs.Demand.{reader, History, ring_bytes, size_of, head_writes, unreleased}
use Rattle.controller.proofs.Demand.{demand3, demand3_apart}
use Rattle.controller.proofs.Undisturbed.{undisturbed}
use Rattle.cases.proofs.ThreePasses.{memory, bytes, clears}
use Rattle.cases.proofs.HostWrites as other

-- CQ 0 has 2 entries; two commands of SQ 0 are posted, and the first is released
unfoldable pub calls : List Call
calls =
    create_sq 0 4 4096 0 0 ∷ tail_write 0 3 ∷ start ∷ start ∷ finish 0 5 77 ∷ head_write 0 1 ∷ finish 1 6 78 ∷ []

unfoldable pub example : History
unfolding memory calls create.create_cq_refusal shares some_ring some_below first
example = undisturbed false 0 [] tt 0 2 0 memory bytes refl clears calls refl refl

pub computed : (size_of example ≡ 2)
    × (head_writes example ≡ 1 ∷ [])
    × (reader (ring_bytes example) (size_of example) (head_writes example) ≡ completion 78 2 0 11 6 ∷ [])
unfolding memory calls undisturbed example settle is_set first mask_of some_below taken_one given_back le le_at part put completion_bytes
    submission_at next distance phase_after ring.valid_tail ring.valid_head outstanding some_ring share_byte shares outside create.create_cq_refusal
    create.create_sq_refusal create.create_cq create.create_sq doorbell.tail_refusal doorbell.tail_write doorbell.head_refusal
    doorbell.head_write in_use
    verdict_one starting.candidate_at starting.candidates starting.entry_at starting.is_pair starting.one_taken
    starting.take_one starting.start finishing.full finishing.finish_refusal finishing.status_of finishing.released finishing.unlinked
    finishing.posted finishing.finished_controller finishing.finish arbiter.choice arbiter.by_group turns.turn turns.next_after
    word.burst_of reader found read_count read_slots slot_in phase_in completion_at phase_tag
computed = (refl, refl, refl)

-- the SQ id of the first completion
abbrev sqid : List Completion → ℕ
sqid [] = 0
sqid (e ∷ es) = e.sqid

-- what waits here was posted for SQ 0, and there for SQ 1
differ : unreleased example ≡ unreleased other.example → ⊥
differ e =
    let same : ◌≡◌ {A = List Completion} (completion 78 2 0 11 6 ∷ []) (completion 78 2 1 11 9 ∷ []) =
    sym computed.2 ∙ demand3 example ∙ e ∙ other.example_unreleased in
    absurd (omega (arith, ap (λ es. sqid es) same))

-- so do the bytes of the two rings
pub two_queues : ring_bytes example ≡ ring_bytes other.example → ⊥
two_queues =
    demand3_apart example other.example (computed.0 ∙ sym (other.host_writes).5) (computed.1 ∙ sym (other.host_writes).6) differ
