-- Refusal 32, computed: no list of calls gets as far, so the next start number is set in the record. Assumes nothing.
use Prim.Native.Nat.{ℕ}
use mathlib.Core.Bool.{false}
use mathlib.Core.List.{List, [], ◌∷◌, ◌++◌}
use mathlib.Core.Path.{◌≡◌, refl}
use lib.ListN.{replicate}
use Rattle.rules.specs.Rules.{settle}
use Rattle.bits.specs.Bits.{is_set, first, count, mask_of, some_below}
use Rattle.bits.specs.Tags.{taken_one, taken_two}
use Rattle.le.specs.Le.{le_at}
use Rattle.le.specs.Memory.{Memory, part}
use Rattle.entry.specs.Submission.{submission_at}
use Rattle.ring.specs.Slots.{next, distance}
use Rattle.ring.specs.Doorbell as ring
use Rattle.arbiter.specs.Word as word
use Rattle.arbiter.specs.Turns as turns
use Rattle.arbiter.specs.Arbiter as arbiter
use Rattle.controller.specs.Controller.{Controller}
use Rattle.controller.specs.State.{outstanding, fresh_controller, with_commands, with_next_number}
use Rattle.controller.specs.Rings.{some_ring, share_byte, shares, outside}
use Rattle.controller.specs.Verdict.{in_use, verdict_one, verdict_pair}
use Rattle.controller.specs.Answers.{Answer, refused, started, refusing}
use Rattle.controller.specs.Create as create
use Rattle.controller.specs.Doorbell as doorbell
use Rattle.controller.specs.Starting as starting
use Rattle.controller.specs.Calls.{create_cq, create_sq, tail_write, start, perform}
use Rattle.controller.specs.Steps.{final, given}
use Rattle.controller.specs.Numbers.{numbers_in}
use Rattle.cases.proofs.Tested.{entry}

-- the completion ring at 0 is clear; the submission ring at 4,096 holds single commands, or a pair
unfoldable pub singles : Memory
singles = replicate 4096 0 ++ entry 1 0 10 ++ entry 1 0 11 ++ replicate 128 0

unfoldable pub pair : Memory
pair = replicate 4096 0 ++ entry 5 1 10 ++ entry 1 2 11 ++ replicate 128 0

-- CQ 1 has 2 entries, SQ 1 has 4, of which two are submitted; the next start number is n
unfoldable pub ready : ℕ → Controller
ready n =
    with_next_number (final (fresh_controller false 0) (given (fresh_controller false 0) singles
    (create_cq 1 2 0 ∷ create_sq 1 4 4096 1 0 ∷ tail_write 1 2 ∷ []))) n

-- and only the tags of a mask are free
abbrev freeing : Controller → ℕ → Controller
freeing c mask = with_commands c c.commands mask c.arbiter

-- a start took one command, or a pair, of start number n
abbrev one : ℕ → Answer
one n = started (record { sq = 1; count = 1; first = 0; second = 0; slot = 0; verdict = 0; number = n })

abbrev two : ℕ → Answer
two n = started (record { sq = 1; count = 2; first = 0; second = 1; slot = 0; verdict = 0; number = n })

-- what a start answers, the numbers of the commands that it took, and the next number that it leaves
abbrev started_at : Memory → ℕ → Answer × List ℕ × ℕ
started_at m n = let o = perform (ready n) m start in (o.answer, numbers_in o.controller o.answer, o.controller.next_number)

-- a start that is refused with 32 changes nothing
abbrev Numberless : Memory → ℕ → Type 0
Numberless m n = perform (ready n) m start ≡ refusing (ready n) m 32

-- one command: one below the last number, the last, and past it
pub single : (started_at singles 18446744073709551613 ≡ (one 18446744073709551613, 18446744073709551613 ∷ [], 18446744073709551614))
    × (started_at singles 18446744073709551614 ≡ (one 18446744073709551614, 18446744073709551614 ∷ [], 18446744073709551615))
    × Numberless singles 18446744073709551615
unfolding singles ready settle is_set first count mask_of some_below taken_one le_at part submission_at next distance ring.valid_tail outstanding
    some_ring share_byte shares outside create.create_cq_refusal create.create_sq_refusal create.create_cq create.create_sq doorbell.tail_refusal
    doorbell.tail_write in_use verdict_one starting.candidate_at starting.candidates starting.entry_at starting.is_pair starting.one_taken
    starting.take_one starting.start arbiter.choice arbiter.by_group turns.turn turns.next_after word.burst_of
single = (refl, refl, refl)

-- a pair: its second number is one below the last, is the last, and is past it, by one and by two
pub paired : (started_at pair 18446744073709551612
    ≡ (two 18446744073709551612, 18446744073709551612 ∷ 18446744073709551613 ∷ [], 18446744073709551614))
    × (started_at pair 18446744073709551613
    ≡ (two 18446744073709551613, 18446744073709551613 ∷ 18446744073709551614 ∷ [], 18446744073709551615))
    × Numberless pair 18446744073709551614
    × Numberless pair 18446744073709551615
unfolding singles pair ready settle is_set first count mask_of some_below taken_two le_at part submission_at next distance ring.valid_tail
    outstanding some_ring share_byte shares outside create.create_cq_refusal create.create_sq_refusal create.create_cq create.create_sq
    doorbell.tail_refusal doorbell.tail_write in_use verdict_pair starting.candidate_at starting.candidates starting.entry_at starting.is_pair
    starting.pair_taken starting.take_pair starting.start arbiter.choice arbiter.by_group turns.turn turns.next_after word.burst_of
paired = (refl, refl, refl, refl)

-- "after 13 in the order": where no tag is free, one too few for a pair, no memory, or no command
pub after_others : ((perform (freeing (ready 18446744073709551615) 0) singles start).answer ≡ refused 13)
    × ((perform (freeing (ready 18446744073709551615) 4) pair start).answer ≡ refused 13)
    × ((perform (ready 18446744073709551615) [] start).answer ≡ refused 5)
    × ((perform (with_next_number (fresh_controller false 0) 18446744073709551615) singles start).answer ≡ refused 12)
unfolding singles pair ready settle is_set first count mask_of some_below taken_one taken_two le_at part submission_at next distance
    ring.valid_tail outstanding some_ring share_byte shares outside create.create_cq_refusal create.create_sq_refusal create.create_cq
    create.create_sq doorbell.tail_refusal doorbell.tail_write starting.candidate_at starting.candidates starting.entry_at starting.is_pair
    starting.take_one starting.take_pair starting.start arbiter.choice arbiter.by_group turns.turn turns.next_after word.burst_of
after_others = (refl, refl, refl, refl)
