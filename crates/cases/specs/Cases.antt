-- The traced examples P1 to P11 of document 01, as one statement over the definitions, computed. Those of the controller run from a
-- fresh one by calls.
use Rattle.std.specs.Prelude.{ℕ, zero, suc, ◌*◌, ◌+◌, ◌≡◌, refl, true, false, List, [], ◌∷◌, ◌++◌, map, replicate, drop, eqb}
use Rattle.rules.specs.Rules.{pick, settle}
use Rattle.bits.specs.Bits.{is_set, first, count, mask_of, some_below}
use Rattle.bits.specs.Tags.{taken_one, taken_two, given_back}
use Rattle.le.specs.Le.{le, le_at}
use Rattle.le.specs.Memory.{Memory, part, put}
use Rattle.entry.specs.Completion.{completion, completion_bytes}
use Rattle.entry.specs.Submission.{submission_at}
use Rattle.ring.specs.Slots.{next, distance, phase_after}
use Rattle.ring.specs.Doorbell as ring
use Rattle.prp.specs.Pages.{page_size, pages_touched, split, byte_counts}
use Rattle.prp.specs.Walk.{found, after, in_memory, last_of_page, read_entry, list, data_pages, before_walk, page_walk}
use Rattle.arbiter.specs.Word.{burst_of}
use Rattle.arbiter.specs.Turns.{next_after, turn}
use Rattle.arbiter.specs.Arbiter.{choice, by_weight, by_level, by_group, level_turn, ready, some_waits, some_ready, refilled_if_due}
use Rattle.controller.specs.State.{fresh_controller, outstanding}
use Rattle.controller.specs.Rings.{some_ring, share_byte, shares, outside}
use Rattle.controller.specs.Create as create
use Rattle.controller.specs.Doorbell as doorbell
use Rattle.controller.specs.Verdict.{in_use, verdict_one, verdict_pair}
use Rattle.controller.specs.Starting as starting
use Rattle.controller.specs.Answers.{Answer, refused, done, starts_in}
use Rattle.controller.specs.Calls.{Call, create_cq, create_sq, tail_write, start}
use Rattle.controller.specs.Steps.{answers}

-- the calls n times over
abbrev pub repeated : ℕ → List Call → List Call
repeated zero xs = []
repeated (suc n) xs = xs ++ repeated n xs

-- "rings have 64 entries, SQ 0 uses CQ 0 and the others CQ 1": both CQs, and an SQ of a class with so many commands submitted. A ring
-- lies at the start of each page.
abbrev pub completion_queues : List Call
completion_queues = create_cq 0 64 0 ∷ create_cq 1 64 4096 ∷ []

abbrev pub submitted : ℕ → ℕ → ℕ → List Call
submitted id class commands = create_sq id 64 (4096 * (id + 2)) (pick (eqb id 0) 0 1) class ∷ tail_write id commands ∷ []

-- "commands have FUSE 0"
abbrev pub zeros : ℕ → Memory
zeros pages = replicate (4096 * pages) 0

-- the SQs that commands were started from, in order
abbrev pub started_from : List Answer → List ℕ
started_from [] = []
started_from (a ∷ rest) = map (λ s. s.sq) (starts_in a) ++ started_from rest

-- an SQ of size 4 whose head has passed n of the three commands submitted, and then a tail write
abbrev pub tail_after : ℕ → ℕ → List Answer
tail_after n v =
    drop (3 + n)
    (answers (fresh_controller false 0) (zeros 2)
    (create_cq 1 64 0 ∷ create_sq 1 4 4096 1 0 ∷ tail_write 1 3 ∷ repeated n (start ∷ []) ++ (tail_write 1 v ∷ [])))

unfoldable pub Cases : Type 0
Cases =
    -- P1: "Mechanism 0, burst 1, SQs 0, 1, 2 with two each"
    (started_from
    (answers (fresh_controller false 0) (zeros 5)
    (completion_queues ++ submitted 0 0 2 ++ submitted 1 0 2 ++ submitted 2 0 2 ++ repeated 6 (start ∷ [])))
    ≡ 0 ∷ 1 ∷ 2 ∷ 0 ∷ 1 ∷ 2 ∷ [])
    -- P2: "Burst 2, SQs 1 and 2 with three each"
    × (started_from
    (answers (fresh_controller false 1) (zeros 5) (completion_queues ++ submitted 1 0 3 ++ submitted 2 0 3 ++ repeated 6 (start ∷ [])))
    ≡ 1 ∷ 1 ∷ 2 ∷ 2 ∷ 1 ∷ 2 ∷ [])
    -- P3: "Mechanism 1, word 01000000h, SQ 1 high, 2 medium, 3 low, four each"
    × (started_from
    (answers (fresh_controller true 0x01000000) (zeros 6)
    (completion_queues ++ submitted 1 1 4 ++ submitted 2 2 4 ++ submitted 3 3 4 ++ repeated 12 (start ∷ [])))
    ≡ 1 ∷ 1 ∷ 2 ∷ 3 ∷ 1 ∷ 1 ∷ 2 ∷ 3 ∷ 2 ∷ 3 ∷ 2 ∷ 3 ∷ [])
    -- P4: "SQ size 4, head 0, tail 3: write 4 is refused (10), and so is write 0"
    × (tail_after 0 4 ≡ refused 10 ∷ [])
    × (tail_after 0 0 ≡ refused 10 ∷ [])
    -- P5: "Head 2, tail 3, likewise: write 1 accepted, write 2 refused"
    × (tail_after 2 1 ≡ done ∷ [])
    × (tail_after 2 2 ≡ refused 10 ∷ [])
    -- P6: "SQHD 3, SQ 1, CID 0102h, status 0, tag 1"; P7: "Status 09h, tag 0"; P8: "Status 285h, tag 1"
    × (drop 8 (completion_bytes (completion 0 3 1 0x0102 0) 1) ≡ 0x03 ∷ 0x00 ∷ 0x01 ∷ 0x00 ∷ 0x02 ∷ 0x01 ∷ 0x01 ∷ 0x00 ∷ [])
    × (drop 14 (completion_bytes (completion 0 0 0 0 0x09) 0) ≡ 0x12 ∷ 0x00 ∷ [])
    × (drop 14 (completion_bytes (completion 0 0 0 0 0x285) 1) ≡ 0x0B ∷ 0x05 ∷ [])
    -- P9: "PRP1 1004h, length 4,096, page 4,096: 4,092 bytes, then 4 at PRP2; 0 entries read"
    × (page_walk [] 0x1004 0x7000 4096 0 16 8 ≡ found (0x1004 ∷ 0x7000 ∷ []) 0)
    × (byte_counts (page_size 0) 0x1004 4096 2 ≡ 4092 ∷ 4 ∷ [])
    -- P10: "PRP1 1000h, length 16,384, valid list at 2000h: 3 read"; P11: "The same with the list at 2FF8h: 4 read"
    × (page_walk (zeros 2 ++ le 8 0x5000 ++ le 8 0x6000 ++ le 8 0x7000) 0x1000 0x2000 16384 0 32 16 ≡ found
    (0x1000 ∷ 0x5000 ∷ 0x6000 ∷ 0x7000 ∷ []) 3)
    × (page_walk (zeros 1 ++ le 8 0x5000 ++ le 8 0x6000 ++ le 8 0x7000 ++ replicate 0x1FE0 0 ++ le 8 0x1000) 0x1000 0x2FF8 16384 0 32 16
    ≡ found (0x1000 ∷ 0x5000 ∷ 0x6000 ∷ 0x7000 ∷ []) 4)

pub cases : Cases
unfolding Cases settle is_set first count mask_of some_below taken_one taken_two given_back le le_at part put completion_bytes submission_at next
    distance phase_after ring.valid_tail ring.valid_head page_size pages_touched split byte_counts after in_memory last_of_page read_entry list
    data_pages before_walk page_walk burst_of next_after turn choice by_weight by_level by_group level_turn ready some_waits some_ready refilled_if_due
    outstanding some_ring share_byte shares outside create.create_cq_refusal create.create_sq_refusal create.create_cq create.create_sq
    doorbell.tail_refusal doorbell.tail_write in_use verdict_one verdict_pair starting.candidate_at starting.candidates starting.entry_at
    starting.is_pair starting.one_taken starting.pair_taken starting.take_one starting.take_pair starting.start
cases = (refl, refl, refl, refl, refl, refl, refl, refl, refl, refl, refl, refl, refl, refl)
