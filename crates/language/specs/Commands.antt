-- The commands, one clause each: what each says, and what it leaves of the controller and of the memory that is lent.
use Rattle.std.specs.Prelude.{ℕ, ◌-◌, ◌*◌, ◌^◌, Bool, ◌||◌, List, [], ◌∷◌, ltb, length, get_or, take, replicate}
use Rattle.rules.specs.Rules.{pick}
use Rattle.le.specs.Le.{le}
use Rattle.le.specs.Memory.{Memory, part, put}
use Rattle.entry.specs.Submission as submission
use Rattle.entry.specs.declared.submission.Submission.{Submission}
use Rattle.entry.specs.Completion as completion
use Rattle.entry.specs.declared.completion.Completion.{Completion}
use Rattle.ring.specs.Doorbell.{tail_check, head_check}
use Rattle.ring.specs.Reader.{waiting_answer, ring_read}
use Rattle.prp.specs.Pages.{page_size, byte_counts}
use Rattle.prp.specs.Walk.{page_walk}
use Rattle.prp.specs.Answer.{answer, refusal_of, pages_of, reads_of, addresses_of}
use Rattle.arbiter.specs.Turns.{remainder_number}
use Rattle.arbiter.specs.declared.Level.{Level}
use Rattle.controller.specs.Controller.{Controller}
use Rattle.controller.specs.State.{sq_at, cq_at, command_at, outstanding, new_refusal, new_controller}
use Rattle.controller.specs.Answers.{Answer, refused, done, started, finished, number_of}
use Rattle.controller.specs.Calls as calls
use Rattle.controller.specs.Calls.{perform}
use Rattle.replay.specs.Replay.{replay}
use Rattle.print.specs.Text.{each}
use Rattle.language.specs.declared.command.Call.{Call}
use Rattle.language.specs.declared.command.Call.TheVariants as C
use Rattle.language.specs.declared.command.OnPart.{OnPart}
use Rattle.language.specs.declared.command.OnPart.TheVariants as P
use Rattle.language.specs.declared.command.Look.{Look}
use Rattle.language.specs.declared.command.Look.TheVariants as L
use Rattle.language.specs.Replies.{Said, say, bad, told, changed, Reply, reply}

-- number i of a line, counted from 0
abbrev pub nth : List ℕ → ℕ → ℕ
nth ns i = get_or ns i 0

-- ---- calls of the model

-- "On a refusal every number after it is 0."
abbrev pub start_numbers : Answer → List ℕ
start_numbers (refused n) = n ∷ replicate 7 0
start_numbers done = replicate 8 0
start_numbers (started s) =
    0 ∷ s.sq ∷ s.count ∷ s.first ∷ s.second ∷ s.slot ∷ s.verdict ∷ s.number ∷ []
start_numbers (finished f) = replicate 8 0

abbrev pub finish_numbers : Answer → List ℕ
finish_numbers (refused n) = n ∷ replicate 2 0
finish_numbers done = replicate 3 0
finish_numbers (started s) = replicate 3 0
finish_numbers (finished f) = 0 ∷ f.slot ∷ f.number ∷ []

-- a call, with the numbers of its answer
abbrev pub calling : (Answer → List ℕ) → Controller → Memory → calls.Call → Reply
calling f c m x = let o = perform c m x in reply (changed (f o.answer)) o.controller o.memory

-- one that answers its refusal number alone
abbrev pub called : Controller → Memory → calls.Call → Reply
called c m x = calling (λ a. number_of a ∷ []) c m x

unfoldable pub calls_made : Controller → Memory → Call → List ℕ → Reply
calls_made c m C.Controller ns = reply (changed (new_refusal (nth ns 0) ∷ [])) (new_controller (nth ns 0) (nth ns 1)) m
calls_made c m C.CreateCq ns = called c m (calls.create_cq (nth ns 0) (nth ns 1) (nth ns 2))
calls_made c m C.CreateSq ns = called c m (calls.create_sq (nth ns 0) (nth ns 1) (nth ns 2) (nth ns 3) (nth ns 4))
calls_made c m C.DeleteCq ns = called c m (calls.delete_cq (nth ns 0))
calls_made c m C.DeleteSq ns = called c m (calls.delete_sq (nth ns 0))
calls_made c m C.Tail ns = called c m (calls.tail_write (nth ns 0) (nth ns 1))
calls_made c m C.Head ns = called c m (calls.head_write (nth ns 0) (nth ns 1))
calls_made c m C.Start ns = calling start_numbers c m calls.start
calls_made c m C.Finish ns = calling finish_numbers c m (calls.finish (nth ns 0) (nth ns 1) (nth ns 2))

-- ---- parts of the memory

-- "a part that does not lie in the lent memory"
abbrev pub outside : Memory → ℕ → ℕ → Bool
outside m place n = ltb (length m) place || ltb (length m - place) n

-- the entry that the numbers of write-sqe give, behind place and room
abbrev pub submission_of : List ℕ → Submission
submission_of ns =
    record {
      opc = nth ns 2;
      fuse = nth ns 3;
      psdt = nth ns 4;
      cid = nth ns 5;
      nsid = nth ns 6;
      mptr = nth ns 7;
      prp1 = nth ns 8;
      prp2 = nth ns 9;
      slba = nth ns 10;
      nlb = nth ns 11;
      cdw12_upper = nth ns 12;
      cdw13 = nth ns 13;
      cdw14 = nth ns 14;
      cdw15 = nth ns 15;
    }

abbrev pub submission_numbers : ℕ × Submission → List ℕ
submission_numbers a =
    let e = a.1 in
    a.0 ∷ e.opc ∷ e.fuse ∷ e.psdt ∷ e.cid ∷ e.nsid ∷ e.mptr ∷ e.prp1 ∷ e.prp2 ∷ e.slba ∷ e.nlb ∷ e.cdw12_upper ∷ e.cdw13
    ∷ e.cdw14 ∷ e.cdw15 ∷ []

abbrev pub completion_numbers : ℕ × Completion × ℕ → List ℕ
completion_numbers a = let e = a.1 in a.0 ∷ e.result ∷ e.sqhd ∷ e.sqid ∷ e.cid ∷ e.status ∷ a.2 ∷ []

abbrev pub both : ℕ × ℕ → List ℕ
both x = x.0 ∷ x.1 ∷ []

-- what a command says of its part, and the bytes that it leaves there
unfoldable pub on_part : OnPart → List ℕ → List ℕ → Said × List ℕ
on_part P.Fill ns p = (told (length p ∷ []), replicate (length p) (nth ns 2))
on_part P.WriteSqe ns p = (changed (submission.write_refusal (length p) ∷ []), submission.written p (submission_of ns))
on_part P.ReadSqe ns p = (told (submission_numbers (submission.submission_answer (submission.submission_read p))), p)
on_part P.WriteCqe ns p = (
  changed (completion.write_refusal (length p) (nth ns 6) ∷ []),
  completion.written p (completion.completion (nth ns 2) (nth ns 3) (nth ns 4) (nth ns 5) (nth ns 6)) (nth ns 7),
)
on_part P.ReadCqe ns p = (told (completion_numbers (completion.completion_answer (completion.completion_read p))), p)
on_part P.Waiting ns p = (told (both (waiting_answer (ring_read p (nth ns 2) (nth ns 3) (nth ns 4)))), p)

-- the first two numbers are the part's place and its room
abbrev pub parts_used : Controller → Memory → OnPart → List ℕ → Reply
parts_used c m k ns =
    let r = on_part k ns (part m (nth ns 0) (nth ns 1)) in
    pick (outside m (nth ns 0) (nth ns 1)) (reply bad c m) (reply r.0 c (put m (nth ns 0) r.1))

-- values of so many bytes each, little-endian, put behind each other from a place on: "poke COUNT"
abbrev pub poked : Controller → Memory → ℕ → ℕ → List ℕ → Reply
poked c m width place vs =
    pick (outside m place (width * length vs)) (reply bad c m) (reply (told (length vs ∷ [])) c (put m place (each (le width) vs)))

abbrev pub peeked : Memory → ℕ → ℕ → Said
peeked m place n = pick (outside m place n) bad (say 0 [] (part m place n))

-- ---- the page walk

-- "ADDRESS COUNT ADDRESS COUNT .."
abbrev pub in_turn : List ℕ → List ℕ → List ℕ
in_turn [] ys = []
in_turn (x ∷ xs) [] = []
in_turn (x ∷ xs) (y ∷ ys) = x ∷ y ∷ in_turn xs ys

-- "walk REFUSAL PAGES READS .."
unfoldable pub walked : Memory → List ℕ → Said
walked m ns =
    let w = page_walk m (nth ns 0) (nth ns 1) (nth ns 2) (nth ns 3) (nth ns 4) (nth ns 5) in
    let a = answer w in
    told
    (refusal_of a ∷ pages_of a ∷ reads_of a
    ∷ in_turn (addresses_of w) (byte_counts (page_size (nth ns 3)) (nth ns 0) (nth ns 2) (pages_of a)))

-- ---- the replay

-- the answer records that were written, of a room that was all zero
unfoldable pub replayed : Controller → Memory → ℕ → List ℕ → Reply
replayed c m room trace =
    let e = replay c m trace (replicate room 0) in
    let a = e.answer in
    reply (say a.0 (both a) (take (16 * a.1) e.room)) e.controller e.memory

-- ---- what the controller holds, and the checks on plain numbers

abbrev pub bit_of : Bool → ℕ
bit_of b = pick b 1 0

abbrev pub level_numbers : Level → List ℕ → List ℕ
level_numbers l ns = l.group.holder ∷ remainder_number l.group.remainder ∷ l.credit ∷ ns

unfoldable pub looked : Controller → Look → List ℕ → List ℕ
looked c L.CheckTail ns = tail_check (nth ns 0) (nth ns 1) (nth ns 2) (nth ns 3) ∷ []
looked c L.CheckHead ns = head_check (nth ns 0) (nth ns 1) (nth ns 2) (nth ns 3) ∷ []
looked c L.ShowSq ns =
    let q = sq_at c (nth ns 0) in
    let r = q.ring in
    bit_of r.exists ∷ r.base ∷ r.size ∷ r.head ∷ r.tail ∷ q.cq ∷ q.class ∷ bit_of q.marked ∷ []
looked c L.ShowCq ns =
    let q = cq_at c (nth ns 0) in
    let r = q.ring in
    bit_of r.exists ∷ r.base ∷ r.size ∷ r.head ∷ r.tail ∷ q.phase ∷ []
looked c L.ShowTag ns =
    let k = command_at c (nth ns 0) in
    pick (outstanding c.free (nth ns 0)) (1 ∷ k.sq ∷ k.cid ∷ k.verdict ∷ k.number ∷ []) (replicate 5 0)
looked c L.ShowArbiter ns =
    let a = c.arbiter in
    bit_of a.weighted ∷ a.word ∷ a.group.holder ∷ remainder_number a.group.remainder
    ∷ level_numbers a.high (level_numbers a.medium (level_numbers a.low []))
