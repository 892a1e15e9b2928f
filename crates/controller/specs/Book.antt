-- The book of demand 3: what a list of calls has posted and not yet released. It is "fed arguments, answers and each start's memory".
use Rattle.std.specs.Prelude.{ℕ, ◌+◌, ◌-◌, ◌*◌, ◌%◌, eqb, ltb, drop}
use mathlib.Core.List.{List, [], ◌∷◌, ◌++◌, foldl}
use Rattle.rules.specs.Rules.{pick}
use Rattle.le.specs.Memory.{Memory, part}
use Rattle.entry.specs.Completion.{completion}
use Rattle.entry.specs.Submission.{submission_at}
use Rattle.entry.specs.declared.completion.Completion.{Completion}
use Rattle.ring.specs.Slots.{distance}
use Rattle.controller.specs.Status.{failed_fused}
use Rattle.controller.specs.Answers.{StartAnswer, Answer, unless_refused, starts_in}
use Rattle.controller.specs.Calls.{Call, create_cq, create_sq, delete_cq, delete_sq, tail_write, head_write, start, finish}

pub record BookSq : Type 0 where
  pub cq : ℕ
  pub base : ℕ
  pub size : ℕ
  pub head : ℕ

pub record BookCq : Type 0 where
  pub size : ℕ
  pub head : ℕ
  pub phase : ℕ
  pub waiting : List Completion

-- `second` is the second half's tag plus 1, and 0 for none
pub record BookCommand : Type 0 where
  pub sq : ℕ
  pub cid : ℕ
  pub verdict : ℕ
  pub second : ℕ

pub record Book : Type 0 where
  pub sqs : ℕ → BookSq
  pub cqs : ℕ → BookCq
  pub commands : ℕ → BookCommand

-- f, with v at k
abbrev pub update : {A : Type 0} → (ℕ → A) → ℕ → A → ℕ → A
update f k v i = pick (eqb i k) v (f i)

abbrev pub with_sq : Book → ℕ → BookSq → Book
with_sq b id x = record { sqs = update b.sqs id x; cqs = b.cqs; commands = b.commands }

abbrev pub with_cq : Book → ℕ → BookCq → Book
with_cq b id x = record { sqs = b.sqs; cqs = update b.cqs id x; commands = b.commands }

abbrev pub with_command : Book → ℕ → BookCommand → Book
with_command b t x = record { sqs = b.sqs; cqs = b.cqs; commands = update b.commands t x }

-- "Creation: head 0; a CQ has phase tag 1, nothing waiting."
abbrev pub new_sq : ℕ → ℕ → ℕ → BookSq
new_sq size base cq = record { cq = cq; base = base; size = size; head = 0 }

abbrev pub new_cq : ℕ → BookCq
new_cq size = record { size = size; head = 0; phase = 1; waiting = [] }

-- what stands for a queue that does not exist
abbrev pub no_sq : BookSq
no_sq = new_sq 0 0 0

abbrev pub no_cq : BookCq
no_cq = new_cq 0

abbrev pub empty : Book
empty = record { sqs = λ i. no_sq; cqs = λ i. no_cq; commands = λ t. record { sq = 0; cid = 0; verdict = 0; second = 0 } }

-- the CID in a slot of a queue, in a memory
abbrev pub cid_in : Memory → BookSq → ℕ → ℕ
cid_in m x slot = (submission_at (part m (x.base + 64 * slot) 64)).cid

-- "each tag taken gets SQ id, verdict and its slot's CID, a pair's first half the second tag too"
abbrev pub taken : Book → Memory → ℕ → ℕ → ℕ → ℕ → ℕ → Book
taken b m sq tag slot verdict second =
    with_command b tag (record { sq = sq; cid = cid_in m (b.sqs sq) slot; verdict = verdict; second = second })

-- "the SQ head passes what is taken"
abbrev pub head_past : Book → ℕ → ℕ → Book
head_past b sq count =
    let x = b.sqs sq in with_sq b sq (record { cq = x.cq; base = x.base; size = x.size; head = (x.head + count) % x.size })

abbrev pub start_book : Memory → Book → StartAnswer → Book
start_book m b s =
    pick (eqb s.count 2)
    (head_past
    (taken (taken b m s.sq s.first s.slot s.verdict (s.second + 1)) m s.sq s.second
    ((s.slot + 1) % (b.sqs s.sq).size) s.verdict 0)
    s.sq 2)
    (head_past (taken b m s.sq s.first s.slot s.verdict 0) s.sq 1)

-- "status (the verdict, or if 0 the one given)". The book has this rule of its own, and not the controller's `status_of`: it is to be
-- independent of what it is compared with.
abbrev pub book_status : ℕ → ℕ → ℕ
book_status verdict given = pick (eqb verdict 0) given verdict

-- "if a first half's status is not 0, its second half's verdict 0 becomes 09h"
abbrev pub fail_second : Book → ℕ → ℕ → Book
fail_second b second status =
    let k = b.commands (second - 1) in
    pick (eqb second 0) b
    (pick (eqb status 0) b
    (with_command b (second - 1) (record { sq = k.sq; cid = k.cid; verdict = book_status k.verdict failed_fused; second = k.second })))

-- "result, SQ head as SQHD, SQ id, CID and status .. wait last in that SQ's CQ"
abbrev pub waits : Book → ℕ → Completion → Book
waits b id e =
    let y = b.cqs id in with_cq b id (record { size = y.size; head = y.head; phase = y.phase; waiting = y.waiting ++ (e ∷ []) })

abbrev pub finish_book : Book → ℕ → ℕ → ℕ → Book
finish_book b tag given result =
    let k = b.commands tag in
    let x = b.sqs k.sq in
    let status = book_status k.verdict given in
    fail_second (waits b x.cq (completion result x.head k.sq k.cid status)) k.second status

-- "as many as its distance from the head leave, oldest first; a value below the head turns the phase tag; it is the new head"
abbrev pub head_book : BookCq → ℕ → BookCq
head_book y v =
    record {
      size = y.size;
      head = v;
      phase = pick (ltb v y.head) (1 - y.phase) y.phase;
      waiting = drop (distance y.size y.head v) y.waiting;
    }

-- what a call that was not refused enters: "tail writes: nothing", and of deletions "they only remove the queue"
abbrev pub entered : Book → Memory → Call → Answer → Book
entered b m (create_cq id size base) a = with_cq b id (new_cq size)
entered b m (create_sq id size base cq class) a = with_sq b id (new_sq size base cq)
entered b m (delete_cq id) a = with_cq b id no_cq
entered b m (delete_sq id) a = with_sq b id no_sq
entered b m (tail_write id v) a = b
entered b m (head_write id v) a = with_cq b id (head_book (b.cqs id) v)
entered b m start a = foldl (start_book m) b (starts_in a)
entered b m (finish tag status result) a = finish_book b tag status result

-- "Refusals .. : nothing."
unfoldable pub enter : Book → Memory → Call → Answer → Book
enter b m call a = unless_refused a b (entered b m call a)
