-- Starting commands.
use Rattle.std.specs.Prelude.{ℕ, ◌+◌, ◌*◌, ◌%◌, Bool, not, ◌&&◌, [], ◌∷◌, ltb, leb, eqb, length, set, Option, Some, None}
use Rattle.rules.specs.Rules.{pick, Table, first_match, settle}
use Rattle.bits.specs.Bits.{mask_of}
use Rattle.bits.specs.Tags.{taken_one, taken_two, one_answer, two_answer}
use Rattle.le.specs.Memory.{Memory, part}
use Rattle.entry.specs.Submission.{submission_at}
use Rattle.entry.specs.declared.submission.Submission.{Submission}
use Rattle.ring.specs.Slots.{next, distance}
use Rattle.arbiter.specs.Arbiter.{choice, chosen_answer}
use Rattle.arbiter.specs.declared.Arbiter.{Arbiter}
use Rattle.arbiter.specs.declared.Candidates.{Candidates}
use Rattle.controller.specs.declared.Ring.{Ring}
use Rattle.controller.specs.declared.SubmissionQueue.{SubmissionQueue}
use Rattle.controller.specs.declared.Command.{Command}
use Rattle.controller.specs.Controller.{Controller}
use Rattle.controller.specs.State.{sq_at, sq_with_ring, with_head, with_sq, with_commands, with_next_number}
use Rattle.controller.specs.Rings.{outside}
use Rattle.controller.specs.Answers.{Outcome, outcome, started, refusing}
use Rattle.controller.specs.Verdict.{in_use, verdict_one, verdict_pair}

-- document 01's term: "A candidate is an unmarked SQ that is not empty."
unfoldable pub candidate_at : Controller → ℕ → Bool
candidate_at c i =
    let q = sq_at c i in q.ring.exists && (not q.marked && not (eqb q.ring.head q.ring.tail))

-- a candidate of a class
abbrev pub class_at : Controller → ℕ → ℕ → Bool
class_at c class i = candidate_at c i && eqb (sq_at c i).class class

unfoldable pub candidates : Controller → Candidates
candidates c =
    record {
      all = mask_of (candidate_at c) 16;
      urgent = mask_of (class_at c 0) 16;
      high = mask_of (class_at c 1) 16;
      medium = mask_of (class_at c 2) 16;
      low = mask_of (class_at c 3) 16;
    }

-- the entry in slot p of a submission ring
unfoldable pub entry_at : Memory → Ring → ℕ → Submission
entry_at m r p = submission_at (part m (r.base + 64 * p) 64)

-- FUSE 1 at the head with "a submitted follower of FUSE 2", on an SQ other than 0; "The pair wraps from last slot to first"
unfoldable pub is_pair : ℕ → Ring → Memory → Bool
is_pair id r m =
    not (eqb id 0)
    && (eqb (entry_at m r r.head).fuse 1
    && (leb 2 (distance r.size r.head r.tail) && eqb (entry_at m r (next r.size r.head)).fuse 2))

-- "the SQ head moves past what is taken"
abbrev pub passed : SubmissionQueue → ℕ → SubmissionQueue
passed q n = sq_with_ring q (with_head q.ring ((q.ring.head + n) % q.ring.size))

abbrev pub command : ℕ → ℕ → ℕ → ℕ → ℕ → ℕ → Command
command sq cid verdict first second number =
    record { sq = sq; cid = cid; verdict = verdict; first = first; second = second; number = number }

-- the entry e at the head of queue id is taken with the tag t and the next start number
unfoldable pub one_taken : Controller → Memory → ℕ → Arbiter → Submission → ℕ → ℕ → ℕ → Outcome
one_taken c m id a e v t left =
    let n = c.next_number in
    outcome
    (started (record { sq = id; count = 1; first = t; second = 0; slot = (sq_at c id).ring.head; verdict = v; number = n }))
    (with_next_number
    (with_commands (with_sq c id (passed (sq_at c id) 1)) (set c.commands t (command id e.cid v 0 0 n)) left a)
    (n + 1))
    m

-- the entries e and f at the head of queue id are taken with the tags t and u, each linked to the other, "a pair taking two in order"
unfoldable pub pair_taken : Controller → Memory → ℕ → Arbiter → Submission → Submission → ℕ → ℕ → ℕ → ℕ → Outcome
pair_taken c m id a e f v t u left =
    let n = c.next_number in
    outcome
    (started (record { sq = id; count = 2; first = t; second = u; slot = (sq_at c id).ring.head; verdict = v; number = n }))
    (with_next_number
    (with_commands (with_sq c id (passed (sq_at c id) 2))
    (set (set c.commands t (command id e.cid v 0 (u + 1) n)) u (command id f.cid v (t + 1) 0 (n + 1))) left a)
    (n + 2))
    m

-- the largest start number
abbrev pub last_number : ℕ
last_number = 18446744073709551614

-- "A start that would need a number above 18,446,744,073,709,551,614 is refused with 32": n is the highest that it needs
abbrev pub number_rules : ℕ → Table
number_rules n = (ltb last_number n, 32) ∷ []

abbrev pub with_numbers : Controller → Memory → ℕ → Outcome → Outcome
with_numbers c m n taken = settle (first_match (number_rules n)) (refusing c m) taken

-- "If the chosen SQ needs more than are free, the answer is 13", and 32 stands "after 13 in the order".
abbrev pub with_one : Controller → Memory → (ℕ → ℕ → Outcome) → Option (ℕ × ℕ) → Outcome
with_one c m f None = refusing c m (one_answer c.free None).0
with_one c m f (Some (t, left)) = with_numbers c m c.next_number (f t left)

abbrev pub with_two : Controller → Memory → (ℕ → ℕ → ℕ → Outcome) → Option (ℕ × ℕ × ℕ) → Outcome
with_two c m f None = refusing c m (two_answer c.free None).0
with_two c m f (Some (t, u, left)) = with_numbers c m (c.next_number + 1) (f t u left)

-- whether the CID of an entry of queue id is in use
abbrev pub used : Controller → ℕ → Submission → Bool
used c id e = in_use c.commands c.free id e.cid

-- the entry at the head of queue id, and the one after it
abbrev pub head_entry : Controller → Memory → ℕ → Submission
head_entry c m id = let r = (sq_at c id).ring in entry_at m r r.head

abbrev pub next_entry : Controller → Memory → ℕ → Submission
next_entry c m id = let r = (sq_at c id).ring in entry_at m r (next r.size r.head)

-- the verdict on the entry e of queue id, taken alone, and on e and f as a pair
abbrev pub one_verdict : Controller → ℕ → Submission → ℕ
one_verdict c id e = verdict_one id e (used c id e)

abbrev pub pair_verdict : Controller → ℕ → Submission → Submission → ℕ
pair_verdict c id e f = verdict_pair e f (used c id e) (used c id f)

-- the entry e, or the pair e and f, is taken from the head of queue id, if tags and numbers are left
unfoldable pub take_one : Controller → Memory → ℕ → Arbiter → Submission → Outcome
take_one c m id a e = with_one c m (one_taken c m id a e (one_verdict c id e)) (taken_one c.free)

unfoldable pub take_pair : Controller → Memory → ℕ → Arbiter → Submission → Submission → Outcome
take_pair c m id a e f = with_two c m (pair_taken c m id a e f (pair_verdict c id e f)) (taken_two c.free)

-- "One start takes one command, or a whole pair": from the queue chosen, and 12 where there is none
abbrev pub take_from : Controller → Memory → Option (ℕ × Arbiter) → Outcome
take_from c m None = refusing c m (chosen_answer c.arbiter None).0
take_from c m (Some (id, a)) =
    pick (is_pair id (sq_at c id).ring m) (take_pair c m id a (head_entry c m id) (next_entry c m id)) (take_one c m id a (head_entry c m id))

-- "start 5, 12, 13", then 32: 12 is answered by the choice, 13 by the tags, 32 by the next number
abbrev pub start_rules : Controller → ℕ → Table
start_rules c n = (outside c n, 5) ∷ []

unfoldable pub start : Controller → Memory → Outcome
start c m =
    settle (first_match (start_rules c (length m))) (refusing c m)
    (take_from c m (choice c.arbiter (candidates c)))
