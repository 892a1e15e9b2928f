-- Doorbell writes.
use Rattle.std.specs.Prelude.{ℕ, Bool, true, not, [], ◌∷◌, ltb}
use Rattle.rules.specs.Rules.{pick, Table, first_match, settle}
use Rattle.le.specs.Memory.{Memory}
use Rattle.ring.specs.Doorbell as ring
use Rattle.controller.specs.declared.Ring.{Ring}
use Rattle.controller.specs.declared.SubmissionQueue.{SubmissionQueue}
use Rattle.controller.specs.declared.CompletionQueue.{CompletionQueue}
use Rattle.controller.specs.Controller.{Controller}
use Rattle.controller.specs.State.{sq_at, cq_at, with_sq, with_cq, with_head, with_tail, sq_with_ring, cq_with_ring}
use Rattle.controller.specs.Answers.{Outcome, outcome, refused, done, refusing}

abbrev pub valid_tail : Ring → ℕ → Bool
valid_tail r v = ring.valid_tail r.size r.head r.tail v

abbrev pub valid_head : Ring → ℕ → Bool
valid_head r v = ring.valid_head r.size r.head r.tail v

-- "tail write 1, 9, 11, 10": 10 stands apart, since it alone changes something
abbrev pub tail_rules : Controller → ℕ → Table
tail_rules c id = (ltb 15 id, 1) ∷ (not (sq_at c id).ring.exists, 9) ∷ ((sq_at c id).marked, 11) ∷ []

unfoldable pub tail_refusal : Controller → ℕ → ℕ
tail_refusal c id = first_match (tail_rules c id)

abbrev pub tail_moved : SubmissionQueue → ℕ → SubmissionQueue
tail_moved q v = sq_with_ring q (with_tail q.ring v)

abbrev pub mark : SubmissionQueue → SubmissionQueue
mark q = record { ring = q.ring; marked = true; cq = q.cq; class = q.class }

-- "A refusal changes nothing, save that 10 on a tail write marks the SQ"
unfoldable pub tail_write : Controller → Memory → ℕ → ℕ → Outcome
tail_write c m id v =
    let q = sq_at c id in
    settle (tail_refusal c id) (refusing c m)
    (pick (valid_tail q.ring v)
    (outcome done (with_sq c id (tail_moved q v)) m)
    (outcome (refused 10) (with_sq c id (mark q)) m))

-- "head write 1, 9, 10"; "A bad head write marks nothing."
abbrev pub head_rules : Controller → ℕ → ℕ → Table
head_rules c id v =
    (ltb 15 id, 1) ∷ (not (cq_at c id).ring.exists, 9) ∷ (not (valid_head (cq_at c id).ring v), 10) ∷ []

unfoldable pub head_refusal : Controller → ℕ → ℕ → ℕ
head_refusal c id v = first_match (head_rules c id v)

abbrev pub head_moved : CompletionQueue → ℕ → CompletionQueue
head_moved q v = cq_with_ring q (with_head q.ring v)

unfoldable pub head_write : Controller → Memory → ℕ → ℕ → Outcome
head_write c m id v =
    settle (head_refusal c id v) (refusing c m)
    (outcome done (with_cq c id (head_moved (cq_at c id) v)) m)
