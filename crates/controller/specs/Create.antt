-- Creating queues.
use Rattle.std.specs.Prelude.{ℕ, ◌+◌, ◌*◌, ◌%◌, Bool, true, false, not, ◌||◌, [], ◌∷◌, ltb, eqb, length}
use Rattle.rules.specs.Rules.{pick, Table, first_match, settle}
use Rattle.le.specs.Memory.{Memory}
use Rattle.ring.specs.Slots.{wrong_size}
use Rattle.controller.specs.declared.Ring.{Ring}
use Rattle.controller.specs.declared.SubmissionQueue.{SubmissionQueue}
use Rattle.controller.specs.declared.CompletionQueue.{CompletionQueue}
use Rattle.controller.specs.Controller.{Controller}
use Rattle.controller.specs.State.{sq_at, cq_at, with_sq, with_cq}
use Rattle.controller.specs.Rings.{shares}
use Rattle.controller.specs.Answers.{Outcome, outcome, done, refusing}

-- the refusals of a new ring of size entries at base in n bytes of memory
abbrev pub ring_rules : Controller → ℕ → ℕ → ℕ → ℕ → Table
ring_rules c n entry size base =
    (wrong_size size, 3)
    ∷ (not (eqb (base % 4096) 0), 4)
    ∷ (ltb n (base + entry * size), 5)
    ∷ (shares c base (entry * size), 6)
    ∷ []

-- "create CQ 1, 2, 3, 4, 5, 6"
abbrev pub create_cq_rules : Controller → ℕ → ℕ → ℕ → ℕ → Table
create_cq_rules c n id size base = (ltb 15 id, 1) ∷ ((cq_at c id).ring.exists, 2) ∷ ring_rules c n 16 size base

-- "the SQ names a CQ that does not exist; or SQ 0 a CQ other than 0; or another SQ the CQ 0"
abbrev pub wrong_cq : Controller → ℕ → ℕ → Bool
wrong_cq c id cq = not (cq_at c cq).ring.exists || pick (eqb id 0) (not (eqb cq 0)) (eqb cq 0)

-- "create SQ 1, 2, 8, 7, 3, 4, 5, 6"
abbrev pub create_sq_rules : Controller → ℕ → ℕ → ℕ → ℕ → ℕ → ℕ → Table
create_sq_rules c n id size base cq class =
    (ltb 15 id, 1) ∷ ((sq_at c id).ring.exists, 2) ∷ (ltb 3 class, 8) ∷ (wrong_cq c id cq, 7) ∷ ring_rules c n 64 size base

unfoldable pub create_cq_refusal : Controller → ℕ → ℕ → ℕ → ℕ → ℕ
create_cq_refusal c n id size base = first_match (create_cq_rules c n id size base)

unfoldable pub create_sq_refusal : Controller → ℕ → ℕ → ℕ → ℕ → ℕ → ℕ → ℕ
create_sq_refusal c n id size base cq class = first_match (create_sq_rules c n id size base cq class)

-- "A new queue has head = tail = 0."
abbrev pub new_ring : ℕ → ℕ → Ring
new_ring size base = record { exists = true; base = base; size = size; head = 0; tail = 0 }

-- the phase tag "written is 1 in the first pass"
abbrev pub new_cq : ℕ → ℕ → CompletionQueue
new_cq size base = record { ring = new_ring size base; phase = 1 }

abbrev pub new_sq : ℕ → ℕ → ℕ → ℕ → SubmissionQueue
new_sq size base cq class = record { ring = new_ring size base; marked = false; cq = cq; class = class }

unfoldable pub create_cq : Controller → Memory → ℕ → ℕ → ℕ → Outcome
create_cq c m id size base =
    settle (create_cq_refusal c (length m) id size base) (refusing c m)
    (outcome done (with_cq c id (new_cq size base)) m)

unfoldable pub create_sq : Controller → Memory → ℕ → ℕ → ℕ → ℕ → ℕ → Outcome
create_sq c m id size base cq class =
    settle (create_sq_refusal c (length m) id size base cq class) (refusing c m)
    (outcome done (with_sq c id (new_sq size base cq class)) m)
