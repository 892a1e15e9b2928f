-- Deleting queues.
use Rattle.std.specs.Prelude.{ℕ, Bool, not, ◌&&◌, [], ◌∷◌, ltb, eqb}
use Rattle.rules.specs.Rules.{Table, first_match, settle}
use Rattle.bits.specs.Bits.{some_below}
use Rattle.le.specs.Memory.{Memory}
use Rattle.controller.specs.Controller.{Controller}
use Rattle.controller.specs.State.{no_sq, no_cq, sq_at, cq_at, command_at, outstanding, with_sq, with_cq}
use Rattle.controller.specs.Answers.{Outcome, outcome, done, refusing}

-- the command of tag t is outstanding and was taken from SQ id
abbrev pub taken_from : Controller → ℕ → ℕ → Bool
taken_from c id t = outstanding c.free t && eqb (command_at c t).sq id

-- SQ id "has outstanding commands"
unfoldable pub busy : Controller → ℕ → Bool
busy c id = some_below 64 (taken_from c id)

-- SQ i exists and names CQ id
abbrev pub naming : Controller → ℕ → ℕ → Bool
naming c id i = (sq_at c i).ring.exists && eqb (sq_at c i).cq id

-- "an SQ names" CQ id
unfoldable pub named : Controller → ℕ → Bool
named c id = some_below 16 (naming c id)

-- "Order: 1, 35, 9, 33 or 34": of a queue, whether it exists, and whether it is in use, which has the number n
abbrev pub delete_rules : ℕ → Bool → Bool → ℕ → Table
delete_rules id exists in_use n = (ltb 15 id, 1) ∷ (eqb id 0, 35) ∷ (not exists, 9) ∷ (in_use, n) ∷ []

abbrev pub delete_sq_rules : Controller → ℕ → Table
delete_sq_rules c id = delete_rules id (sq_at c id).ring.exists (busy c id) 33

abbrev pub delete_cq_rules : Controller → ℕ → Table
delete_cq_rules c id = delete_rules id (cq_at c id).ring.exists (named c id) 34

unfoldable pub delete_sq_refusal : Controller → ℕ → ℕ
delete_sq_refusal c id = first_match (delete_sq_rules c id)

unfoldable pub delete_cq_refusal : Controller → ℕ → ℕ
delete_cq_refusal c id = first_match (delete_cq_rules c id)

-- A deleted queue is as one that never was: its entries and its mark are gone, and "A deleted id and its bytes may be used again".
-- "Turn holders and remainders stay as numbers."
unfoldable pub delete_sq : Controller → Memory → ℕ → Outcome
delete_sq c m id = settle (delete_sq_refusal c id) (refusing c m) (outcome done (with_sq c id no_sq) m)

unfoldable pub delete_cq : Controller → Memory → ℕ → Outcome
delete_cq c m id = settle (delete_cq_refusal c id) (refusing c m) (outcome done (with_cq c id no_cq) m)
