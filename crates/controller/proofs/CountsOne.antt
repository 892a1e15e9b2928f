-- A start counts as one turn of the arbiter, whether it takes one command or a pair. Assumes nothing.
use Rattle.std.specs.Prelude.{Some}
use mathlib.Core.Path.{◌≡◌}
use Rattle.le.specs.Memory.{Memory}
use Rattle.arbiter.specs.Arbiter.{choice}
use Rattle.controller.specs.Controller.{Controller}
use Rattle.controller.specs.Starting.{candidates, one_taken, pair_taken}
use Rattle.controller.specs.Answers.{StartAnswer, started}
use Rattle.controller.specs.Calls.{start, Reachable, perform}
use Rattle.controller.proofs.Made.{of_start}
use Rattle.controller.proofs.Validity.{valid}

-- "One start takes one command, or a whole pair, and counts as one": the queue that the answer names was chosen, and the arbiter left is
-- the one that the choice leaves
pub counts_one : {c : Controller} → Reachable c → (m : Memory) {s : StartAnswer} → (perform c m start).answer ≡ started s
    → choice c.arbiter (candidates c) ≡ Some (s.sq, (perform c m start).controller.arbiter)
unfolding one_taken pair_taken
counts_one {c} r m e =
    of_start c m (λ s d. choice c.arbiter (candidates c) ≡ Some (s.sq, d.arbiter))
    (λ id a t left s p w. s.choice) (λ id a t u left s p w. s.choice) (valid r).free_64 e
