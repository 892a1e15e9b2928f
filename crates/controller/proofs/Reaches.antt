-- What a call, or the constructor, leaves is a controller that came from a fresh one by calls. Assumes nothing.
use Prim.Native.Nat.{ℕ}
use mathlib.Core.Bool.{false}
use mathlib.Core.Path.{◌≡◌}
use lib.Dec.{eqb}
use Rattle.rules.proofs.Cases.{settle_cases}
use Rattle.le.specs.Memory.{Memory}
use Rattle.controller.specs.Controller.{Controller}
use Rattle.controller.specs.State.{new_refusal, new_controller}
use Rattle.controller.specs.Answers.{Outcome}
use Rattle.controller.specs.Calls.{Call, perform, Reachable, fresh, after}

-- whatever the answer is, it is that of a call
pub by_call : {c : Controller} (m : Memory) (call : Call) {o : Outcome} → Reachable c → o ≡ perform c m call → Reachable o.controller
by_call m call h e = rw e (after h m call)

pub by_new : (mechanism word : ℕ) → Reachable (new_controller mechanism word)
unfolding new_controller
by_new mechanism word =
    settle_cases Reachable (new_refusal mechanism) _ _ (λ z. fresh (eqb mechanism 1) word) (λ n. fresh false 0)
