-- What a creation or deletion comes to, from the answer that the code found: d is left where it is not refused. Assumes nothing.
use Prim.Native.Nat.{ℕ}
use mathlib.Core.Path.{◌≡◌, refl, ap}
use Rattle.rules.specs.Refusal.{number}
use Rattle.rules.specs.Rules.{settle}
use Rattle.rules.specs.declared.refusal.Refusal.{Refusal}
use Rattle.rules.proofs.Refusals.{number_not_0}
use Rattle.le.specs.Memory.{Memory}
use Rattle.controller.specs.Controller.{Controller}
use Rattle.controller.specs.Answers.{outcome, done, refusing}
use Rattle.controller.specs.Calls.{of_number}
use Rattle.controller.proofs.Settled.{number_refused, accepted}

module _ (c d : Controller) (m : Memory) {n : ℕ} where
  pub unchanged : (r : Refusal) → number r ≡ n → outcome (of_number (number r)) c m ≡ settle n (refusing c m) (outcome done d m)
  unchanged r e = number_refused c m _ e (number_not_0 r)

  pub changed : 0 ≡ n → {b : Controller} → b ≡ d → outcome done b m ≡ settle n (refusing c m) (outcome done d m)
  changed e f = accepted c m _ e refl (ap (λ x. outcome done x m) f)
