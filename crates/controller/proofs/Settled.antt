-- The two ways in which a call is settled, from the refusal number that the code found. Assumes nothing.
use Prim.Native.Nat.{ℕ}
use mathlib.Core.Path.{◌≡◌, sym, ◌∙◌}
use borrow.Author.Tests.{ne_eqb}
use Rattle.rules.specs.Rules.{settle}
use Rattle.rules.proofs.Tables.{settle_refused, settle_accepted}
use Rattle.le.specs.Memory.{Memory}
use Rattle.controller.specs.Controller.{Controller}
use Rattle.controller.specs.Answers.{Outcome, outcome, refusing}
use Rattle.controller.specs.Calls.{of_number}

module _ (c : Controller) (m : Memory) (accept : Outcome) {n k : ℕ} (e : n ≡ k) where
  pub refused : (n ≡ 0 → ⊥) → refusing c m n ≡ settle k (refusing c m) accept
  refused h = rw (← e) (sym (settle_refused n (refusing c m) accept h))

  pub accepted : n ≡ 0 → {x : Outcome} → x ≡ accept → x ≡ settle k (refusing c m) accept
  accepted h g = g ∙ sym (settle_accepted k (refusing c m) accept (sym e ∙ h))

  -- of an answer that is a refusal number
  pub number_refused : (n ≡ 0 → ⊥) → outcome (of_number n) c m ≡ settle k (refusing c m) accept
  number_refused h = rw (ne_eqb n 0 h) (refused h)
