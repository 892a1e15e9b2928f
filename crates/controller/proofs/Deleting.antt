-- What stands against a deletion, in propositions: a command that was taken from the queue, or a queue that names it. Assumes nothing.
use Prim.Native.Nat.{ℕ, ◌<◌}
use mathlib.Core.Bool.{true}
use mathlib.Core.Path.{◌≡◌}
use Rattle.rules.proofs.Exactly.{Says, says_is, says_eq, says_as, says_and}
use Rattle.bits.proofs.Some.{says_some}
use Rattle.controller.specs.Controller.{Controller}
use Rattle.controller.specs.State.{sq_at, command_at}
use Rattle.controller.specs.Delete.{taken_from, busy, naming, named}
use Rattle.controller.proofs.Outstanding.{Outstanding, says_out}

-- SQ id "has outstanding commands"
pub record Busy (c : Controller) (id : ℕ) : Type 0 where
  pub tag : ℕ
  pub out : Outstanding c tag
  pub from : (command_at c tag).sq ≡ id

pub says_busy : (c : Controller) (id : ℕ) → Says (busy c id) (Busy c id)
unfolding busy
says_busy c id =
    says_as (says_some 64 (taken_from c id) (λ t. says_and (says_out c t) (says_eq (command_at c t).sq id)))
    (λ w. record { tag = w.0; out = w.2.0; from = w.2.1 }) (λ w. (w.tag, w.out.0, (w.out, w.from)))

-- "an SQ names" CQ id
pub record Named (c : Controller) (id : ℕ) : Type 0 where
  pub sq : ℕ
  pub low : sq < 16
  pub here : (sq_at c sq).ring.exists ≡ true
  pub names : (sq_at c sq).cq ≡ id

pub says_named : (c : Controller) (id : ℕ) → Says (named c id) (Named c id)
unfolding named
says_named c id =
    says_as (says_some 16 (naming c id) (λ i. says_and (says_is (sq_at c i).ring.exists) (says_eq (sq_at c i).cq id)))
    (λ w. record { sq = w.0; low = w.1; here = w.2.0; names = w.2.1 }) (λ w. (w.sq, w.low, (w.here, w.names)))
