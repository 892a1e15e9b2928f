-- The cases of the doorbell writes. Assumes nothing.
use Prim.Native.Nat.{ℕ, ◌≤◌, ◌<◌}
use mathlib.Core.Bool.{Bool, true, false, not}
use mathlib.Core.Path.{◌≡◌, sym}
use native.Mathlib.Omega.{arith}
use borrow.Author.Tests.{lt-ltb, le-ltb}
use Rattle.rules.specs.Rules.{settle}
use Rattle.rules.proofs.Tests.{not_no, not_yes}
use Rattle.le.specs.Memory.{Memory}
use Rattle.ring.proofs.Doorbells.{valid_tail_lem, valid_head_lem}
use Rattle.controller.specs.declared.Ring.{Ring}
use Rattle.controller.specs.declared.SubmissionQueue.{SubmissionQueue}
use Rattle.controller.specs.declared.CompletionQueue.{CompletionQueue}
use Rattle.controller.specs.Controller.{Controller}
use Rattle.controller.specs.State.{sq_at, cq_at, with_sq, with_cq}
use Rattle.controller.specs.Valid.{RingOk}
use Rattle.controller.specs.Doorbell.{valid_tail, valid_head, tail_refusal, tail_moved}
use Rattle.controller.specs.Doorbell.{mark, tail_write, head_refusal, head_moved, head_write}
use Rattle.controller.specs.Answers.{outcome}
use Rattle.controller.specs.Calls.{Reachable, of_number}
use Rattle.controller.proofs.Validity.{valid}

module _ (r : Ring) (k : RingOk r) where
  -- a value that is valid is small
  pub tail_low : (v : ℕ) → valid_tail r v ≡ true → v < 1024
  tail_low v e = omega (arith, k.high, ((valid_tail_lem _ _ _ v).0 e).0)

  pub head_low : (v : ℕ) → valid_head r v ≡ true → v < 1024
  head_low v e = omega (arith, k.high, ((valid_head_lem _ _ _ v).0 e).0)

-- the numbers of a tail write, from the queue that was read
module _ (c : Controller) (id v : ℕ) (m : Memory) where
  pub tail_1 : 15 < id → outcome (of_number 1) c m ≡ tail_write c m id v
  unfolding tail_write tail_refusal settle
  tail_1 h = rw (lt-ltb _ _ h)

  module _ (h : id ≤ 15) {q : SubmissionQueue} (e : q ≡ sq_at c id) where
    pub tail_9 : not q.ring.exists ≡ true → outcome (of_number 9) c m ≡ tail_write c m id v
    unfolding tail_write tail_refusal settle
    tail_9 x = rw (le-ltb _ _ h, ← e, x)

    module _ (x : not q.ring.exists ≡ false) where
      pub sq_ok : Reachable c → RingOk q.ring
      sq_ok r = rw e ((valid r).sq_ok id (rw (sym e) (not_no _ x)))

      pub tail_11 : q.marked ≡ true → outcome (of_number 11) c m ≡ tail_write c m id v
      unfolding tail_write tail_refusal settle
      tail_11 y = rw (le-ltb _ _ h, ← e, x, y)

      module _ (y : q.marked ≡ false) {b : Bool} (g : b ≡ valid_tail q.ring v) where
        pub tail_10 : not b ≡ true → {d : Controller} → d ≡ with_sq c id (mark (sq_at c id))
            → outcome (of_number 10) d m ≡ tail_write c m id v
        unfolding tail_write tail_refusal settle
        tail_10 n f = rw (f, le-ltb _ _ h, ← e, x, y, ← g, not_yes b n)

        pub tail_0 : not b ≡ false → {d : Controller} → d ≡ with_sq c id (tail_moved (sq_at c id) v)
            → outcome (of_number 0) d m ≡ tail_write c m id v
        unfolding tail_write tail_refusal settle
        tail_0 n f = rw (f, le-ltb _ _ h, ← e, x, y, ← g, not_no b n)

-- and of a head write
module _ (c : Controller) (id v : ℕ) (m : Memory) where
  pub head_1 : 15 < id → outcome (of_number 1) c m ≡ head_write c m id v
  unfolding head_write head_refusal settle
  head_1 h = rw (lt-ltb _ _ h)

  module _ (h : id ≤ 15) {q : CompletionQueue} (e : q ≡ cq_at c id) where
    pub head_9 : not q.ring.exists ≡ true → outcome (of_number 9) c m ≡ head_write c m id v
    unfolding head_write head_refusal settle
    head_9 x = rw (le-ltb _ _ h, ← e, x)

    module _ (x : not q.ring.exists ≡ false) where
      pub cq_ok : Reachable c → RingOk q.ring
      cq_ok r = rw e ((valid r).cq_ok id (rw (sym e) (not_no _ x)))

      module _ {b : Bool} (g : b ≡ valid_head q.ring v) where
        pub head_10 : not b ≡ true → outcome (of_number 10) c m ≡ head_write c m id v
        unfolding head_write head_refusal settle
        head_10 n = rw (le-ltb _ _ h, ← e, x, ← g, n)

        pub head_0 : not b ≡ false → {d : Controller} → d ≡ with_cq c id (head_moved (cq_at c id) v)
            → outcome (of_number 0) d m ≡ head_write c m id v
        unfolding head_write head_refusal settle
        head_0 n f = rw (f, le-ltb _ _ h, ← e, x, ← g, n)
