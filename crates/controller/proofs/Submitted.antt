-- A start takes no more than is submitted, from a queue that exists and is not marked. Assumes nothing.
use Prim.Native.Nat.{ℕ, ◌+◌, ◌%◌, ◌≤◌, ◌<◌}
use mathlib.Core.Bool.{true, false, not}
use mathlib.Core.Path.{◌≡◌, refl}
use native.Mathlib.Omega.{arith}
use lib.Dec.{eqb}
use lib.ListN.{length, set}
use lib.Seq.{get_or-set_same}
use borrow.Author.Tests.{leb-true}
use Rattle.rules.proofs.Tests.{and_true}
use Rattle.le.specs.Memory.{Memory}
use Rattle.ring.specs.Slots.{distance}
use Rattle.ring.proofs.Steps.{distance_other}
use Rattle.controller.specs.declared.Ring.{Ring}
use Rattle.controller.specs.Controller.{Controller}
use Rattle.controller.specs.State.{no_sq, sq_at}
use Rattle.controller.specs.Starting.{entry_at, is_pair, passed, one_taken, pair_taken}
use Rattle.controller.specs.Valid.{Valid}
use Rattle.controller.specs.Answers.{StartAnswer, started}
use Rattle.controller.specs.Calls.{start, Reachable, perform}
use Rattle.controller.proofs.Choosing.{Candidate}
use Rattle.controller.proofs.Classes.{candidate_exact}
use Rattle.controller.proofs.Made.{of_start}
use Rattle.controller.proofs.Validity.{valid}

-- how many commands are submitted to a queue and not yet taken
abbrev pub waiting : Controller → ℕ → ℕ
waiting c sq = let r = (sq_at c sq).ring in distance r.size r.head r.tail

-- what is known of queue sq where count commands are taken from it, and c becomes d
pub record Taken (c d : Controller) (sq count : ℕ) : Type 0 where
  pub here : (sq_at c sq).ring.exists ≡ true
  pub unmarked : (sq_at c sq).marked ≡ false
  pub submitted : count ≤ waiting c sq
  pub head_after : (sq_at d sq).ring.head ≡ ((sq_at c sq).ring.head + count) % (sq_at c sq).ring.size
  pub tail_after : (sq_at d sq).ring.tail ≡ (sq_at c sq).ring.tail

-- ---- what a pair is

-- a pair has two commands submitted: its second half stands before the tail
two_submitted : (id : ℕ) (r : Ring) (m : Memory) → is_pair id r m ≡ true → 2 ≤ distance r.size r.head r.tail
unfolding is_pair
two_submitted id r m e =
    let a = and_true (not (eqb id 0)) _ e in
    let b = and_true (eqb (entry_at m r r.head).fuse 1) _ a.1 in
    leb-true 2 _ (and_true _ _ b.1).0

-- ---- what is taken

module _ {c : Controller} (v : Valid c) where
  -- a candidate has one command submitted
  one_submitted : (id : ℕ) → Candidate c id → 1 ≤ waiting c id
  one_submitted id k =
      let q = (candidate_exact c id).0 k.1 in
      let o = v.sq_ok id q.0 in
      distance_other _ _ o.head_below _ o.tail_below q.2

  -- n commands are taken from a candidate that has as many submitted
  moved : (d : Controller) (id n : ℕ) → Candidate c id → n ≤ waiting c id → d.sqs ≡ set c.sqs id (passed (sq_at c id) n) → Taken c d id n
  moved d id n k h e =
      let q = (candidate_exact c id).0 k.1 in
      let l : id < length c.sqs = omega (arith, k.0, v.sqs_16) in
      let s = get_or-set_same c.sqs id (passed (sq_at c id) n) no_sq l in
      record { here = q.0; unmarked = q.1; submitted = h; head_after = rw (e, s) refl; tail_after = rw (e, s) refl }

-- whatever a start takes is known to be submitted, to a queue that exists and is not marked
pub taken : {c : Controller} → Reachable c → (m : Memory) {s : StartAnswer}
    → (perform c m start).answer ≡ started s → Taken c (perform c m start).controller s.sq s.count
unfolding one_taken pair_taken
taken {c} r m e =
    let v = valid r in
    of_start c m (λ s d. Taken c d s.sq s.count)
    (λ id a t left s p w. moved v _ id 1 s.candidate (one_submitted v id s.candidate) refl)
    (λ id a t u left s p w. moved v _ id 2 s.candidate (two_submitted id (sq_at c id).ring m p) refl)
    v.free_64 e
