-- "A refusal changes nothing, save that 10 on a tail write marks the SQ." Assumes nothing.
use Prim.Native.Nat.{ℕ}
use mathlib.Core.Logic.{◌⊎◌, inl, inr}
use mathlib.Core.Path.{◌≡◌, refl}
use native.Mathlib.Omega.{arith}
use Rattle.le.specs.Memory.{Memory}
use Rattle.controller.specs.Controller.{Controller}
use Rattle.controller.specs.State.{sq_at, with_sq}
use Rattle.controller.specs.Doorbell.{mark}
use Rattle.controller.specs.Starting.{one_taken, pair_taken}
use Rattle.controller.specs.Answers.{StartAnswer, FinishAnswer, refused, done, started, finished, Outcome}
use Rattle.controller.specs.Calls.{Call, tail_write}
use Rattle.controller.proofs.Made.{takes_one, takes_pair, finishes, Made, refuses, marks, creates_cq, creates_sq, moves_tail}
use Rattle.controller.proofs.Made.{deletes_cq, deletes_sq, moves_head, commands}

-- a tail write that is refused with 10 leaves the controller with its queue marked
pub record Marked (c : Controller) (call : Call) (n : ℕ) (left : Controller) : Type 0 where
  pub id : ℕ
  pub value : ℕ
  pub tail : call ≡ tail_write id value
  pub ten : n ≡ 10
  pub is : left ≡ with_sq c id (mark (sq_at c id))

-- ---- an answer is a refusal or not

ten : {n : ℕ} → refused 10 ≡ refused n → n ≡ 10
ten e = cc

pub done_not : {n : ℕ} → done ≡ refused n → ⊥
done_not e = let z : ◌≡◌ {A = ℕ} 0 1 = cc in omega arith

started_not : {n : ℕ} {s : StartAnswer} → started s ≡ refused n → ⊥
started_not e = let z : ◌≡◌ {A = ℕ} 0 1 = cc in omega arith

pub finished_not : {n : ℕ} {f : FinishAnswer} → finished f ≡ refused n → ⊥
finished_not e = let z : ◌≡◌ {A = ℕ} 0 1 = cc in omega arith

pub refusal_leaves : {c : Controller} {m : Memory} {call : Call} {o : Outcome} {n : ℕ} → Made c m call o → o.answer ≡ refused n
    → ((o.controller ≡ c) ⊎ Marked c call n o.controller) × (o.memory ≡ m)
unfolding one_taken pair_taken
refusal_leaves (refuses call k) e = (inl refl, refl)
refusal_leaves (marks id v r b) e = (inr (record { id = id; value = v; tail = refl; ten = ten e; is = refl }), refl)
refusal_leaves (creates_cq id size base r) e = absurd (done_not e)
refusal_leaves (creates_sq id size base cq class r) e = absurd (done_not e)
refusal_leaves (deletes_cq id r) e = absurd (done_not e)
refusal_leaves (deletes_sq id r) e = absurd (done_not e)
refusal_leaves (moves_tail id v r b) e = absurd (done_not e)
refusal_leaves (moves_head id v r) e = absurd (done_not e)
refusal_leaves (commands (takes_one id a t left s p x)) e = absurd (started_not e)
refusal_leaves (commands (takes_pair id a t u left s p x)) e = absurd (started_not e)
refusal_leaves (commands (finishes tag status result f)) e = absurd (finished_not e)
