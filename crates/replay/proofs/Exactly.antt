-- The answers of a replay, exactly when: once more in propositions. Assumes nothing.
use Prim.Native.Nat.{ℕ, ◌*◌, ◌<◌, ◌≤◌}
use mathlib.Core.List.{List, ◌++◌}
use mathlib.Core.Logic.{⊎_elim, ◌↔◌}
use mathlib.Core.Path.{◌≡◌, refl, sym, ap, ◌∙◌}
use native.Mathlib.Omega.{arith}
use lib.ListN.{length, drop, replicate}
use Rattle.rules.proofs.Tests.{lt_or_ge}
use Rattle.le.specs.Le.{le, le_at}
use Rattle.le.specs.Memory.{Memory}
use Rattle.le.proofs.Numbers.{le_at_field}
use Rattle.controller.specs.Controller.{Controller}
use Rattle.controller.specs.Answers.{StartAnswer, FinishAnswer, Answer, refused, done, started, finished, number_of}
use Rattle.controller.specs.Calls.{Call, tail_write, head_write, start, finish, perform}
use Rattle.trace.specs.Record.{Asked, call, none}
use Rattle.trace.specs.Trace.{begun}
use Rattle.replay.specs.Replay.{value_of, result_value, done_by, answer_bytes, Ended, ended, replay}
use Rattle.replay.proofs.Playing as p
use Rattle.replay.proofs.Joined.{replay_done}

-- ---- 21: exactly if the room is too short, and then nothing is changed, no call is made

module _ (c : Controller) (m : Memory) (t room : List ℕ) where
  pub refused_leaves : length room < 16 * begun (length t) → replay c m t room ≡ ended (21, 0) c m room
  refused_leaves h = sym (p.refused c m t room h)

  pub room_exactly : ((replay c m t room).answer.0 ≡ 21) ↔ (length room < 16 * begun (length t))
  room_exactly =
      ⊎_elim
      (λ (h : length room < 16 * begun (length t)). (λ _. h, λ _. ap (λ (e : Ended). e.answer.0) (refused_leaves h)))
      (λ (h : 16 * begun (length t) ≤ length room).
      (λ e. absurd (zero_not_21 (sym (ap (λ (x : Ended). x.answer.0) (replay_done c m t room h)) ∙ e)), λ l. absurd (omega arith)))
      (lt_or_ge (length room) (16 * begun (length t)))
    where
      zero_not_21 : ◌≡◌ {A = ℕ} 0 21 → ⊥
      zero_not_21 e = omega (arith, e)

  -- otherwise it is 0, and the answer records are as many as records are begun
  pub records_exactly : 16 * begun (length t) ≤ length room → (replay c m t room).answer ≡ (0, begun (length t))
  records_exactly h = ap (λ (e : Ended). e.answer) (replay_done c m t room h)

-- ---- "value written, first tag, or slot posted; 0 if refused"

module _ (c : Controller) (m : Memory) where
  pub written : (x : Call) → (perform c m x).answer ≡ done → (done_by c m (call x)).result ≡ value_of x
  written x e = ap (result_value x) e

  pub tail_result : (q v : ℕ) → (perform c m (tail_write q v)).answer ≡ done → (done_by c m (call (tail_write q v))).result ≡ v
  tail_result q v = written (tail_write q v)

  pub head_result : (q v : ℕ) → (perform c m (head_write q v)).answer ≡ done → (done_by c m (call (head_write q v))).result ≡ v
  head_result q v = written (head_write q v)

  pub start_result : {s : StartAnswer} → (perform c m start).answer ≡ started s → (done_by c m (call start)).result ≡ s.first
  start_result e = ap (result_value start) e

  pub finish_result : (tag status : ℕ) {f : FinishAnswer} → (perform c m (finish tag status 0)).answer ≡ finished f
      → (done_by c m (call (finish tag status 0))).result ≡ f.slot
  finish_result tag status e = ap (result_value (finish tag status 0)) e

  result_refused : (x : Call) (a : Answer) → (number_of a ≡ 0 → ⊥) → result_value x a ≡ 0
  result_refused x (refused n) d = refl
  result_refused x done d = absurd (d refl)
  result_refused x (started s) d = absurd (d refl)
  result_refused x (finished f) d = absurd (d refl)

  pub refused_result : (a : Asked) → ((done_by c m a).refusal ≡ 0 → ⊥) → (done_by c m a).result ≡ 0
  refused_result (call x) d = result_refused x (perform c m x).answer d
  refused_result (none n) d = refl

-- ---- an answer record, read back field for field

pub answer_read : (byte refusal result : ℕ) → byte < 256 → refusal < 256 → result < 65536
    → let a = answer_bytes byte refusal result in
    (le_at 1 a 0 ≡ byte) × (le_at 1 a 1 ≡ refusal) × (le_at 2 a 2 ≡ result) × (drop 4 a ≡ replicate 12 0)
unfolding answer_bytes le
answer_read byte refusal result b n r = (
  le_at_field 1 byte 0 (answer_bytes byte refusal result) (le 1 refusal ++ le 2 result ++ replicate 12 0) refl b,
  le_at_field 1 refusal 1 (answer_bytes byte refusal result) (le 2 result ++ replicate 12 0) refl n,
  le_at_field 2 result 2 (answer_bytes byte refusal result) (replicate 12 0) refl r,
  refl,
)
