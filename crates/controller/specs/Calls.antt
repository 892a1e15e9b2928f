-- The calls on a controller, and the controllers that calls lead to.
use Rattle.controller.specs.declared.Finished.{Finished}
use Rattle.std.specs.Prelude.{ℕ, Bool, eqb, Result, Ok, Err}
use Rattle.rules.specs.Rules.{pick}
use Rattle.le.specs.Memory.{Memory}
use Rattle.controller.specs.Controller.{Controller}
use Rattle.controller.specs.declared.Started.{Started}
use Rattle.controller.specs.declared.Started.TheVariants as S
use Rattle.controller.specs.State.{fresh_controller}
use Rattle.controller.specs.Answers.{Answer, refused, done, started, finished, Outcome}
use Rattle.controller.specs.Create as create
use Rattle.controller.specs.Delete as delete
use Rattle.controller.specs.Doorbell as doorbell
use Rattle.controller.specs.Starting as starting
use Rattle.controller.specs.Finishing as finishing

pub data Call : Type 0 where
  create_cq : (id size base : ℕ) → Call
  create_sq : (id size base cq class : ℕ) → Call
  delete_cq : (id : ℕ) → Call
  delete_sq : (id : ℕ) → Call
  tail_write : (id value : ℕ) → Call
  head_write : (id value : ℕ) → Call
  start : Call
  finish : (tag status result : ℕ) → Call

-- the result that a call is given, and 0 for a call that has none
abbrev pub result_of : Call → ℕ
result_of (create_cq id size base) = 0
result_of (create_sq id size base cq class) = 0
result_of (delete_cq id) = 0
result_of (delete_sq id) = 0
result_of (tail_write id value) = 0
result_of (head_write id value) = 0
result_of start = 0
result_of (finish tag status result) = result

-- The answers of the code in document 01's numbers and values. A creation, a deletion or a doorbell write answers its refusal number,
-- 0 for done.
abbrev pub of_number : ℕ → Answer
of_number n = pick (eqb n 0) done (refused n)

abbrev pub of_started : Result Started ℕ → Answer
of_started (Ok (S.One sq tag slot verdict number)) =
    started (record { sq = sq; count = 1; first = tag; second = 0; slot = slot; verdict = verdict; number = number })
of_started (Ok (S.Pair sq first second slot verdict number)) =
    started (record { sq = sq; count = 2; first = first; second = second; slot = slot; verdict = verdict; number = number })
of_started (Err n) = refused n

abbrev pub of_finished : Result Finished ℕ → Answer
of_finished (Ok f) = finished (record { slot = f.slot; number = f.number })
of_finished (Err n) = refused n

-- a call on a controller, given a memory
abbrev pub perform : Controller → Memory → Call → Outcome
perform c m (create_cq id size base) = create.create_cq c m id size base
perform c m (create_sq id size base cq class) = create.create_sq c m id size base cq class
perform c m (delete_cq id) = delete.delete_cq c m id
perform c m (delete_sq id) = delete.delete_sq c m id
perform c m (tail_write id value) = doorbell.tail_write c m id value
perform c m (head_write id value) = doorbell.head_write c m id value
perform c m start = starting.start c m
perform c m (finish tag status result) = finishing.finish c m tag status result

-- "its controller came from a fresh one by calls"
pub data Reachable : Controller → Type 0 where
  fresh : (weighted : Bool) (word : ℕ) → Reachable (fresh_controller weighted word)
  after : {c : Controller} → Reachable c → (m : Memory) (call : Call) → Reachable (perform c m call).controller
