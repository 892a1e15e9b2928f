-- The replay of a plant's trace over a controller and a memory.
use Rattle.std.specs.Prelude.{ℕ, ◌*◌, List, [], ◌∷◌, ◌++◌, ltb, length, replicate, Result, Ok, Err}
use Rattle.rules.specs.Rules.{Table, first_match, settle}
use Rattle.le.specs.Le.{le}
use Rattle.le.specs.Memory.{Memory, put}
use Rattle.controller.specs.Controller.{Controller}
use Rattle.controller.specs.Answers.{Answer, refused, done, started, finished, number_of}
use Rattle.controller.specs.Calls.{Call, create_cq, create_sq, delete_cq, delete_sq, tail_write, head_write, start, finish, perform}
use Rattle.trace.specs.Record.{sent, record_in, Asked, call, none, asked}
use Rattle.trace.specs.Trace.{begun, records}

-- the value that a doorbell write writes, and 0 for another call
abbrev pub value_of : Call → ℕ
value_of (create_cq id size base) = 0
value_of (create_sq id size base cq class) = 0
value_of (delete_cq id) = 0
value_of (delete_sq id) = 0
value_of (tail_write id value) = value
value_of (head_write id value) = value
value_of start = 0
value_of (finish tag status result) = 0

-- "value written, first tag, or slot posted; 0 if refused"
abbrev pub result_value : Call → Answer → ℕ
result_value x (refused n) = 0
result_value x done = value_of x
result_value x (started s) = s.first
result_value x (finished f) = f.slot

-- the value of an answer, and 0 beside a refusal
abbrev pub value_or_0 : Result ℕ ℕ → ℕ
value_or_0 (Ok n) = n
value_or_0 (Err n) = 0

-- what a record comes to
pub record Done : Type 0 where
  pub refusal : ℕ
  pub result : ℕ
  pub controller : Controller
  pub memory : Memory

abbrev pub coming : ℕ → ℕ → Controller → Memory → Done
coming refusal result c m = record { refusal = refusal; result = result; controller = c; memory = m }

abbrev pub done_by : Controller → Memory → Asked → Done
done_by c m (call x) = let o = perform c m x in coming (number_of o.answer) (result_value x o.answer) o.controller o.memory
done_by c m (none n) = coming n 0 c m

-- "byte 0 as sent, refusal number, two result bytes .., twelve zeros"
unfoldable pub answer_bytes : ℕ → ℕ → ℕ → List ℕ
answer_bytes byte refusal result = le 1 byte ++ le 1 refusal ++ le 2 result ++ replicate 12 0

-- the answer records of a replay, and the controller and memory that it leaves
pub record Replay : Type 0 where
  pub answers : List ℕ
  pub controller : Controller
  pub memory : Memory

abbrev pub leaving : List ℕ → Controller → Memory → Replay
leaving answers c m = record { answers = answers; controller = c; memory = m }

-- the records one after another: each gives one answer record, and is given the controller and the memory that the last one left
abbrev pub played : Controller → Memory → List (List ℕ) → Replay
played c m [] = leaving [] c m
played c m (r ∷ rs) =
    let d = done_by c m (asked (record_in r)) in
    let p = played d.controller d.memory rs in
    leaving (answer_bytes (sent r) d.refusal d.result ++ p.answers) p.controller p.memory

-- ---- the call

-- the papers' number and value for each answer: the refusal, and how many answer records were written
abbrev pub replay_answer : Result ℕ ℕ → ℕ × ℕ
replay_answer (Ok n) = (0, n)
replay_answer (Err n) = (n, 0)

-- "The answer room is tested first (21), one record for each begun record"
abbrev pub room_rules : ℕ → ℕ → Table
room_rules room bytes = (ltb room (16 * begun bytes), 21) ∷ []

-- a replay's answer, and the controller, the memory and the answer room that it leaves
pub record Ended : Type 0 where
  pub answer : ℕ × ℕ
  pub controller : Controller
  pub memory : Memory
  pub room : List ℕ

abbrev pub ended : ℕ × ℕ → Controller → Memory → List ℕ → Ended
ended a c m room = record { answer = a; controller = c; memory = m; room = room }

-- "bytes past them stay"
unfoldable pub replay : Controller → Memory → List ℕ → List ℕ → Ended
replay c m t room =
    let p = played c m (records t) in
    settle (first_match (room_rules (length room) (length t))) (λ n. ended (n, 0) c m room)
    (ended (0, begun (length t)) p.controller p.memory (put room 0 p.answers))
