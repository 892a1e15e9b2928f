-- Calls one after another, as one list of steps, and runs. Whatever is said of a list of calls is a fold over its steps.
use mathlib.Core.List.{List, [], ◌∷◌, ◌++◌, map, foldl}
use Rattle.le.specs.Memory.{Memory}
use Rattle.controller.specs.Controller.{Controller}
use Rattle.controller.specs.Answers.{Answer, Outcome}
use Rattle.controller.specs.Calls.{Call, perform}

-- a call with the memory that it is given
pub record Given : Type 0 where
  pub memory : Memory
  pub call : Call

abbrev pub made : Controller → Given → Outcome
made c g = perform c g.memory g.call

-- the controller before a call, what it was given, and what it came to
pub record Step : Type 0 where
  pub before : Controller
  pub given : Given
  pub outcome : Outcome

abbrev pub steps : Controller → List Given → List Step
steps c [] = []
steps c (g ∷ gs) = record { before = c; given = g; outcome = made c g } ∷ steps (made c g).controller gs

-- the controller after the calls
abbrev pub final : Controller → List Given → Controller
final c gs = foldl (λ d s. s.outcome.controller) c (steps c gs)

-- ---- where nobody else writes to memory: each call is given what the last one left

abbrev pub given : Controller → Memory → List Call → List Given
given c m [] = []
given c m (x ∷ xs) = record { memory = m; call = x } ∷ given (perform c m x).controller (perform c m x).memory xs

-- their answers, and the memory after them
abbrev pub answers : Controller → Memory → List Call → List Answer
answers c m xs = map (λ s. s.outcome.answer) (steps c (given c m xs))

abbrev pub leaves : Controller → Memory → List Call → Memory
leaves c m xs = foldl (λ n s. s.outcome.memory) m (steps c (given c m xs))

-- ---- runs

-- Calls made one after another in one memory, with nobody writing to it between them: a single call, or those that a replay makes.
pub record Run : Type 0 where
  pub memory : Memory
  pub calls : List Call

abbrev pub single : Memory → Call → Run
single m x = record { memory = m; calls = x ∷ [] }

-- the steps of a run, and the controller and the memory that it leaves
abbrev pub run_steps : Controller → Run → List Step
run_steps c r = steps c (given c r.memory r.calls)

abbrev pub after_run : Controller → Run → Controller
after_run c r = final c (given c r.memory r.calls)

abbrev pub memory_after : Controller → Run → Memory
memory_after c r = leaves c r.memory r.calls

-- the steps of runs, and the controller after them
abbrev pub all_steps : Controller → List Run → List Step
all_steps c [] = []
all_steps c (r ∷ rs) = run_steps c r ++ all_steps (after_run c r) rs

abbrev pub after_runs : Controller → List Run → Controller
after_runs c [] = c
after_runs c (r ∷ rs) = after_runs (after_run c r) rs
