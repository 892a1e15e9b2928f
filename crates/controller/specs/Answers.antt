-- What a call comes to: its answer in document 01's number and values, and the controller and memory that it leaves.
use Rattle.std.specs.Prelude.{ℕ, List, [], ◌∷◌}
use Rattle.le.specs.Memory.{Memory}
use Rattle.controller.specs.Controller.{Controller}

-- "It answers the SQ id, how many commands, the first tag, the second tag (0 if one is taken), the first slot and the verdict", and its
-- first command's start number.
pub record StartAnswer : Type 0 where
  pub sq : ℕ
  pub count : ℕ
  pub first : ℕ
  pub second : ℕ
  pub slot : ℕ
  pub verdict : ℕ
  pub number : ℕ

-- "The answer names the slot", and the start number of the command that is posted.
pub record FinishAnswer : Type 0 where
  pub slot : ℕ
  pub number : ℕ

-- a refusal by its number; nothing more than that the call was done; or the values of a start or of a finish
pub data Answer : Type 0 where
  refused : ℕ → Answer
  done : Answer
  started : StartAnswer → Answer
  finished : FinishAnswer → Answer

-- the first value for a refusal, else the second
abbrev pub unless_refused : {A : Type 0} → Answer → A → A → A
unless_refused (refused n) x y = x
unless_refused done x y = y
unless_refused (started s) x y = y
unless_refused (finished f) x y = y

-- the refusal number of an answer, and 0 for none
abbrev pub number_of : Answer → ℕ
number_of (refused n) = n
number_of done = 0
number_of (started s) = 0
number_of (finished f) = 0

-- what a start took, where the answer is that of a start
abbrev pub starts_in : Answer → List StartAnswer
starts_in (refused n) = []
starts_in done = []
starts_in (started s) = s ∷ []
starts_in (finished f) = []

pub record Outcome : Type 0 where
  pub answer : Answer
  pub controller : Controller
  pub memory : Memory

abbrev pub outcome : Answer → Controller → Memory → Outcome
outcome a c m = record { answer = a; controller = c; memory = m }

-- "A refusal changes nothing"
abbrev pub refusing : Controller → Memory → ℕ → Outcome
refusing c m n = outcome (refused n) c m
