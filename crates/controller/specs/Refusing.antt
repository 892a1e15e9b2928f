-- Demand 1: what every call comes to.
use Rattle.std.specs.Prelude.{ℕ, List, [], ◌∷◌, ◌⊎◌, ◌≡◌, eqb}
use Rattle.rules.specs.Rules.{pick}
use Rattle.le.specs.Memory.{Memory}
use Rattle.controller.specs.Controller.{Controller}
use Rattle.controller.specs.State.{sq_at, with_sq}
use Rattle.controller.specs.Doorbell.{mark}
use Rattle.controller.specs.Answers.{StartAnswer, FinishAnswer, Answer, refused, done, started, finished, Outcome, outcome}
use Rattle.controller.specs.Calls.{Call, create_cq, create_sq, delete_cq, delete_sq, tail_write, head_write, start, finish}

-- the refusals that a call may give, in the order in which they are tested
abbrev pub refusals : Call → List ℕ
refusals (create_cq id size base) = 1 ∷ 2 ∷ 3 ∷ 4 ∷ 5 ∷ 6 ∷ []
refusals (create_sq id size base cq class) = 1 ∷ 2 ∷ 8 ∷ 7 ∷ 3 ∷ 4 ∷ 5 ∷ 6 ∷ []
refusals (delete_cq id) = 1 ∷ 35 ∷ 9 ∷ 34 ∷ []
refusals (delete_sq id) = 1 ∷ 35 ∷ 9 ∷ 33 ∷ []
refusals (tail_write id value) = 1 ∷ 9 ∷ 11 ∷ 10 ∷ []
refusals (head_write id value) = 1 ∷ 9 ∷ 10 ∷ []
refusals start = 5 ∷ 12 ∷ 13 ∷ 32 ∷ []
refusals (finish tag status result) = 5 ∷ 14 ∷ 15 ∷ 16 ∷ 17 ∷ []

-- n is one of the numbers
abbrev pub Among : ℕ → List ℕ → Type 0
Among n [] = ⊥
Among n (k ∷ ks) = (n ≡ k) ⊎ Among n ks

-- "A refusal changes nothing, save that 10 on a tail write marks the SQ": the controller that a refusal by n leaves
abbrev pub left_by : ℕ → Controller → Call → Controller
left_by n c (create_cq id size base) = c
left_by n c (create_sq id size base cq class) = c
left_by n c (delete_cq id) = c
left_by n c (delete_sq id) = c
left_by n c (tail_write id value) = pick (eqb n 10) (with_sq c id (mark (sq_at c id))) c
left_by n c (head_write id value) = c
left_by n c start = c
left_by n c (finish tag status result) = c

-- the answer of a call that is not refused
abbrev pub Values : Call → Answer → Type 0
Values (create_cq id size base) a = a ≡ done
Values (create_sq id size base cq class) a = a ≡ done
Values (delete_cq id) a = a ≡ done
Values (delete_sq id) a = a ≡ done
Values (tail_write id value) a = a ≡ done
Values (head_write id value) a = a ≡ done
Values start a = (s : StartAnswer) × (a ≡ started s)
Values (finish tag status result) a = (f : FinishAnswer) × (a ≡ finished f)

-- a refusal by one of the call's numbers, which leaves the memory and, but for a mark, the controller; or the call's values
abbrev pub Answered : Controller → Memory → Call → Outcome → Type 0
Answered c m call o =
    ((n : ℕ) × Among n (refusals call) × (o ≡ outcome (refused n) (left_by n c call) m)) ⊎ Values call o.answer
