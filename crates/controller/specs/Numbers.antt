-- Start numbers over a list of calls.
use Rattle.std.specs.Prelude.{ℕ, zero, suc, ◌+◌, eqb}
use mathlib.Core.List.{List, [], ◌∷◌, ◌++◌, map, foldl}
use Rattle.rules.specs.Rules.{pick}
use Rattle.controller.specs.Controller.{Controller}
use Rattle.controller.specs.declared.Command.{Command}
use Rattle.controller.specs.State.{command_at, with_commands, with_next_number}
use Rattle.controller.specs.Answers.{StartAnswer, Answer, refused, done, started, finished, starts_in, Outcome, outcome}
use Rattle.controller.specs.Steps.{Given, steps}
use Rattle.controller.specs.Book.{update}

-- n numbers from a on: a, a + 1, a + 2, ..
abbrev pub count_from : ℕ → ℕ → List ℕ
count_from a zero = []
count_from a (suc n) = a ∷ count_from (a + 1) n

-- ---- the commands that are taken

-- the tags of the commands that a start took, in order
abbrev pub tags_of : StartAnswer → List ℕ
tags_of s = s.first ∷ pick (eqb s.count 2) (s.second ∷ []) []

-- the start numbers of the commands that a call took, as the controller that it leaves has them
abbrev pub numbers_in : Controller → Answer → List ℕ
numbers_in c (refused n) = []
numbers_in c done = []
numbers_in c (started s) = map (λ t. (command_at c t).number) (tags_of s)
numbers_in c (finished f) = []

-- those of the commands that a list of calls took, in the order in which they were taken
abbrev pub numbers_taken : Controller → List Given → List ℕ
numbers_taken c gs = foldl (λ ns s. ns ++ numbers_in s.outcome.controller s.outcome.answer) [] (steps c gs)

-- ---- an inspector, who has the answers alone

-- the number under which each tag was last taken: a start answers its first command's, and a pair's second half has the next
abbrev pub noted : (ℕ → ℕ) → StartAnswer → ℕ → ℕ
noted f s = pick (eqb s.count 2) (update (update f s.first s.number) s.second (s.number + 1)) (update f s.first s.number)

abbrev pub notes : Controller → List Given → ℕ → ℕ
notes c gs = foldl (λ f s. foldl noted f (starts_in s.outcome.answer)) (λ t. 0) (steps c gs)

-- the numbers that finishes have answered, the last one first
abbrev pub finished_in : Answer → List ℕ
finished_in (refused n) = []
finished_in done = []
finished_in (started s) = []
finished_in (finished f) = f.number ∷ []

abbrev pub numbers_finished : Controller → List Given → List ℕ
numbers_finished c gs = foldl (λ ns s. finished_in s.outcome.answer ++ ns) [] (steps c gs)

-- ---- what is left where start numbers are taken away

abbrev pub unnumbered : Command → Command
unnumbered k = record { sq = k.sq; cid = k.cid; verdict = k.verdict; first = k.first; second = k.second; number = 0 }

abbrev pub unnumbered_controller : Controller → Controller
unnumbered_controller c = with_next_number (with_commands c (map unnumbered c.commands) c.free c.arbiter) 0

abbrev pub unnumbered_answer : Answer → Answer
unnumbered_answer (refused n) = refused n
unnumbered_answer done = done
unnumbered_answer (started s) =
    started (record {
      sq = s.sq;
      count = s.count;
      first = s.first;
      second = s.second;
      slot = s.slot;
      verdict = s.verdict;
      number = 0;
    })
unnumbered_answer (finished f) = finished (record { slot = f.slot; number = 0 })

abbrev pub unnumbered_outcome : Outcome → Outcome
unnumbered_outcome o = outcome (unnumbered_answer o.answer) (unnumbered_controller o.controller) o.memory
