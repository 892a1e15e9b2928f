-- Lists of calls, or of runs, joined: the first, and then the others from the controller that the first leave. Assumes nothing.
use mathlib.Core.List.{List, [], ◌∷◌, ◌++◌, map, foldl, foldl-append}
use mathlib.Core.Path.{◌≡◌, refl, ap, ◌∙◌}
use Rattle.controller.specs.Controller.{Controller}
use Rattle.controller.specs.Calls.{Reachable, after}
use Rattle.controller.specs.Steps.{Given, Step, made, steps, final, given, Run, single, run_steps, after_run, all_steps, after_runs}

pub steps_join : (c : Controller) (xs ys : List Given) → steps c (xs ++ ys) ≡ steps c xs ++ steps (final c xs) ys
steps_join c [] ys = refl
steps_join c (x ∷ xs) ys = ap (λ ss. record { before = c; given = x; outcome = made c x } ∷ ss) (steps_join (made c x).controller xs ys)

-- whatever is folded over the steps goes on from where it was after the first calls: the controller, the book, head writes, a report
pub fold_join : {A : Type 0} (f : A → Step → A) (a : A) (c : Controller) (xs ys : List Given)
    → foldl f a (steps c (xs ++ ys)) ≡ foldl f (foldl f a (steps c xs)) (steps (final c xs) ys)
fold_join f a c xs ys = ap (foldl f a) (steps_join c xs ys) ∙ foldl-append f a (steps c xs) (steps (final c xs) ys)

pub reached : (gs : List Given) {c : Controller} → Reachable c → Reachable (final c gs)
reached [] r = r
reached (g ∷ gs) r = reached gs (after r g.memory g.call)

pub reached_runs : (rs : List Run) {c : Controller} → Reachable c → Reachable (after_runs c rs)
reached_runs [] r = r
reached_runs (x ∷ rs) {c} r = reached_runs rs (reached (given c x.memory x.calls) r)

pub after_join : (c : Controller) (xs ys : List Run) → after_runs c (xs ++ ys) ≡ after_runs (after_runs c xs) ys
after_join c [] ys = refl
after_join c (x ∷ xs) ys = after_join (after_run c x) xs ys

-- a list of calls is a list of runs of one call each
pub single_runs : (c : Controller) (gs : List Given) → all_steps c (map (λ g. single g.memory g.call) gs) ≡ steps c gs
single_runs c [] = refl
single_runs c (g ∷ gs) = ap (λ ss. record { before = c; given = g; outcome = made c g } ∷ ss) (single_runs (made c g).controller gs)

-- and a list of runs makes a list of calls, each with its memory, of which whatever is said of lists of calls holds
abbrev pub calls_made : Controller → List Run → List Given
calls_made c [] = []
calls_made c (r ∷ rs) = given c r.memory r.calls ++ calls_made (after_run c r) rs

pub calls_made_lem : (c : Controller) (rs : List Run) → steps c (calls_made c rs) ≡ all_steps c rs
calls_made_lem c [] = refl
calls_made_lem c (r ∷ rs) =
    steps_join c (given c r.memory r.calls) (calls_made (after_run c r) rs)
    ∙ ap (λ ss. run_steps c r ++ ss) (calls_made_lem (after_run c r) rs)
