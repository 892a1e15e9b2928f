-- Demand 3's premise is about the latest lifetime of a completion queue alone. Assumes nothing.
use Prim.Native.Nat.{ℕ}
use mathlib.Core.Bool.{false}
use mathlib.Core.List.{List, [], ◌∷◌, ◌++◌}
use mathlib.Core.Path.{◌≡◌}
use Rattle.rules.proofs.Tests.{clash}
use Rattle.le.specs.Memory.{Memory}
use Rattle.controller.specs.Controller.{Controller}
use Rattle.controller.specs.State.{cq_at}
use Rattle.controller.specs.Steps.{Given, Step, made, steps, given, final, Run, run_steps, after_run, memory_after, all_steps, after_runs}
use Rattle.controller.specs.Demand.{There, Stays, ClearTags, Untouched}

module _ (q : ℕ) where
  -- completion queue q does not exist
  abbrev Absent : Controller → Type 0
  Absent c = (cq_at c q).ring.exists ≡ false

  later_stays : (ss later : List Step) → Stays q (ss ++ later) → Stays q later
  later_stays [] later s = s
  later_stays (x ∷ ss) later s = later_stays ss later s.1

  -- a queue that stays through calls and later steps is there after the calls
  still_there : (gs : List Given) (later : List Step) (c : Controller) → Stays q (steps c gs ++ later) → There q c → There q (final c gs)
  still_there [] later c s h = h
  still_there (g ∷ gs) later c s h = still_there gs later (made c g).controller s.1 (s.0 h)

  still_there_runs : (xs ys : List Run) (c : Controller) → Stays q (all_steps c (xs ++ ys)) → There q c → There q (after_runs c xs)
  still_there_runs [] ys c s h = h
  still_there_runs (x ∷ xs) ys c s h =
      let later = all_steps (after_run c x) (xs ++ ys) in
      still_there_runs xs ys (after_run c x) (later_stays (run_steps c x) later s)
      (still_there (given c x.memory x.calls) later c s h)

  -- calls after which the queue is not there, or is deleted by a later step, ask for no clear tags
  clear_before : (gs : List Given) (later : List Step) (c : Controller) → (Stays q later → There q (final c gs) → ⊥) → ClearTags q later
      → ClearTags q (steps c gs ++ later)
  clear_before [] later c gone k = k
  clear_before (g ∷ gs) later c gone k =
      let d = (made c g).controller in (
        λ s e h. absurd (gone (later_stays (steps d gs) later s.1) (still_there gs later d s.1 h)),
        clear_before gs later d gone k,
      )

  -- where the queue does not exist, whatever the memory was
  any_memory : (rs : List Run) (c : Controller) (left m seen : Memory) → Absent c → Untouched q c m rs seen → Untouched q c left rs seen
  any_memory [] c left m seen absent u = λ e. absurd (clash e absent)
  any_memory (r ∷ rs) c left m seen absent u = (λ s e. absurd (clash e absent), u.1)

  -- Whatever runs were made, in whatever memories, up to a moment at which the queue did not exist: the premise asks for nothing of
  -- them, nor of what they left in memory.
  pub earlier_clear : (xs ys : List Run) (c : Controller) → Absent (after_runs c xs) → ClearTags q (all_steps (after_runs c xs) ys)
      → ClearTags q (all_steps c (xs ++ ys))
  earlier_clear [] ys c absent k = k
  earlier_clear (x ∷ xs) ys c absent k =
      clear_before (given c x.memory x.calls) (all_steps (after_run c x) (xs ++ ys)) c
      (λ s h. clash (still_there_runs xs ys (after_run c x) s h) absent) (earlier_clear xs ys (after_run c x) absent k)

  pub earlier_untouched : (xs ys : List Run) (c : Controller) (left m seen : Memory) → Absent (after_runs c xs)
      → Untouched q (after_runs c xs) m ys seen → Untouched q c left (xs ++ ys) seen
  earlier_untouched [] ys c left m seen absent u = any_memory ys c left m seen absent u
  earlier_untouched (x ∷ xs) ys c left m seen absent u = (
    λ s e. absurd (clash (still_there_runs (x ∷ xs) ys c s e) absent),
    earlier_untouched xs ys (after_run c x) (memory_after c x) m seen absent u,
  )
