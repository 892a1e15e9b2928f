-- Only a start that is not refused changes the arbiter, and it changes the group or the level that is served and no other. Assumes nothing.
use Prim.Native.Nat.{ℕ}
use mathlib.Core.Logic.{◌⊎◌, inl, inr, ⊎_elim}
use mathlib.Core.Path.{◌≡◌, refl, ap}
use native.Mathlib.Omega.{arith}
use Rattle.le.specs.Memory.{Memory}
use Rattle.arbiter.specs.declared.Arbiter.{Arbiter}
use Rattle.arbiter.proofs.Changes.{Changed, changes}
use Rattle.controller.specs.Controller.{Controller}
use Rattle.controller.specs.Starting.{candidates, one_taken, pair_taken}
use Rattle.controller.specs.Finishing.{finished_controller}
use Rattle.controller.specs.Answers.{StartAnswer, FinishAnswer, refused, done, started, finished, Outcome}
use Rattle.controller.specs.Calls.{Call, start, perform, Reachable}
use Rattle.controller.proofs.Made.{takes_one, takes_pair, finishes, Commands, refused_leaves, done_leaves, changes as commands}
use Rattle.controller.proofs.Made.{of_commands, made}
use Rattle.controller.proofs.Validity.{valid}

-- the call took nothing and leaves the whole arbiter as it was: mechanism, word, holders, remainders, credits
abbrev pub Unturned : Controller → Outcome → Type 0
Unturned c o = ((s : StartAnswer) → o.answer ≡ started s → ⊥) × (o.controller.arbiter ≡ c.arbiter)

-- the call is a start that took from the SQ chosen, and the arbiter is what that choice leaves, field by field
abbrev pub Turned : Controller → Call → Outcome → Type 0
Turned c call o =
    (s : StartAnswer) × (call ≡ start) × (o.answer ≡ started s) × Changed c.arbiter (candidates c) s.sq o.controller.arbiter

refused_took : {n : ℕ} (s : StartAnswer) → refused n ≡ started s → ⊥
refused_took s e = let z : ◌≡◌ {A = ℕ} 0 1 = cc in omega arith

done_took : (s : StartAnswer) → done ≡ started s → ⊥
done_took s e = let z : ◌≡◌ {A = ℕ} 0 1 = cc in omega arith

finished_took : {f : FinishAnswer} (s : StartAnswer) → finished f ≡ started s → ⊥
finished_took s e = let z : ◌≡◌ {A = ℕ} 0 1 = cc in omega arith

turned : {c : Controller} {m : Memory} {call : Call} {o : Outcome} → Commands c m call o → Unturned c o ⊎ Turned c call o
unfolding one_taken pair_taken finished_controller
turned (refused_leaves call n xs) = inl (refused_took, refl)
turned (done_leaves call xs ys) = inl (done_took, refl)
turned {c} (commands (takes_one id a t left s e w)) = inr (_, refl, refl, changes c.arbiter (candidates c) s.choice)
turned {c} (commands (takes_pair id a t u left s e w)) = inr (_, refl, refl, changes c.arbiter (candidates c) s.choice)
turned (commands (finishes tag status result r)) = inl (finished_took, refl)

module _ {c : Controller} (r : Reachable c) (m : Memory) (call : Call) where
  -- "A level's turn is kept while others are served": a finish, a doorbell write, a creation, a deletion and a refused start refill
  -- nothing and end no turn
  pub arbiter_after : Unturned c (perform c m call) ⊎ Turned c call (perform c m call)
  arbiter_after = turned (of_commands (made c m (valid r).free_64 call))

  -- the mechanism and the feature word are for good
  pub same_mechanism : (perform c m call).controller.arbiter.weighted ≡ c.arbiter.weighted
  same_mechanism = ⊎_elim (λ n. ap (λ (a : Arbiter). a.weighted) n.1) (λ y. y.3.weighted) arbiter_after

  pub same_word : (perform c m call).controller.arbiter.word ≡ c.arbiter.word
  same_word = ⊎_elim (λ n. ap (λ (a : Arbiter). a.word) n.1) (λ y. y.3.word) arbiter_after
