-- Every call is refused by one of its numbers, and then leaves everything but for a mark, or answers its values. Assumes nothing.
use Rattle.std.specs.Prelude.{Option, Some, None}
use Prim.Native.Nat.{ℕ, ◌+◌}
use mathlib.Core.List.{[], ◌∷◌, map}
use mathlib.Core.Logic.{inl, inr, ⊎_elim}
use mathlib.Core.Bool.{true, false}
use mathlib.Core.Path.{◌≡◌, refl}
use lib.ListN.{length}
use Rattle.rules.specs.Rules.{Table, first_match}
use Rattle.rules.proofs.Cases.{pick_cases, settle_cases}
use Rattle.bits.specs.Tags.{taken_one, taken_two}
use Rattle.le.specs.Memory.{Memory}
use Rattle.entry.specs.declared.submission.Submission.{Submission}
use Rattle.arbiter.specs.Arbiter.{choice}
use Rattle.arbiter.specs.declared.Arbiter.{Arbiter}
use Rattle.controller.specs.Controller.{Controller}
use Rattle.controller.specs.State.{sq_at, with_sq}
use Rattle.controller.specs.Answers.{done, outcome, refusing}
use Rattle.controller.specs.Create as create
use Rattle.controller.specs.Delete as delete
use Rattle.controller.specs.Doorbell as doorbell
use Rattle.controller.specs.Starting as starting
use Rattle.controller.specs.Starting.{candidates, is_pair, one_taken, pair_taken, with_one}
use Rattle.controller.specs.Starting.{number_rules, with_two, take_one, take_pair, take_from, start_rules}
use Rattle.controller.specs.Finishing as finishing
use Rattle.controller.specs.Calls.{Call, create_cq, create_sq, delete_cq, delete_sq, tail_write, head_write, start, finish, perform}
use Rattle.controller.specs.Refusing.{refusals, Among, left_by, Answered}

-- the number of a table is 0 or one of its rows'
among : (t : Table) → (first_match t ≡ 0 → ⊥) → Among (first_match t) (map (λ r. r.1) t)
among [] z = absurd (z refl)
among ((true, n) ∷ rs) z = inl refl
among ((false, n) ∷ rs) z = inr (among rs z)

module _ (c : Controller) (m : Memory) where
  no_number : (n : ℕ) → (first_match (number_rules n) ≡ 0 → ⊥) → Answered c m start (refusing c m (first_match (number_rules n)))
  no_number n z = inl (_, inr (inr (inr (among (number_rules n) z))), refl)

  module _ (id : ℕ) (a : Arbiter) where
    one : (e : Submission) (v : ℕ) (x : Option (ℕ × ℕ)) → Answered c m start (with_one c m (one_taken c m id a e v) x)
    unfolding one_taken
    one e v None = inl (13, inr (inr (inl refl)), refl)
    one e v (Some (t, left)) = settle_cases (Answered c m start) _ _ _ (λ z. inr (_, refl)) (λ z. no_number c.next_number z)

    pair : (e f : Submission) (v : ℕ) (x : Option (ℕ × ℕ × ℕ)) → Answered c m start (with_two c m (pair_taken c m id a e f v) x)
    unfolding pair_taken
    pair e f v None = inl (13, inr (inr (inl refl)), refl)
    pair e f v (Some (t, u, left)) = settle_cases (Answered c m start) _ _ _ (λ z. inr (_, refl)) (λ z. no_number (c.next_number + 1) z)

  taken : (x : Option (ℕ × Arbiter)) → Answered c m start (take_from c m x)
  unfolding take_one take_pair
  taken None = inl (12, inr (inl refl), refl)
  taken (Some (id, a)) =
      pick_cases (Answered c m start) (is_pair id (sq_at c id).ring m) _ _ (λ e. pair id a _ _ _ (taken_two c.free))
      (λ e. one id a _ _ (taken_one c.free))

  -- 1, 9 and 11 on a tail write mark nothing, and 10 stands behind them
  unmarked : (n id v : ℕ) → Among n (1 ∷ 9 ∷ 11 ∷ []) → (left_by n c (tail_write id v) ≡ c) × Among n (refusals (tail_write id v))
  unmarked n id v (inl e) = (rw e, inl e)
  unmarked n id v (inr (inl e)) = (rw e, inr (inl e))
  unmarked n id v (inr (inr (inl e))) = (rw e, inr (inr (inl e)))
  unmarked n id v (inr (inr (inr e))) = absurd e

  pub answered : (call : Call) → Answered c m call (perform c m call)
  unfolding create.create_cq create.create_cq_refusal create.create_sq create.create_sq_refusal delete.delete_cq delete.delete_cq_refusal
      delete.delete_sq delete.delete_sq_refusal doorbell.tail_write doorbell.tail_refusal doorbell.head_write doorbell.head_refusal starting.start
      finishing.finish finishing.finish_refusal
  answered (create_cq id size base) =
      settle_cases (Answered c m (create_cq id size base)) _ _ _ (λ z. inr refl)
      (λ z. inl (_, among (create.create_cq_rules c (length m) id size base) z, refl))
  answered (create_sq id size base cq class) =
      settle_cases (Answered c m (create_sq id size base cq class)) _ _ _ (λ z. inr refl)
      (λ z. inl (_, among (create.create_sq_rules c (length m) id size base cq class) z, refl))
  answered (delete_cq id) =
      settle_cases (Answered c m (delete_cq id)) _ _ _ (λ z. inr refl) (λ z. inl (_, among (delete.delete_cq_rules c id) z, refl))
  answered (delete_sq id) =
      settle_cases (Answered c m (delete_sq id)) _ _ _ (λ z. inr refl) (λ z. inl (_, among (delete.delete_sq_rules c id) z, refl))
  answered (tail_write id v) =
      settle_cases (Answered c m (tail_write id v)) _ _ _
      (λ z. pick_cases (Answered c m (tail_write id v)) (doorbell.valid_tail (sq_at c id).ring v)
      (outcome done (with_sq c id (doorbell.tail_moved (sq_at c id) v)) m) _
      (λ e. inr refl) (λ e. inl (10, inr (inr (inr (inl refl))), refl)))
      (λ z. let u = unmarked _ id v (among (doorbell.tail_rules c id) z) in inl (_, u.1, rw u.0))
  answered (head_write id v) =
      settle_cases (Answered c m (head_write id v)) _ _ _ (λ z. inr refl) (λ z. inl (_, among (doorbell.head_rules c id v) z, refl))
  answered start =
      settle_cases (Answered c m start) _ _ _ (λ z. taken (choice c.arbiter (candidates c)))
      (λ z. inl (_, ⊎_elim inl absurd (among (start_rules c (length m)) z), refl))
  answered (finish tag status result) =
      settle_cases (Answered c m (finish tag status result)) _ _ _ (λ z. inr (_, refl))
      (λ z. inl (_, among (finishing.finish_rules c (length m) tag status) z, refl))
