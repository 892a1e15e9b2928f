-- A start is refused with 12 exactly if every ring lies in the memory and "no SQ is a candidate". Assumes nothing.
use Rattle.std.specs.Prelude.{Option, Some, None}
use Prim.Native.Nat.{ℕ, ◌+◌}
use mathlib.Core.Bool.{Bool, true, false}
use mathlib.Core.Logic.{◌↔◌}
use mathlib.Core.Path.{◌≡◌, refl, ap}
use native.Mathlib.Omega.{arith}
use lib.Dec.{ltb}
use lib.ListN.{length}
use Rattle.rules.specs.Rules.{pick, first_match, settle}
use Rattle.rules.proofs.Cases.{pick_cases, settle_cases}
use Rattle.bits.specs.Tags.{taken_one, taken_two}
use Rattle.le.specs.Memory.{Memory}
use Rattle.entry.specs.declared.submission.Submission.{Submission}
use Rattle.arbiter.specs.Arbiter.{choice}
use Rattle.arbiter.specs.declared.Arbiter.{Arbiter}
use Rattle.controller.specs.Controller.{Controller}
use Rattle.controller.specs.State.{sq_at}
use Rattle.controller.specs.Rings.{outside}
use Rattle.controller.specs.Answers.{refused, number_of, Outcome, refusing}
use Rattle.controller.specs.Starting as starting
use Rattle.controller.specs.Starting.{candidates, is_pair, one_taken, pair_taken, last_number, number_rules, with_numbers, with_one, with_two}
use Rattle.controller.specs.Starting.{take_one, take_pair, take_from}
use Rattle.controller.specs.Calls.{Reachable, perform, start}
use Rattle.controller.proofs.Choosing.{NoCandidate, nobody_waits}
use Rattle.controller.proofs.Validity.{valid}

abbrev Number : Outcome → ℕ
Number o = number_of o.answer

module _ (c : Controller) (m : Memory) where
  number_not : (n : ℕ) → first_match (number_rules n) ≡ 12 → ⊥
  number_not n = pick_cases (λ (k : ℕ). k ≡ 12 → ⊥) (ltb last_number n) 32 0 (λ h e. omega arith) (λ h e. omega arith)

  with_number : (n : ℕ) (o : Outcome) → Number o ≡ 0 → Number (with_numbers c m n o) ≡ 12 → ⊥
  with_number n o z =
      settle_cases (λ x. Number x ≡ 12 → ⊥) (first_match (number_rules n)) (refusing c m) o (λ h e. omega arith) (λ h. number_not n)

  with_one_lem : (f : ℕ → ℕ → Outcome) → ((t left : ℕ) → Number (f t left) ≡ 0) → (x : Option (ℕ × ℕ)) → Number (with_one c m f x) ≡ 12 → ⊥
  with_one_lem f z None = λ e. omega arith
  with_one_lem f z (Some (t, left)) = with_number c.next_number (f t left) (z t left)

  with_two_lem : (f : ℕ → ℕ → ℕ → Outcome) → ((t u left : ℕ) → Number (f t u left) ≡ 0) → (x : Option (ℕ × ℕ × ℕ)) → Number (with_two c m f x) ≡ 12 → ⊥
  with_two_lem f z None = λ e. omega arith
  with_two_lem f z (Some (t, u, left)) = with_number (c.next_number + 1) (f t u left) (z t u left)

  one : (id : ℕ) (a : Arbiter) (e : Submission) → Number (take_one c m id a e) ≡ 12 → ⊥
  unfolding take_one one_taken
  one id a e = with_one_lem _ (λ t left. refl) (taken_one c.free)

  two : (id : ℕ) (a : Arbiter) (e f : Submission) → Number (take_pair c m id a e f) ≡ 12 → ⊥
  unfolding take_pair pair_taken
  two id a e f = with_two_lem _ (λ t u left. refl) (taken_two c.free)

  taken : (x : Option (ℕ × Arbiter)) → Number (take_from c m x) ≡ 12 → x ≡ None
  taken None e = refl
  taken (Some (id, a)) e =
      absurd (pick_cases (λ s. Number s ≡ 12 → ⊥) (is_pair id (sq_at c id).ring m) _ _ (λ h. two id a _ _) (λ h. one id a _) e)

  settled : (b : Bool) (x : Outcome) → Number (settle (pick b 5 0) (refusing c m) x) ≡ 12 → (b ≡ false) × (Number x ≡ 12)
  unfolding settle
  settled true x e = absurd (omega arith)
  settled false x e = (refl, e)

  nobody_taken : (b : Bool) (x : Option (ℕ × Arbiter)) → b ≡ false → x ≡ None → (settle (pick b 5 0) (refusing c m) (take_from c m x)).answer ≡ refused 12
  unfolding settle
  nobody_taken b x e f = rw (e, f) refl

  pub unserved : Reachable c → ((perform c m start).answer ≡ refused 12) ↔ ((outside c (length m) ≡ false) × NoCandidate c)
  unfolding starting.start
  unserved r =
      let w = nobody_waits c (valid r) in (
        λ e. let s = settled (outside c (length m)) (take_from c m (choice c.arbiter (candidates c))) (ap number_of e) in
            (s.0, w.0 (taken _ s.1)),
        λ h. nobody_taken (outside c (length m)) (choice c.arbiter (candidates c)) h.0 (w.1 h.1),
      )
