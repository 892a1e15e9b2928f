-- Laws of the commands once a first half has posted its status. Assumes nothing.
use Prim.Native.Nat.{ℕ, ◌+◌, ◌-◌, ◌≤◌, ◌<◌}
use mathlib.Core.List.{List}
use mathlib.Core.Path.{◌≡◌, refl, ap}
use native.Mathlib.Omega.{arith}
use lib.Dec.{eqb, lit≤}
use lib.ListN.{length, get_or, length-set}
use lib.Seq.{get_or-set_same, get_or-set_other}
use borrow.Author.Tests.{eqb-false, ne_eqb}
use Rattle.controller.specs.declared.Command.{Command}
use Rattle.controller.specs.State.{no_command}
use Rattle.controller.specs.Valid.{CommandOk}
use Rattle.controller.specs.Finishing.{status_of, released, unlinked}
use Rattle.controller.proofs.Lists.{set_all, set_same}
use Rattle.rules.proofs.Cases.{pick_cases}

released_ok : (status : ℕ) (k : Command) → CommandOk k → CommandOk (released status k)
unfolding released status_of
released_ok status k h =
    let Low : ℕ → Type 0 = λ n. n ≤ 32767 in
    record {
      sq_low = h.sq_low;
      verdict_low =
          pick_cases Low (eqb status 0) _ _ (λ e. h.verdict_low)
          (λ e. pick_cases Low (eqb k.verdict 0) _ _ (λ f. lit≤ tt) (λ f. h.verdict_low));
      first_low = omega arith;
      second_low = h.second_low;
    }

module _ (ks : List Command) (second status : ℕ) where
  pub unlinked_length : length (unlinked ks second status) ≡ length ks
  unfolding unlinked
  unlinked_length = pick_cases (λ l. length l ≡ length ks) (eqb second 0) ks _ (λ e. refl) (λ e. length-set ks (second - 1) _)

  -- what is the same of a command and of the command released is the same of every command
  pub unlinked_same : {B : Type 0} (f : Command → B) → ((k : Command) → f (released status k) ≡ f k)
      → (t : ℕ) → f (get_or (unlinked ks second status) t no_command) ≡ f (get_or ks t no_command)
  unfolding unlinked
  unlinked_same f e t =
      pick_cases (λ l. f (get_or l t no_command) ≡ f (get_or ks t no_command)) (eqb second 0) ks _ (λ z. refl)
      (λ z. set_same ks (second - 1) _ no_command f (e _) t)

  pub unlinked_sq : (t : ℕ) → (get_or (unlinked ks second status) t no_command).sq ≡ (get_or ks t no_command).sq
  unfolding released
  unlinked_sq = unlinked_same (λ k. k.sq) (λ k. refl)

  pub unlinked_second : (t : ℕ) → (get_or (unlinked ks second status) t no_command).second ≡ (get_or ks t no_command).second
  unfolding released
  unlinked_second = unlinked_same (λ k. k.second) (λ k. refl)

  pub unlinked_number : (t : ℕ) → (get_or (unlinked ks second status) t no_command).number ≡ (get_or ks t no_command).number
  unfolding released
  unlinked_number = unlinked_same (λ k. k.number) (λ k. refl)

  -- the second half alone is another than it was
  pub unlinked_other : (t : ℕ) → (second ≡ t + 1 → ⊥) → get_or (unlinked ks second status) t no_command ≡ get_or ks t no_command
  unfolding unlinked
  unlinked_other t d =
      pick_cases (λ l. get_or l t no_command ≡ get_or ks t no_command) (eqb second 0) ks _ (λ z. refl)
      (λ z. let n = eqb-false second 0 z in get_or-set_other ks (second - 1) t _ no_command (λ q. d (omega arith)))

  module _ (n : length ks ≡ 64) (low : second ≤ 64) where
    pub unlinked_ok : ((t : ℕ) → CommandOk (get_or ks t no_command)) → (t : ℕ) → CommandOk (get_or (unlinked ks second status) t no_command)
    unfolding unlinked
    unlinked_ok all t =
        pick_cases (λ l. CommandOk (get_or l t no_command)) (eqb second 0) ks _ (λ z. all t)
        (λ z. let d = eqb-false second 0 z in
        set_all ks (second - 1) _ no_command CommandOk (omega arith) (released_ok status _ (all (second - 1))) all t)

    -- and that one names no first half any more
    pub unlinked_first : (t : ℕ) → second ≡ t + 1 → (get_or (unlinked ks second status) t no_command).first ≡ 0
    unfolding unlinked released
    unlinked_first t e =
        let y : second - 1 ≡ t = omega arith in
        let l : t < length ks = omega arith in
        rw (ne_eqb second 0 (λ z. omega arith), y) (ap (λ (k : Command). k.first) (get_or-set_same ks t _ no_command l))
