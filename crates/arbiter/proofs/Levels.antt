-- Laws of a level's turn and of the refill. Assumes nothing.
use Rattle.std.specs.Prelude.{None}
use Prim.Native.Nat.{ℕ, ◌^◌, ◌<◌}
use mathlib.Core.Bool.{Bool, true, false, ◌&&◌, not}
use mathlib.Core.Logic.{⊎_elim}
use mathlib.Core.Path.{◌≡◌, sym, ◌∙◌}
use native.Mathlib.Nat.{eq-zero-or-pos}
use lib.Count.{trailing_of_zero}
use lib.Dec.{ltb}
use borrow.Author.Tests.{lt-ltb, ltb-true}
use Rattle.rules.proofs.Tests.{and_true}
use Rattle.bits.specs.Bits.{is_set, some_below}
use Rattle.bits.proofs.First.{first_trailing, first_found}
use Rattle.arbiter.specs.declared.Remainder.{Remainder}
use Rattle.arbiter.specs.declared.Level.{Level}
use Rattle.arbiter.specs.declared.Arbiter.{Arbiter}
use Rattle.arbiter.specs.declared.Candidates.{Candidates}
use Rattle.arbiter.specs.Turns.{turn}
use Rattle.arbiter.specs.Arbiter.{some, level_full, ready, charged, level_turn, refilled, some_waits, some_ready, refilled_if_due}

-- a mask has a candidate exactly if it is not 0
pub some_pos : (m : ℕ) → m < 2 ^ 16 → ltb 0 m ≡ some (is_set m)
unfolding some_below
some_pos m h =
    ⊎_elim (λ (z : m ≡ 0). rw (z, first_trailing 16 0 ∙ trailing_of_zero 16))
    (λ (p : 0 < m). lt-ltb 0 m p ∙ sym (lt-ltb _ 16 (first_found 16 m p h))) (eq-zero-or-pos m)

pub ready_parts : (l : Level) (p : ℕ → Bool) → ready l p ≡ true → (some p ≡ true) × (0 < l.credit)
unfolding ready
ready_parts l p e = let w = and_true (some p) _ e in (w.0, ltb-true _ _ w.1)

module _ (b : Remainder) (l : Level) (p : ℕ → Bool) where
  pub level_idle : ready l p ≡ false → None ≡ level_turn b l p
  unfolding level_turn
  level_idle e = rw e

  pub level_turn_lem : {full : Remainder} → full ≡ level_full b l.credit → ready l p ≡ true
      → charged l.credit (turn full l.group p) ≡ level_turn b l p
  unfolding level_turn
  level_turn_lem q e = rw (e, q)

module _ (a : Arbiter) (c : Candidates) where
  module _ {x y : Bool} (e : x ≡ some_waits c) (f : y ≡ some_ready a c) where
    pub due_refilled : {r : Arbiter} → r ≡ refilled a → (x && not y) ≡ true → r ≡ refilled_if_due a c
    unfolding refilled_if_due
    due_refilled q t = rw (← e, ← f, t) q

    pub not_due_kept : (x && not y) ≡ false → a ≡ refilled_if_due a c
    unfolding refilled_if_due
    not_due_kept t = rw (← e, ← f, t)
