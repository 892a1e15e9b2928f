-- The answers of the two mechanisms, from the answers of their parts. Assumes nothing.
use Rattle.arbiter.specs.declared.Group.{Group}
use Rattle.std.specs.Prelude.{Option, Some, None}
use Prim.Native.Nat.{ℕ}
use mathlib.Core.Bool.{Bool, true, false}
use mathlib.Core.Path.{◌≡◌}
use Rattle.bits.specs.Bits.{is_set}
use Rattle.arbiter.specs.declared.Remainder.{Remainder}
use Rattle.arbiter.specs.declared.Level.{Level}
use Rattle.arbiter.specs.declared.Arbiter.{Arbiter}
use Rattle.arbiter.specs.declared.Candidates.{Candidates}
use Rattle.arbiter.specs.Word.{burst_of}
use Rattle.arbiter.specs.Turns.{turn}
use Rattle.arbiter.specs.Arbiter.{with_group, with_levels, level_turn, refilled_if_due, of_turn, by_group, by_level, by_weight, choice}

pub group_turn : (a : Arbiter) (p : ℕ → Bool) {b : Remainder} {t : Option (ℕ × Group)} → b ≡ burst_of a.word → t ≡ turn b a.group p
    → of_turn (with_group a) t ≡ by_group a p
unfolding by_group
group_turn a p q e = rw (e, q)

-- a level's answer s, met with the burst b
pub level_gave : (l : Level) (p : ℕ → Bool) (w : ℕ) {b : Remainder} {t s : Option (ℕ × Level)} → b ≡ burst_of w → t ≡ s → t ≡ level_turn b l p
    → s ≡ level_turn (burst_of w) l p
level_gave l p w q g e = cc

module _ (a : Arbiter) (c : Candidates) where
  -- a level's answer is t
  abbrev pub High : Option (ℕ × Level) → Type 0
  High t = t ≡ level_turn (burst_of a.word) a.high (is_set c.high)

  abbrev pub Medium : Option (ℕ × Level) → Type 0
  Medium t = t ≡ level_turn (burst_of a.word) a.medium (is_set c.medium)

  abbrev pub Low : Option (ℕ × Level) → Type 0
  Low t = t ≡ level_turn (burst_of a.word) a.low (is_set c.low)

  pub level_high : {i : ℕ} {l : Level} → High (Some (i, l)) → Some (i, (with_levels a l a.medium a.low)) ≡ by_level a c
  unfolding by_level
  level_high h = rw (← h)

  pub level_medium : {i : ℕ} {l : Level} → High None → Medium (Some (i, l)) → Some (i, (with_levels a a.high l a.low)) ≡ by_level a c
  unfolding by_level
  level_medium h m = rw (← h, ← m)

  pub level_low : {i : ℕ} {l : Level} → High None → Medium None → Low (Some (i, l))
      → Some (i, (with_levels a a.high a.medium l)) ≡ by_level a c
  unfolding by_level
  level_low h m w = rw (← h, ← m, ← w)

  pub level_none : High None → Medium None → Low None → None ≡ by_level a c
  unfolding by_level
  level_none h m w = rw (← h, ← m, ← w)

  pub weight_admin : is_set c.all 0 ≡ true → Some (0, a) ≡ by_weight a c
  unfolding by_weight
  weight_admin e = rw e

  module _ (e : is_set c.all 0 ≡ false) where
    pub weight_urgent : {i : ℕ} {x : Arbiter} → Some (i, x) ≡ by_group a (is_set c.urgent) → Some (i, x) ≡ by_weight a c
    unfolding by_weight
    weight_urgent u = rw (e, ← u)

    pub weight_level : {x : Arbiter} → x ≡ refilled_if_due a c → None ≡ by_group a (is_set c.urgent) → by_level x c ≡ by_weight a c
    unfolding by_weight
    weight_level q u = rw (e, ← u, q)

  pub choice_weighted : a.weighted ≡ true → by_weight a c ≡ choice a c
  unfolding choice
  choice_weighted e = rw e

  pub choice_robin : a.weighted ≡ false → by_group a (is_set c.all) ≡ choice a c
  unfolding choice
  choice_robin e = rw e
