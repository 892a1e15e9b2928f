-- Who goes before whom, and what is left as it was: under mechanism 0 one group of all queues; under mechanism 1 queue 0, then the urgent
-- group, then the first level with a candidate and credit. Assumes nothing.
use Rattle.std.specs.Prelude.{Option, Some, None}
use Prim.Native.Nat.{ℕ, ◌+◌, ◌^◌, ◌<◌}
use mathlib.Core.Bool.{true, false}
use mathlib.Core.Path.{◌≡◌, refl, ◌∙◌}
use Rattle.rules.proofs.Tests.{clash}
use Rattle.bits.specs.Bits.{is_set}
use Rattle.bits.proofs.Bits.{set_within}
use Rattle.arbiter.specs.declared.Remainder.{Remainder}
use Rattle.arbiter.specs.declared.Group.{Group}
use Rattle.arbiter.specs.declared.Level.{Level}
use Rattle.arbiter.specs.declared.Arbiter.{Arbiter}
use Rattle.arbiter.specs.declared.Candidates.{Candidates}
use Rattle.arbiter.specs.Word.{burst_of}
use Rattle.arbiter.specs.Turns.{turn}
use Rattle.arbiter.specs.Arbiter.{with_group, with_levels, some, ready, level_turn, refilled_if_due, by_group, by_level, by_weight, choice}
use Rattle.arbiter.proofs.Credits.{Has, Ready, is_ready, has_some, has_none, not_ready_idle, costs_one}
use Rattle.arbiter.proofs.Choice.{Fits, TurnIs, turn_is, level_is}

-- ---- mechanism 0

module _ (a : Arbiter) (c : Candidates) (e : a.weighted ≡ false) where
  -- "all SQs form one group"
  pub one_group : {i : ℕ} {g : Group} → turn (burst_of a.word) a.group (is_set c.all) ≡ Some (i, g)
      → choice a c ≡ Some (i, (with_group a g))
  unfolding choice by_group
  one_group t = rw (e, t)

  -- "Class is stored but has no effect under mechanism 0"
  pub class_without_effect : (d : Candidates) → d.all ≡ c.all → choice a d ≡ choice a c
  unfolding choice
  class_without_effect d q = rw (e, q)

-- ---- a group, and a level, with a candidate

module _ (m : ℕ) (h : m < 2 ^ 16) where
  -- queue i is one of the 16, and a candidate
  abbrev Candidate : ℕ → Type 0
  Candidate i = (i < 16) × (is_set m i ≡ true)

  group_serves : (full : Remainder) (g : Group) → Has (is_set m)
      → (i : ℕ) × (left : Group) × (is_set m i ≡ true) × (turn full g (is_set m) ≡ Some (i, left))
  group_serves full g s =
      go (turn full g (is_set m)) refl (turn_is Candidate (λ i w. w.0) (is_set m) (λ i y. (set_within 16 m i h y, y)) full g)
    where
      go : (x : Option (ℕ × Group)) → turn full g (is_set m) ≡ x → TurnIs Candidate (some (is_set m)) x
          → (i : ℕ) × (left : Group) × (is_set m i ≡ true) × (turn full g (is_set m) ≡ Some (i, left))
      go (Some (i, left)) q w = (i, left, w.1.1, q)
      go None q w = absurd (clash (has_some (is_set m) s) w)

  group_idle : (full : Remainder) (g : Group) → (Has (is_set m) → ⊥) → turn full g (is_set m) ≡ None
  group_idle full g n =
      go (turn full g (is_set m)) (turn_is Candidate (λ i w. w.0) (is_set m) (λ i y. (set_within 16 m i h y, y)) full g)
    where
      go : (x : Option (ℕ × Group)) → TurnIs Candidate (some (is_set m)) x → x ≡ None
      go (Some (i, left)) w = absurd (clash w.0 (has_none (is_set m) n))
      go None w = refl

  level_serves : (b : Remainder) (l : Level) → Ready l (is_set m)
      → (i : ℕ) × (left : Level) × (is_set m i ≡ true) × (level_turn b l (is_set m) ≡ Some (i, left)) × (left.credit + 1 ≡ l.credit)
  level_serves b l r =
      go (level_turn b l (is_set m)) refl (level_is Candidate (λ i w. w.0) (is_set m) (λ i y. (set_within 16 m i h y, y)) b l)
    where
      go : (x : Option (ℕ × Level)) → level_turn b l (is_set m) ≡ x → TurnIs Candidate (ready l (is_set m)) x
          → (i : ℕ) × (left : Level) × (is_set m i ≡ true) × (level_turn b l (is_set m) ≡ Some (i, left)) × (left.credit + 1 ≡ l.credit)
      go (Some (i, left)) q w = (i, left, w.1.1, q, costs_one (is_set m) l b q)
      go None q w = absurd (clash (is_ready (is_set m) l r) w)

-- ---- mechanism 1

module _ (a : Arbiter) (c : Candidates) (f : Fits c) (e : a.weighted ≡ true) where
  -- "SQ 0 first, without turns"
  pub admin_first : is_set c.all 0 ≡ true → choice a c ≡ Some (0, a)
  unfolding choice by_weight
  admin_first y = rw (e, y)

  module _ (n : is_set c.all 0 ≡ false) where
    -- "then the urgent group (class 0)": an urgent queue is served by a turn of the group, and no level is touched
    pub urgent_next : Has (is_set c.urgent)
        → (i : ℕ) × (g : Group) × (is_set c.urgent i ≡ true)
        × (turn (burst_of a.word) a.group (is_set c.urgent) ≡ Some (i, g))
        × (choice a c ≡ Some (i, (with_group a g)))
    unfolding choice by_weight by_group
    urgent_next s =
        let (i, g, y, t) = group_serves c.urgent f.urgent (burst_of a.word) a.group s in (i, g, y, t, rw (e, n, t))

    -- "then levels high (1), medium (2), low (3) .. The first level in that order with a candidate and credit is taken", of
    -- the arbiter once it is refilled where that is due; the other levels and the urgent group are left as they are then
    module _ (u : Has (is_set c.urgent) → ⊥) where
      abbrev filled : Arbiter
      filled = refilled_if_due a c

      by_level_lem : choice a c ≡ by_level filled c
      unfolding choice by_weight by_group
      by_level_lem = rw (e, n, group_idle c.urgent f.urgent (burst_of a.word) a.group u)

      -- a queue of the mask m is served by a turn of the level l, at the cost of one credit; `back` puts what is left of l in its place
      abbrev pub Serves : ℕ → Level → (Level → Arbiter) → Type 0
      Serves m l back =
          (i : ℕ) × (left : Level) × (is_set m i ≡ true)
          × (level_turn (burst_of filled.word) l (is_set m) ≡ Some (i, left))
          × (left.credit + 1 ≡ l.credit)
          × (choice a c ≡ Some (i, (back left)))

      pub high_first : Ready filled.high (is_set c.high)
          → Serves c.high filled.high (λ l. with_levels filled l filled.medium filled.low)
      unfolding by_level
      high_first r =
          let (i, l, y, t, k) = level_serves c.high f.high (burst_of filled.word) filled.high r in
          (i, l, y, t, k, by_level_lem ∙ rw t)

      module _ (h : Ready filled.high (is_set c.high) → ⊥) where
        high_idle : level_turn (burst_of filled.word) filled.high (is_set c.high) ≡ None
        high_idle = not_ready_idle (is_set c.high) filled.high (burst_of filled.word) h

        pub medium_next : Ready filled.medium (is_set c.medium)
            → Serves c.medium filled.medium (λ l. with_levels filled filled.high l filled.low)
        unfolding by_level
        medium_next r =
            let (i, l, y, t, k) = level_serves c.medium f.medium (burst_of filled.word) filled.medium r in
            (i, l, y, t, k, by_level_lem ∙ rw (high_idle, t))

        module _ (m : Ready filled.medium (is_set c.medium) → ⊥) where
          pub low_last : Ready filled.low (is_set c.low)
              → Serves c.low filled.low (λ l. with_levels filled filled.high filled.medium l)
          unfolding by_level
          low_last r =
              let (i, l, y, t, k) = level_serves c.low f.low (burst_of filled.word) filled.low r in
              let d = not_ready_idle (is_set c.medium) filled.medium (burst_of filled.word) m in
              (i, l, y, t, k, by_level_lem ∙ rw (high_idle, d, t))
