-- What a choice changes of the arbiter, field by field: the group or the level that is served, credits where they refill, and nothing else.
-- Assumes nothing.
use Rattle.std.specs.Prelude.{Option, Some, None}
use Prim.Native.Nat.{ℕ, ◌+◌, ◌<◌}
use mathlib.Core.Bool.{Bool, true, false}
use mathlib.Core.Logic.{◌⊎◌, inl, inr, ⊎_elim}
use mathlib.Core.Path.{◌≡◌, refl, ap, subst}
use native.Mathlib.Omega.{arith}
use Rattle.rules.proofs.Cases.{some_both}
use Rattle.rules.proofs.Tests.{bool_cases}
use Rattle.rules.proofs.Cases.{pick_cases}
use Rattle.bits.specs.Bits.{is_set}
use Rattle.arbiter.specs.declared.Remainder.{Remainder}
use Rattle.arbiter.specs.declared.Group.{Group}
use Rattle.arbiter.specs.declared.Level.{Level}
use Rattle.arbiter.specs.declared.Arbiter.{Arbiter}
use Rattle.arbiter.specs.declared.Candidates.{Candidates}
use Rattle.arbiter.specs.Word.{burst_of, low_weight, medium_weight, high_weight}
use Rattle.arbiter.specs.Turns.{turn}
use Rattle.arbiter.specs.Arbiter.{with_group, with_levels, refilled, ready, level_full, charged, level_turn, refilled_if_due}
use Rattle.arbiter.specs.Arbiter.{of_turn, of_turn}
use Rattle.arbiter.specs.Arbiter.{or_else, by_group, by_level, by_weight, choice}
use Rattle.arbiter.proofs.Levels.{ready_parts}
use Rattle.arbiter.proofs.Credits.{Due, refill_exact}

-- a turn's holder and remainder are as they were
pub record SameTurn (g k : Group) : Type 0 where
  pub holder : k.holder ≡ g.holder
  pub remainder : k.remainder ≡ g.remainder

-- a level is as it was, its credit too
pub record SameLevel (l k : Level) : Type 0 where
  pub turn : SameTurn l.group k.group
  pub credit : k.credit ≡ l.credit

pub record SameLevels (a b : Arbiter) : Type 0 where
  pub high : SameLevel a.high b.high
  pub medium : SameLevel a.medium b.medium
  pub low : SameLevel a.low b.low

module _ (a : Arbiter) (c : Candidates) where
  -- n is the credit of the level l once levels have refilled: its weight exactly "if levels have candidates but none of these has credit"
  abbrev pub Filled : Level → ℕ → ℕ → Type 0
  Filled l weight n = (Due a c × (n ≡ weight)) ⊎ ((Due a c → ⊥) × (n ≡ l.credit))

  -- a level that is not served: "A level's turn is kept while others are served"
  pub record Waits (l k : Level) (weight : ℕ) : Type 0 where
    pub turn : SameTurn l.group k.group
    pub credit : Filled l weight k.credit

  -- a level that serves queue i of the mask m: a turn of its group out of the credit n, and "serving costs one credit"
  pub record Pays (l k : Level) (weight m i : ℕ) : Type 0 where
    pub n : ℕ
    pub filled : Filled l weight n
    pub served : turn (level_full (burst_of a.word) n) l.group (is_set m) ≡ Some (i, k.group)
    pub cost : k.credit + 1 ≡ n

  -- queue i is served, and b is left
  pub data Serves (i : ℕ) (b : Arbiter) : Type 0 where
    -- "Mechanism 0: all SQs form one group"
    one_group : a.weighted ≡ false → turn (burst_of a.word) a.group (is_set c.all) ≡ Some (i, b.group) → SameLevels a b
        → Serves i b
    -- "Mechanism 1: SQ 0 first, without turns"
    admin : a.weighted ≡ true → is_set c.all 0 ≡ true → i ≡ 0 → SameTurn a.group b.group → SameLevels a b → Serves i b
    -- "then the urgent group (class 0)", which refills nothing
    urgent : a.weighted ≡ true → is_set c.all 0 ≡ false
        → turn (burst_of a.word) a.group (is_set c.urgent) ≡ Some (i, b.group) → SameLevels a b → Serves i b
    -- "then levels high (1), medium (2), low (3)"
    high : a.weighted ≡ true → is_set c.all 0 ≡ false → SameTurn a.group b.group
        → Pays a.high b.high (high_weight a.word) c.high i
        → Waits a.medium b.medium (medium_weight a.word) → Waits a.low b.low (low_weight a.word) → Serves i b
    medium : a.weighted ≡ true → is_set c.all 0 ≡ false → SameTurn a.group b.group
        → Waits a.high b.high (high_weight a.word)
        → Pays a.medium b.medium (medium_weight a.word) c.medium i → Waits a.low b.low (low_weight a.word) → Serves i b
    low : a.weighted ≡ true → is_set c.all 0 ≡ false → SameTurn a.group b.group
        → Waits a.high b.high (high_weight a.word) → Waits a.medium b.medium (medium_weight a.word)
        → Pays a.low b.low (low_weight a.word) c.low i → Serves i b

  -- a choice: the mechanism and the word never change
  pub record Changed (i : ℕ) (b : Arbiter) : Type 0 where
    pub weighted : b.weighted ≡ a.weighted
    pub word : b.word ≡ a.word
    pub serves : Serves i b

-- ---- by cases

same_turn : {g k : Group} → k ≡ g → SameTurn g k
same_turn e = record { holder = ap (λ (x : Group). x.holder) e; remainder = ap (λ (x : Group). x.remainder) e }

same_level : (l : Level) → SameLevel l l
same_level l = record { turn = same_turn refl; credit = refl }

same_levels : {a b : Arbiter} → b.high ≡ a.high → b.medium ≡ a.medium → b.low ≡ a.low → SameLevels a b
same_levels {a} h m l =
    record { high = rw h (same_level a.high); medium = rw m (same_level a.medium); low = rw l (same_level a.low) }

-- a level's turn is one of its group, out of its credit
paid : (b : Remainder) (l : Level) (p : ℕ → Bool) {i : ℕ} {k : Level} → level_turn b l p ≡ Some (i, k)
    → (turn (level_full b l.credit) l.group p ≡ Some (i, k.group)) × (k.credit + 1 ≡ l.credit)
unfolding level_turn
paid b l p {i} {k} e =
    ⊎_elim
    (λ (y : ready l p ≡ true). go (turn (level_full b l.credit) l.group p) (ready_parts l p y).1 (rw y at e))
    (λ (n : ready l p ≡ false). absurd (never (rw n at e))) (bool_cases (ready l p))
  where
    never : ◌≡◌ {A = Option (ℕ × Level)} None (Some (i, k)) → ⊥
    never q = let z : ◌≡◌ {A = ℕ} 0 1 = cc in omega arith

    go : (x : Option (ℕ × Group)) → 0 < l.credit → charged l.credit x ≡ Some (i, k) → (x ≡ Some (i, k.group)) × (k.credit + 1 ≡ l.credit)
    go (Some (j, g)) h q =
        let x = (some_both q).0 in
        let y = ap (λ (l : Level). l.group) (some_both q).1 in
        let s = ap (λ (l : Level). l.credit) (some_both q).1 in (rw (x, y), omega arith)
    go None h q = absurd (never q)

module _ (a : Arbiter) (c : Candidates) where
  -- what is said of the arbiter left holds of whatever is chosen
  unfoldable Says : Option (ℕ × Arbiter) → Type 0
  Says (Some (i, b)) = Changed a c i b
  Says None = Unit {0}

  says_or : (x y : Option (ℕ × Arbiter)) → Says x → Says y → Says (or_else x y)
  unfolding Says
  says_or (Some (i, b)) y h k = h
  says_or None y h k = k

  -- f is the arbiter once its levels have refilled where that is due
  record Refilled (f : Arbiter) : Type 0 where
    pub weighted : f.weighted ≡ a.weighted
    pub word : f.word ≡ a.word
    pub group : f.group ≡ a.group
    pub high : f.high.group ≡ a.high.group
    pub medium : f.medium.group ≡ a.medium.group
    pub low : f.low.group ≡ a.low.group
    pub high_credit : Filled a c a.high (high_weight a.word) f.high.credit
    pub medium_credit : Filled a c a.medium (medium_weight a.word) f.medium.credit
    pub low_credit : Filled a c a.low (low_weight a.word) f.low.credit

  refill_leaves : Refilled (refilled_if_due a c)
  refill_leaves =
      ⊎_elim
      (λ (y : Due a c × (refilled_if_due a c ≡ refilled a)). rw y.1 (record {
        weighted = refl;
        word = refl;
        group = refl;
        high = refl;
        medium = refl;
        low = refl;
        high_credit = inl (y.0, refl);
        medium_credit = inl (y.0, refl);
        low_credit = inl (y.0, refl);
      }))
      (λ (n : (Due a c → ⊥) × (refilled_if_due a c ≡ a)). rw n.1 (record {
        weighted = refl;
        word = refl;
        group = refl;
        high = refl;
        medium = refl;
        low = refl;
        high_credit = inr (n.0, refl);
        medium_credit = inr (n.0, refl);
        low_credit = inr (n.0, refl);
      }))
      (refill_exact a c)

  group_changes : (p : ℕ → Bool) → ((i : ℕ) (b : Arbiter) → turn (burst_of a.word) a.group p ≡ Some (i, b.group) → SameLevels a b
      → Serves a c i b) → Says (by_group a p)
  unfolding by_group Says
  group_changes p f = go (turn (burst_of a.word) a.group p) refl
    where
      go : (x : Option (ℕ × Group)) → turn (burst_of a.word) a.group p ≡ x → Says (of_turn (with_group a) x)
      go (Some (i, g)) q = record { weighted = refl; word = refl; serves = f i (with_group a g) q (same_levels refl refl refl) }
      go None q = tt

  module _ (w : a.weighted ≡ true) (o : is_set c.all 0 ≡ false) (f : Arbiter) (r : Refilled f) where
    -- a level x of a, and l as it is once refilled
    pays : {x l k : Level} {weight m i : ℕ} → l.group ≡ x.group → Filled a c x weight l.credit
        → level_turn (burst_of f.word) l (is_set m) ≡ Some (i, k) → Pays a c x k weight m i
    pays {l = l} e h q =
        let y = paid (burst_of f.word) l _ q in
        record { n = l.credit; filled = h; served = rw (← e, ← r.word) y.0; cost = y.1 }

    abbrev b : Remainder
    b = burst_of f.word

    wait_high : Waits a c a.high f.high (high_weight a.word)
    wait_high = record { turn = same_turn r.high; credit = r.high_credit }

    wait_medium : Waits a c a.medium f.medium (medium_weight a.word)
    wait_medium = record { turn = same_turn r.medium; credit = r.medium_credit }

    wait_low : Waits a c a.low f.low (low_weight a.word)
    wait_low = record { turn = same_turn r.low; credit = r.low_credit }

    in_high : (x : Option (ℕ × Level)) → level_turn b f.high (is_set c.high) ≡ x → Says (of_turn (λ l. with_levels f l f.medium f.low) x)
    unfolding Says
    in_high (Some (i, l)) q =
        record {
          weighted = r.weighted;
          word = r.word;
          serves = high w o (same_turn r.group) (pays r.high r.high_credit q) wait_medium wait_low;
        }
    in_high None q = tt

    in_medium : (x : Option (ℕ × Level)) → level_turn b f.medium (is_set c.medium) ≡ x
        → Says (of_turn (λ l. with_levels f f.high l f.low) x)
    unfolding Says
    in_medium (Some (i, l)) q =
        record {
          weighted = r.weighted;
          word = r.word;
          serves = medium w o (same_turn r.group) wait_high (pays r.medium r.medium_credit q) wait_low;
        }
    in_medium None q = tt

    in_low : (x : Option (ℕ × Level)) → level_turn b f.low (is_set c.low) ≡ x → Says (of_turn (λ l. with_levels f f.high f.medium l) x)
    unfolding Says
    in_low (Some (i, l)) q =
        record {
          weighted = r.weighted;
          word = r.word;
          serves = low w o (same_turn r.group) wait_high wait_medium (pays r.low r.low_credit q);
        }
    in_low None q = tt

    level_changes : Says (by_level f c)
    unfolding by_level
    level_changes =
        says_or _ _ (in_high (level_turn b f.high (is_set c.high)) refl)
        (says_or _ _ (in_medium (level_turn b f.medium (is_set c.medium)) refl) (in_low (level_turn b f.low (is_set c.low)) refl))

  admin_changes : a.weighted ≡ true → is_set c.all 0 ≡ true → Says (Some (0, a))
  unfolding Says
  admin_changes w y = record { weighted = refl; word = refl; serves = admin w y refl (same_turn refl) (same_levels refl refl refl) }

  weight_changes : a.weighted ≡ true → Says (by_weight a c)
  unfolding by_weight
  weight_changes w =
      pick_cases Says (is_set c.all 0) (Some (0, a)) _ (admin_changes w)
      (λ n. says_or _ _ (group_changes (is_set c.urgent) (λ i b. urgent w n)) (level_changes w n (refilled_if_due a c) refill_leaves))

  says_choice : Says (choice a c)
  unfolding choice
  says_choice =
      pick_cases Says a.weighted (by_weight a c) _ weight_changes (λ n. group_changes (is_set c.all) (λ i b. one_group n))

-- what every choice that names a queue changes
pub changes : (a : Arbiter) (c : Candidates) {i : ℕ} {b : Arbiter} → choice a c ≡ Some (i, b) → Changed a c i b
unfolding Says
changes a c e = subst (Says a c) e (says_choice a c)
