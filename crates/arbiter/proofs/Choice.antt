-- Whom the choice names: a candidate, exactly if one is among the queues that the mechanism looks at. Assumes nothing.
use Rattle.std.specs.Prelude.{Option, Some, None}
use Prim.Native.Nat.{ℕ, ◌+◌, ◌-◌, ◌%◌, ◌^◌, ◌≤◌, ◌<◌}
use mathlib.Core.Bool.{Bool, true, false, ◌&&◌, ◌||◌}
use mathlib.Core.Logic.{⊎_elim, ◌↔◌}
use mathlib.Core.Path.{◌≡◌, refl, sym, ap, ◌∙◌}
use native.Mathlib.Nat.{mod-lt}
use native.Mathlib.Omega.{arith}
use lib.Dec.{ltb, lit<}
use borrow.Author.Tests.{lt-ltb, ltb-true, ltb-false}
use Rattle.rules.specs.Rules.{pick}
use Rattle.rules.proofs.Tests.{bool_cases, clash, or-false, and_true}
use Rattle.rules.proofs.Tables.{answer_number}
use Rattle.bits.specs.Bits.{is_set, first}
use Rattle.bits.proofs.Bits.{set_within}
use Rattle.bits.proofs.First.{first_hit, first_below}
use Rattle.bits.proofs.Some.{some_found, some_none}
use Rattle.arbiter.specs.declared.Remainder.{Remainder}
use Rattle.arbiter.specs.declared.Group.{Group}
use Rattle.arbiter.specs.declared.Level.{Level}
use Rattle.arbiter.specs.declared.Arbiter.{Arbiter}
use Rattle.arbiter.specs.declared.Candidates.{Candidates}
use Rattle.arbiter.specs.Word.{burst_of}
use Rattle.arbiter.specs.Turns.{next_after, above_zero, takes, turn}
use Rattle.arbiter.specs.Arbiter.{with_group, with_levels, refilled, some, ready, level_full, charged, level_turn, some_waits, some_ready}
use Rattle.arbiter.specs.Arbiter.{refilled_if_due, of_turn, of_turn, or_else, by_group, by_level, by_weight, choice, chosen_answer}
use Rattle.arbiter.specs.Arbiter.{next_answer, turn_answer, level_answer, group_refusal, level_refusal, anyone, choice_refusal}
use Rattle.arbiter.proofs.Levels.{ready_parts, due_refilled, not_due_kept}

-- ---- whether there is a candidate

module _ (p : ℕ → Bool) where
  -- a level with credit is ready where it has a candidate
  ready_full : (l : Level) → 0 < l.credit → ready l p ≡ some p
  unfolding ready
  ready_full l h = rw (lt-ltb 0 l.credit h) (and_yes (some p))
    where
      and_yes : (b : Bool) → (b && true) ≡ b
      and_yes true = refl
      and_yes false = refl

-- once refilled where that is due, a level is ready exactly if a level has a candidate
module _ (a : Arbiter) (c : Candidates) where
  none_ready : some_waits c ≡ false → some_ready a c ≡ false
  unfolding some_waits some_ready ready
  none_ready e =
      let w = or-false (some (is_set c.high) || some (is_set c.medium)) (some (is_set c.low)) e in
      let v = or-false (some (is_set c.high)) (some (is_set c.medium)) w.0 in rw (v.0, v.1, w.1)

  refilled_ready : some_ready (refilled a) c ≡ some_waits c
  unfolding some_waits some_ready
  refilled_ready =
      rw (
        ready_full (is_set c.high) (refilled a).high (omega arith),
        ready_full (is_set c.medium) (refilled a).medium (omega arith),
        ready_full (is_set c.low) (refilled a).low (omega arith),
      )

  refilled_if_due_ready : some_ready (refilled_if_due a c) c ≡ some_waits c
  refilled_if_due_ready =
      ⊎_elim
      (λ (w : some_waits c ≡ true).
      ⊎_elim (λ (r : some_ready a c ≡ true). rw (← not_due_kept a c refl refl (rw (w, r))) (r ∙ sym w))
      (λ (r : some_ready a c ≡ false). rw (← due_refilled a c refl refl refl (rw (w, r))) refilled_ready) (bool_cases (some_ready a c)))
      (λ (w : some_waits c ≡ false). rw (← not_due_kept a c refl refl (rw w)) (none_ready w ∙ sym w)) (bool_cases (some_waits c))

-- ---- what each answer says: it names a queue of which P holds where b is true, and nobody where b is false

or_assoc : (x y z : Bool) → (x || (y || z)) ≡ (x || y || z)
or_assoc true y z = refl
or_assoc false y z = refl

module _ (P : ℕ → Type 0) where
  abbrev NextIs : Bool → Option ℕ → Type 0
  NextIs b (Some i) = (b ≡ true) × P i
  NextIs b None = b ≡ false

  -- of a group, a level or the arbiter
  abbrev pub TurnIs : {A : Type 0} → Bool → Option (ℕ × A) → Type 0
  TurnIs b (Some (i, x)) = (b ≡ true) × P i
  TurnIs b None = b ≡ false

  module _ (b : Bool) where
    takes_is : (full : Remainder) (x : Option ℕ) → NextIs b x → TurnIs b (takes full x)
    takes_is full (Some i) h = h
    takes_is full None h = h

    charged_is : (n : ℕ) (x : Option (ℕ × Group)) → TurnIs b x → TurnIs b (charged n x)
    charged_is n (Some (i, g)) h = h
    charged_is n None h = h

    of_turn_is : {A : Type 0} (f : A → Arbiter) (x : Option (ℕ × A)) → TurnIs b x → TurnIs b (of_turn f x)
    of_turn_is f (Some (i, x)) h = h
    of_turn_is f None h = h

    or_is : (d : Bool) (x y : Option (ℕ × Arbiter)) → TurnIs b x → TurnIs d y → TurnIs (b || d) (or_else x y)
    or_is d (Some (i, a)) y h k = rw h.0 (refl, h.1)
    or_is d None y h k = rw h k

  pick_is : (t b d : Bool) (x y : Option (ℕ × Arbiter)) → TurnIs b x → TurnIs d y → TurnIs (pick t b d) (pick t x y)
  pick_is true b d x y h k = h
  pick_is false b d x y h k = k

  -- P holds of the candidates, and of no other id than 0 to 15
  module _ (low : (i : ℕ) → P i → i < 16) (p : ℕ → Bool) (f : (i : ℕ) → p i ≡ true → P i) where
    next_is : (h : ℕ) → NextIs (some p) (next_after p h)
    unfolding next_after
    next_is h =
        -- from the holder every queue is 1 to 16 steps on, so that a search that finds none has passed all
        let q : ℕ → Bool = λ d. p ((h + d) % 16) in
        ⊎_elim
        (λ (e : ltb (first q 1 16) 17 ≡ true).
        let y = first_hit q 1 16 (ltb-true _ 17 e) in rw e (some_found 16 p _ (mod-lt (h + first q 1 16) (lit< tt)) y, f _ y))
        (λ (e : ltb (first q 1 16) 17 ≡ false).
        let g : 17 ≤ first q 1 16 = ltb-false _ 17 e in
        rw e
        (some_none 16 p
        (λ i l.
        let d = (i + 15 - h % 16) % 16 + 1 in
        let s : (h + d) % 16 ≡ i = omega arith in ap p (sym s) ∙ first_below q 1 16 d (omega arith) (omega arith))))
        (bool_cases (ltb (first q 1 16) 17))

    pub turn_is : (full : Remainder) (g : Group) → TurnIs (some p) (turn full g p)
    unfolding turn
    turn_is full g =
        ⊎_elim
        (λ (e : (p g.holder && above_zero g.remainder) ≡ true).
        let y = (and_true (p g.holder) _ e).0 in rw e (some_found 16 p _ (low _ (f _ y)) y, f _ y))
        (λ (e : (p g.holder && above_zero g.remainder) ≡ false). rw e
        (takes_is (some p) full (next_after p g.holder) (next_is g.holder)))
        (bool_cases (p g.holder && above_zero g.remainder))

    pub level_is : (b : Remainder) (l : Level) → TurnIs (ready l p) (level_turn b l p)
    unfolding level_turn
    level_is b l =
        let full = level_full b l.credit in
        ⊎_elim
        (λ (e : ready l p ≡ true).
        rw e (charged_is true l.credit (turn full l.group p) (rw (ready_parts l p e).0 at (turn_is full l.group))))
        (λ (e : ready l p ≡ false). rw e refl) (bool_cases (ready l p))

    group_is : (a : Arbiter) → TurnIs (some p) (by_group a p)
    unfolding by_group
    group_is a = of_turn_is (some p) (with_group a) (turn (burst_of a.word) a.group p) (turn_is (burst_of a.word) a.group)

  -- P holds of all candidates
  pub record Within (c : Candidates) : Type 0 where
    pub all : (i : ℕ) → is_set c.all i ≡ true → P i
    pub urgent : (i : ℕ) → is_set c.urgent i ≡ true → P i
    pub high : (i : ℕ) → is_set c.high i ≡ true → P i
    pub medium : (i : ℕ) → is_set c.medium i ≡ true → P i
    pub low : (i : ℕ) → is_set c.low i ≡ true → P i

  module _ (low : (i : ℕ) → P i → i < 16) (c : Candidates) (w : Within c) where
    levels_is : (a : Arbiter) → TurnIs (some_ready a c) (by_level a c)
    unfolding some_ready by_level
    levels_is a =
        let b = burst_of a.word in
        let h = level_turn b a.high (is_set c.high) in
        let m = level_turn b a.medium (is_set c.medium) in
        let l = level_turn b a.low (is_set c.low) in
        rw (← or_assoc (ready a.high (is_set c.high)) (ready a.medium (is_set c.medium)) (ready a.low (is_set c.low)))
        (or_is _ _ (of_turn (λ l. with_levels a l a.medium a.low) h) _
        (of_turn_is _ _ h (level_is low (is_set c.high) w.high b a.high))
        (or_is _ _ (of_turn (λ l. with_levels a a.high l a.low) m) _
        (of_turn_is _ _ m (level_is low (is_set c.medium) w.medium b a.medium))
        (of_turn_is _ _ l (level_is low (is_set c.low) w.low b a.low))))

    weight_is : (a : Arbiter) → TurnIs (is_set c.all 0 || some (is_set c.urgent) || some_waits c) (by_weight a c)
    unfolding by_weight
    weight_is a =
        ⊎_elim (λ (e : is_set c.all 0 ≡ true). rw e (refl, w.all 0 e))
        (λ (e : is_set c.all 0 ≡ false).
        rw e
        (or_is (some (is_set c.urgent)) (some_waits c) (by_group a (is_set c.urgent)) (by_level (refilled_if_due a c) c)
        (group_is low (is_set c.urgent) w.urgent a)
        (rw (refilled_if_due_ready a c) at (levels_is (refilled_if_due a c)))))
        (bool_cases (is_set c.all 0))

    choice_is : (a : Arbiter) → TurnIs (anyone a c) (choice a c)
    unfolding anyone choice
    choice_is a =
        pick_is a.weighted _ _ (by_weight a c) (by_group a (is_set c.all)) (weight_is a) (group_is low (is_set c.all) w.all a)

    -- the queue that is named is a candidate
    pub named : (a : Arbiter) {i : ℕ} {left : Arbiter} → choice a c ≡ Some (i, left) → P i
    named a e = (rw e at (choice_is a)).1

    -- nobody is named, and the answer is 12, exactly if there is no candidate
    pub nobody : (a : Arbiter) → (choice a c ≡ None) ↔ (anyone a c ≡ false)
    nobody a = (λ e. rw e at (choice_is a), go (choice a c) (choice_is a))
      where
        go : (x : Option (ℕ × Arbiter)) → TurnIs (anyone a c) x → anyone a c ≡ false → x ≡ None
        go (Some (i, b)) h e = absurd (clash h.0 e)
        go None h e = refl

    refusal : (a : Arbiter) → (chosen_answer a (choice a c)).0 ≡ choice_refusal a c
    refusal a = go (choice a c) (choice_is a)
      where
        go : (x : Option (ℕ × Arbiter)) → TurnIs (anyone a c) x → (chosen_answer a x).0 ≡ choice_refusal a c
        go (Some (i, b)) h = rw h.0
        go None h = rw h

-- ---- masks of 16 bits name no other queues than 0 to 15, and then each answer has document 01's number

module _ (m : ℕ) (fits : m < 2 ^ 16) where
  abbrev within : (i : ℕ) → is_set m i ≡ true → i < 16
  within i = set_within 16 m i fits

  next_number : (x : Option ℕ) → NextIs (λ i. i < 16) (some (is_set m)) x → (next_answer x).0 ≡ group_refusal (is_set m)
  next_number (Some i) h = rw h.0
  next_number None h = rw h

  turn_number : (g : Group) (x : Option (ℕ × Group)) → TurnIs (λ i. i < 16) (some (is_set m)) x → (turn_answer g x).0 ≡ group_refusal (is_set m)
  turn_number g (Some (i, left)) h = rw h.0
  turn_number g None h = rw h

  level_number : (l : Level) (x : Option (ℕ × Level)) → TurnIs (λ i. i < 16) (ready l (is_set m)) x
      → (level_answer l x).0 ≡ level_refusal l (is_set m)
  level_number l (Some (i, left)) h = rw h.0
  level_number l None h = rw h

  pub next_answered : (h : ℕ) {x : Option ℕ} → x ≡ next_after (is_set m) h
      → (x ≡ next_after (is_set m) h) × ((next_answer x).0 ≡ group_refusal (is_set m))
  next_answered h e =
      answer_number (λ y. (next_answer y).0) (next_number (next_after (is_set m) h)
      (next_is (λ i. i < 16) (λ i l. l) (is_set m) within h)) e

  pub turn_answered : (full : Remainder) (g : Group) {x : Option (ℕ × Group)} → x ≡ turn full g (is_set m)
      → (x ≡ turn full g (is_set m)) × ((turn_answer g x).0 ≡ group_refusal (is_set m))
  turn_answered full g e =
      answer_number (λ y. (turn_answer g y).0)
      (turn_number g (turn full g (is_set m)) (turn_is (λ i. i < 16) (λ i l. l) (is_set m) within full g)) e

  pub level_answered : (b : Remainder) (l : Level) {x : Option (ℕ × Level)} → x ≡ level_turn b l (is_set m)
      → (x ≡ level_turn b l (is_set m)) × ((level_answer l x).0 ≡ level_refusal l (is_set m))
  level_answered b l e =
      answer_number (λ y. (level_answer l y).0)
      (level_number l (level_turn b l (is_set m)) (level_is (λ i. i < 16) (λ i l. l) (is_set m) within b l)) e

pub record Fits (c : Candidates) : Type 0 where
  pub all : c.all < 2 ^ 16
  pub urgent : c.urgent < 2 ^ 16
  pub high : c.high < 2 ^ 16
  pub medium : c.medium < 2 ^ 16
  pub low : c.low < 2 ^ 16

module _ (c : Candidates) (f : Fits c) where
  fits_within : Within (λ i. i < 16) c
  fits_within =
      record {
        all = λ i. set_within 16 c.all i f.all;
        urgent = λ i. set_within 16 c.urgent i f.urgent;
        high = λ i. set_within 16 c.high i f.high;
        medium = λ i. set_within 16 c.medium i f.medium;
        low = λ i. set_within 16 c.low i f.low;
      }

  pub answered : (a : Arbiter) {x : Option (ℕ × Arbiter)} → x ≡ choice a c → (x ≡ choice a c) × ((chosen_answer a x).0 ≡ choice_refusal a c)
  answered a e = answer_number (λ y. (chosen_answer a y).0) (refusal (λ i. i < 16) (λ i h. h) c fits_within a) e

-- ---- where the masks of the classes are parts of the mask of all queues, the queue that is named is in that mask

pub record Parts (c : Candidates) : Type 0 where
  pub fits : c.all < 2 ^ 16
  pub urgent : (i : ℕ) → is_set c.urgent i ≡ true → is_set c.all i ≡ true
  pub high : (i : ℕ) → is_set c.high i ≡ true → is_set c.all i ≡ true
  pub medium : (i : ℕ) → is_set c.medium i ≡ true → is_set c.all i ≡ true
  pub low : (i : ℕ) → is_set c.low i ≡ true → is_set c.all i ≡ true

abbrev pub InAll : Candidates → ℕ → Type 0
InAll c i = (i < 16) × (is_set c.all i ≡ true)

module _ (c : Candidates) (s : Parts c) where
  in_all : (i : ℕ) → is_set c.all i ≡ true → InAll c i
  in_all i e = (set_within 16 c.all i s.fits e, e)

  pub parts_within : Within (InAll c) c
  parts_within =
      record {
        all = in_all;
        urgent = λ i e. in_all i (s.urgent i e);
        high = λ i e. in_all i (s.high i e);
        medium = λ i e. in_all i (s.medium i e);
        low = λ i e. in_all i (s.low i e);
      }

  pub named_in_all : (a : Arbiter) {i : ℕ} {left : Arbiter} → choice a c ≡ Some (i, left) → InAll c i
  named_in_all a e = named (InAll c) (λ i h. h.0) c parts_within a e
