-- Laws of the turn rule. Assumes nothing.
use Rattle.std.specs.Prelude.{Some, None}
use Prim.Native.Nat.{ℕ, ◌+◌, ◌-◌, ◌*◌, ◌/◌, ◌%◌, ◌^◌, ◌≤◌, ◌<◌}
use mathlib.Core.Bool.{Bool, true, false, ◌&&◌}
use mathlib.Core.Logic.{⊎_elim}
use mathlib.Core.Path.{◌≡◌, sym, ap, ◌∙◌}
use native.Mathlib.Omega.{arith}
use lib.Count.{count_trailing_zeros}
use lib.Dec.{lit<}
use borrow.Author.Tests.{lt-ltb}
use Rattle.rules.proofs.Tests.{lt_or_ge, clash}
use Rattle.bits.specs.Bits.{is_set, first}
use Rattle.bits.proofs.Bits.{set_high, set_shr, set_above, set_under}
use Rattle.bits.proofs.First.{first_is, first_none, first_hit, first_below, first_found, first_trailing}
use Rattle.arbiter.specs.declared.Remainder.{Remainder}
use Rattle.arbiter.specs.declared.Group.{Group}
use Rattle.arbiter.specs.Turns.{next_after, above_zero, served, takes, turn}

module _ (p : ℕ → Bool) (h : ℕ) where
  -- none of the queues fewer than d steps after the holder is a candidate
  abbrev pub NoneNearer : ℕ → Type 0
  NoneNearer d = (j : ℕ) → 1 ≤ j → j < d → p ((h + j) % 16) ≡ false

  -- the next candidate is d steps on: it is one, and none nearer is
  pub next_is : (d : ℕ) → 1 ≤ d → d ≤ 16 → p ((h + d) % 16) ≡ true → NoneNearer d → Some ((h + d) % 16) ≡ next_after p h
  unfolding next_after
  next_is d l u y n = rw (first_is (λ d. p ((h + d) % 16)) 1 16 d l (omega arith) y n, lt-ltb d 17 (omega arith))

  pub next_none : NoneNearer 17 → None ≡ next_after p h
  unfolding next_after
  next_none n = rw (first_none (λ d. p ((h + d) % 16)) 1 16 (λ j a b. n j a (omega arith)))

-- ---- candidates in a number of 16 bits

pub next_zero : (m h : ℕ) → m ≡ 0 → None ≡ next_after (is_set m) h
next_zero m h e =
    next_none (is_set m) h (λ j a b. ap (λ (x : ℕ). is_set x ((h + j) % 16)) e ∙ set_high 0 0 ((h + j) % 16) (lit< tt) (omega arith))

-- a mask twice in a row: each bit is there again, 16 further up
twice : (m j : ℕ) → m < 2 ^ 16 → j < 32 → is_set (m * 65537) j ≡ is_set m (j % 16)
twice m j f l =
    let e : m * 65537 ≡ m * 2 ^ 16 + m = omega arith in
    ap (λ (x : ℕ). is_set x j) e
    ∙ ⊎_elim (λ (a : j < 16). let q : j ≡ j % 16 = omega arith in set_under 16 m m j a ∙ ap (is_set m) q)
    (λ (a : 16 ≤ j).
    let q : j ≡ 16 + j % 16 = omega arith in ap (is_set (m * 2 ^ 16 + m)) q ∙ set_above 16 m m (j % 16) f) (lt_or_ge j 16)

module _ (m h : ℕ) (f : m < 2 ^ 16) where
  -- the candidates in the order of their turns: bit d is that of the queue d + 1 steps after the holder
  abbrev in_turn : ℕ
  in_turn = m * 65537 / 2 ^ (h % 16 + 1)

  in_turn_lem : (d : ℕ) → d < 16 → is_set in_turn d ≡ is_set m ((h + (d + 1)) % 16)
  in_turn_lem d l =
      let q : (h % 16 + 1 + d) % 16 ≡ (h + (d + 1)) % 16 = omega arith in
      set_shr (h % 16 + 1) (m * 65537) d ∙ twice m (h % 16 + 1 + d) f (omega arith) ∙ ap (is_set m) q

  -- how many queues are passed over
  abbrev passed : ℕ
  passed = first (is_set in_turn) 0 32

  few_passed : 0 < m → passed < 16
  few_passed p =
      let b = first (is_set m) 0 16 in
      let l : b < 16 = first_found 16 m p f in
      let d = (b + 15 - h % 16) % 16 in
      let q : (h + (d + 1)) % 16 ≡ b = omega arith in
      let y : is_set in_turn d ≡ true = in_turn_lem d (omega arith) ∙ ap (is_set m) q ∙ first_hit (is_set m) 0 16 (omega arith) in
      ⊎_elim (λ (a : passed < 16). a)
      (λ (a : 16 ≤ passed). absurd (clash y (first_below (is_set in_turn) 0 32 d (omega arith) (omega arith)))) (lt_or_ge passed 16)

  -- the way without a loop: the steps to the next candidate are the zeros before its bit, and one
  pub next_found : 0 < m → Some ((h % 16 + 1 + count_trailing_zeros 32 in_turn) % 16) ≡ next_after (is_set m) h
  next_found p =
      let l = few_passed p in
      let e : (h % 16 + 1 + passed) % 16 ≡ (h + (passed + 1)) % 16 = omega arith in
      ap (λ (t : ℕ). Some ((h % 16 + 1 + t) % 16)) (sym (first_trailing 32 in_turn))
      ∙ ap Some e
      ∙ next_is (is_set m) h (passed + 1) (omega arith) (omega arith)
      (sym (in_turn_lem passed l) ∙ first_hit (is_set in_turn) 0 32 (omega arith))
      (λ j a b.
      let q : (h + (j - 1 + 1)) % 16 ≡ (h + j) % 16 = omega arith in
      ap (is_set m) (sym q) ∙ sym (in_turn_lem (j - 1) (omega arith))
      ∙ first_below (is_set in_turn) 0 32 (j - 1) (omega arith) (omega arith))

-- ---- a turn

-- the rule's two cases, x and y being whether the holder is a candidate and whether its remainder is above 0
module _ (full : Remainder) (g : Group) (p : ℕ → Bool) {x y : Bool} (e : x ≡ p g.holder) (f : y ≡ above_zero g.remainder) where
  pub turn_held : (x && y) ≡ true → Some (served g.holder g.remainder) ≡ turn full g p
  unfolding turn
  turn_held t = rw (← e, ← f, t)

  pub turn_passed : (x && y) ≡ false → takes full (next_after p g.holder) ≡ turn full g p
  unfolding turn
  turn_passed t = rw (← e, ← f, t)
