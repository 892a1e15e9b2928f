-- Laws of the mask of free tags. Assumes nothing.
use Rattle.std.specs.Prelude.{Option, Some, None}
use Prim.Native.Nat.{ℕ, ◌+◌, ◌-◌, ◌^◌, ◌≤◌, ◌<◌}
use mathlib.Core.Bool.{true, false}
use mathlib.Core.Logic.{◌⊎◌, inl, inr, ⊎_elim, ◌↔◌}
use mathlib.Core.Path.{◌≡◌, sym, ap, ◌∙◌}
use native.Mathlib.Nat.{eq-zero-or-pos}
use native.Mathlib.Omega.{arith}
use lib.Count.{ones, trailing_of_zero}
use borrow.Author.Tests.{lt-ltb, le-ltb, le-leb, lt-leb}
use Rattle.rules.proofs.Cases.{some_both}
use Rattle.rules.proofs.Tests.{bool_cases, lt_or_ge, clash}
use Rattle.rules.proofs.Tables.{answer_number}
use Rattle.bits.specs.Bits.{is_set}
use Rattle.bits.specs.Tags.{free_count, lowest, lowest_above, without, taken_one, taken_two, given_back, one_answer, two_answer, tag_refusal}
use Rattle.bits.proofs.Bits.{add_same, add_other, add_fits, sub_same, sub_other, ones_sub}
use Rattle.bits.proofs.First.{first_is, first_hit, first_below, first_trailing, first_found, ones_zero, count_ones}

-- what the lowest free tag leaves
abbrev pub rest : ℕ → ℕ
rest m = without m (lowest m)

-- ---- one tag

-- tag t was the lowest free one of the mask m, and the mask left is m without it
pub record OneTaken (m t left : ℕ) : Type 0 where
  pub low : t < 64
  pub free : is_set m t ≡ true
  pub lower : (j : ℕ) → j < t → is_set m j ≡ false
  pub fits : left < 2 ^ 64
  pub gone : is_set left t ≡ false
  pub others : (j : ℕ) → (j ≡ t → ⊥) → is_set left j ≡ is_set m j
  pub fewer : free_count left + 1 ≡ free_count m

module _ (m : ℕ) (h : m < 2 ^ 64) where
  pub lowest_taken : 0 < m → OneTaken m (lowest m) (rest m)
  lowest_taken p =
      let l : lowest m < 64 = first_found 64 m p h in
      let s : is_set m (lowest m) ≡ true = first_hit (is_set m) 0 64 (omega arith) in
      let f : rest m < 2 ^ 64 = omega arith in
      record {
        low = l;
        free = s;
        lower = λ j b. first_below (is_set m) 0 64 j (omega arith) b;
        fits = f;
        gone = sub_same (lowest m) m s;
        others = λ j d. sub_other (lowest m) m j s d;
        fewer = omega (arith, count_ones 64 (rest m) f, count_ones 64 m h, ones_sub (lowest m) m s);
      }

  pub one_some : 0 < m → Some ((lowest m), (rest m)) ≡ taken_one m
  unfolding taken_one
  one_some p = rw (lt-ltb (lowest m) 64 (lowest_taken p).low)

  pub one_none : m ≡ 0 → None ≡ taken_one m
  unfolding taken_one
  one_none e = rw (e, first_trailing 64 0 ∙ trailing_of_zero 64)

  pub one_taken_lem : {t left : ℕ} → taken_one m ≡ Some (t, left) → OneTaken m t left
  one_taken_lem {t} {left} e =
      ⊎_elim (λ (z : m ≡ 0). let q = one_none z in let n : ◌≡◌ {A = ℕ} 0 1 = cc in absurd (omega arith))
      (λ (p : 0 < m).
      let q = one_some p in
      let is = some_both (q ∙ e) in
      let et = is.0 in
      let el = is.1 in
      rw (el, et) at (lowest_taken p)) (eq-zero-or-pos m)

  pub none_free : (taken_one m ≡ None) ↔ (m ≡ 0)
  none_free = (λ e. ⊎_elim (λ (z : m ≡ 0). z) (λ (p : 0 < m). never e (one_some p)) (eq-zero-or-pos m), λ z. sym (one_none z))
    where
      never : {t left : ℕ} → taken_one m ≡ None → Some (t, left) ≡ taken_one m → m ≡ 0
      never e q = let n : ◌≡◌ {A = ℕ} 0 1 = cc in absurd (omega arith)

  free_none : m ≡ 0 → free_count m ≡ 0
  free_none z = omega (arith, count_ones 64 m h, ap ones z, ones_zero)

  -- a tag is free exactly if the mask is not 0
  pub free_pos : (0 < free_count m) ↔ (0 < m)
  free_pos = (
    λ f. ⊎_elim (λ (z : m ≡ 0). absurd (omega (arith, free_none z))) (λ (p : 0 < m). p) (eq-zero-or-pos m),
    λ p. omega (arith, (lowest_taken p).fewer),
  )

  one_refusal : (one_answer m (taken_one m)).0 ≡ tag_refusal 1 m
  one_refusal =
      ⊎_elim (λ (z : m ≡ 0). rw (← one_none z, free_none z)) (λ (p : 0 < m). rw (← one_some p, le-ltb (free_count m) 1 (free_pos.1 p)))
      (eq-zero-or-pos m)

  -- the answer, with document 01's number
  pub one_answered : {x : Option (ℕ × ℕ)} → x ≡ taken_one m → (x ≡ taken_one m) × ((one_answer m x).0 ≡ tag_refusal 1 m)
  one_answered e = answer_number (λ y. (one_answer m y).0) one_refusal e

-- ---- two tags: one after the other

-- tag t was the lowest free one of m, tag u the lowest of what t left, and the mask left is m without both
pub record TwoTaken (m t u left : ℕ) : Type 0 where
  pub first : OneTaken m t (without m t)
  pub second : OneTaken (without m t) u left
  pub rising : t < u
  pub both : is_set m u ≡ true
  pub others : (j : ℕ) → (j ≡ t → ⊥) → (j ≡ u → ⊥) → is_set left j ≡ is_set m j
  pub fewer : free_count left + 2 ≡ free_count m

two_of : {m t u left : ℕ} → OneTaken m t (without m t) → OneTaken (without m t) u left → TwoTaken m t u left
two_of {m} {t} {u} {left} a b =
    let other : u ≡ t → ⊥ = λ q. clash b.free (ap (is_set (without m t)) q ∙ a.gone) in
    let there : is_set m u ≡ true = sym (a.others u other) ∙ b.free in
    record {
      first = a;
      second = b;
      rising = ⊎_elim (λ (g : u < t). absurd (clash there (a.lower u g))) (λ (g : t ≤ u). omega arith) (lt_or_ge u t);
      both = there;
      others = λ j p q. b.others j q ∙ a.others j p;
      fewer = omega (arith, a.fewer, b.fewer);
    }

module _ (m : ℕ) (h : m < 2 ^ 64) where
  module _ (two : 2 ≤ free_count m) where
    -- with two free, one is left when the lowest is taken
    pub lowest_two : TwoTaken m (lowest m) (lowest (rest m)) (rest (rest m))
    lowest_two =
        let a = lowest_taken m h ((free_pos m h).0 (omega arith)) in
        two_of a (lowest_taken (rest m) a.fits ((free_pos (rest m) a.fits).0 (omega (arith, a.fewer))))

    above_is : lowest_above m (lowest m) ≡ lowest (rest m)
    above_is =
        let w = lowest_two in
        first_is (is_set m) (lowest m + 1) (63 - lowest m) (lowest (rest m)) (omega (arith, w.rising))
        (omega (arith, w.second.low, w.first.low)) w.both
        (λ j a b. sym (w.first.others j (λ q. omega arith)) ∙ w.second.lower j b)

    pub two_some : Some ((lowest m), (lowest (rest m)), (rest (rest m))) ≡ taken_two m
    unfolding taken_two
    two_some = rw (le-leb 2 (free_count m) two, above_is)

  pub two_none : free_count m < 2 → None ≡ taken_two m
  unfolding taken_two
  two_none l = rw (lt-leb 2 (free_count m) l)

  pub two_taken : {t u left : ℕ} → taken_two m ≡ Some (t, u, left) → TwoTaken m t u left
  two_taken {t} {u} {left} e =
      ⊎_elim (λ (l : free_count m < 2). let q = two_none l in let n : ◌≡◌ {A = ℕ} 0 1 = cc in absurd (omega arith))
      (λ (l : 2 ≤ free_count m).
      let q = two_some l in
      let is : ◌≡◌ {A = ℕ × ℕ × ℕ} (lowest m, lowest (rest m), rest (rest m)) (t, u, left) = cc in
      let et = ap (λ (x : ℕ × ℕ × ℕ). x.0) is in
      let eu = ap (λ (x : ℕ × ℕ × ℕ). x.1) is in
      let el = ap (λ (x : ℕ × ℕ × ℕ). x.2) is in
      rw (el, eu, et) at (lowest_two l)) (lt_or_ge (free_count m) 2)

  pub too_few : (taken_two m ≡ None) ↔ (free_count m < 2)
  too_few = (
    λ e. ⊎_elim (λ (l : free_count m < 2). l) (λ (l : 2 ≤ free_count m). never e (two_some l)) (lt_or_ge (free_count m) 2),
    λ l. sym
        (two_none l),
  )
    where
      never : {t u left : ℕ} → taken_two m ≡ None → Some (t, u, left) ≡ taken_two m → free_count m < 2
      never e q = let n : ◌≡◌ {A = ℕ} 0 1 = cc in absurd (omega arith)

  two_refusal : (two_answer m (taken_two m)).0 ≡ tag_refusal 2 m
  two_refusal =
      ⊎_elim (λ (l : free_count m < 2). rw (← two_none l, lt-ltb (free_count m) 2 l))
      (λ (l : 2 ≤ free_count m). rw (← two_some l, le-ltb (free_count m) 2 l)) (lt_or_ge (free_count m) 2)

  pub two_answered : {x : Option (ℕ × ℕ × ℕ)} → x ≡ taken_two m → (x ≡ taken_two m) × ((two_answer m x).0 ≡ tag_refusal 2 m)
  two_answered e = answer_number (λ y. (two_answer m y).0) two_refusal e

-- ---- a tag given back

module _ (m t : ℕ) where
  pub back_above : 64 ≤ t → m ≡ given_back m t
  unfolding given_back
  back_above l = rw (le-ltb t 64 l)

  module _ (l : t < 64) where
    pub back_free : is_set m t ≡ true → m ≡ given_back m t
    unfolding given_back
    back_free e = rw (lt-ltb t 64 l, e)

    pub back_taken : is_set m t ≡ false → m + 2 ^ t ≡ given_back m t
    unfolding given_back
    back_taken e = rw (lt-ltb t 64 l, e)

    pub back_set : is_set (given_back m t) t ≡ true
    back_set =
        ⊎_elim (λ (e : is_set m t ≡ true). rw (← back_free e) e) (λ (e : is_set m t ≡ false). rw (← back_taken e) (add_same t m e))
        (bool_cases (is_set m t))

  -- nothing changed, or the tag was added
  back_cases : (m ≡ given_back m t) ⊎ ((t < 64) × (is_set m t ≡ false) × (m + 2 ^ t ≡ given_back m t))
  back_cases =
      ⊎_elim (λ (l : t < 64). ⊎_elim (λ (e : is_set m t ≡ true). inl (back_free l e))
      (λ (e : is_set m t ≡ false). inr (l, e, back_taken l e)) (bool_cases (is_set m t)))
      (λ (l : 64 ≤ t). inl (back_above l)) (lt_or_ge t 64)

  pub back_other : (j : ℕ) → (j ≡ t → ⊥) → is_set (given_back m t) j ≡ is_set m j
  back_other j d = ⊎_elim (λ e. rw (← e)) (λ w. rw (← w.2) (add_other t m j w.1 d)) back_cases

  pub back_fits : m < 2 ^ 64 → given_back m t < 2 ^ 64
  back_fits h = ⊎_elim (λ e. rw (← e) h) (λ w. rw (← w.2) (add_fits t 64 m w.0 h w.1)) back_cases
