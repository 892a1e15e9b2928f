-- Which tags are taken, and when too few are free, said of the tags that are free and without counting. Assumes nothing.
use Rattle.std.specs.Prelude.{Some, None}
use Prim.Native.Nat.{ℕ, ◌+◌, ◌^◌, ◌≤◌, ◌<◌}
use mathlib.Core.Bool.{true, false}
use mathlib.Core.Logic.{⊎_elim, ◌↔◌}
use mathlib.Core.Path.{◌≡◌, sym, ap, ◌∙◌}
use native.Mathlib.Nat.{eq-zero-or-pos}
use native.Mathlib.Omega.{arith}
use lib.Dec.{lit<}
use Rattle.rules.proofs.Cases.{some_both}
use Rattle.rules.proofs.Tests.{lt_or_ge, same_or_not, clash}
use Rattle.bits.specs.Bits.{is_set}
use Rattle.bits.specs.Tags.{free_count, lowest, without, taken_one, taken_two, given_back}
use Rattle.bits.proofs.Bits.{set_high, sub_fits, sub_other, ones_sub}
use Rattle.bits.proofs.First.{first_is, count_ones}
use Rattle.bits.proofs.Tags.{rest, OneTaken, lowest_taken, one_some, one_taken_lem, none_free, free_pos, lowest_two, two_some, two_taken}
use Rattle.bits.proofs.Tags.{too_few, back_taken}

-- a mask with a tag free is not 0
some_free : (m t : ℕ) → is_set m t ≡ true → 0 < m
some_free m t e =
    ⊎_elim (λ (z : m ≡ 0). absurd (clash e (ap (λ (x : ℕ). is_set x t) z ∙ set_high 0 0 t (lit< tt) (omega arith)))) (λ (p : 0 < m). p)
    (eq-zero-or-pos m)

module _ (m : ℕ) (h : m < 2 ^ 64) where
  -- tag t is the lowest that is free
  abbrev pub Lowest : ℕ → Type 0
  Lowest t = (t < 64) × (is_set m t ≡ true) × ((j : ℕ) → j < t → is_set m j ≡ false)

  lowest_is : (t : ℕ) → Lowest t → lowest m ≡ t
  lowest_is t (l, y, n) = first_is (is_set m) 0 64 t (omega arith) (omega arith) y (λ j a b. n j b)

  -- "the tag is the lowest that is free", and the mask left is without it
  pub one_exact : (t left : ℕ) → (taken_one m ≡ Some (t, left)) ↔ (Lowest t × (left + 2 ^ t ≡ m))
  one_exact t left = (to, back)
    where
      to : taken_one m ≡ Some (t, left) → Lowest t × (left + 2 ^ t ≡ m)
      to e =
          let o = one_taken_lem m h e in
          let q = one_some m h (some_free m t o.free) in
          let is = some_both (q ∙ e) in
          let et = is.0 in
          let el = is.1 in
          let f = sub_fits t m o.free in
          let g : without m t ≡ left = ap (without m) (sym et) ∙ el in ((o.low, o.free, o.lower), omega arith)

      back : Lowest t × (left + 2 ^ t ≡ m) → taken_one m ≡ Some (t, left)
      back (w, q) =
          let e = lowest_is t w in
          let l : without m t ≡ left = omega arith in
          sym (one_some m h (some_free m t w.1)) ∙ ap (λ (k : ℕ). Some (k, (without m k))) e ∙ ap (λ (k : ℕ). Some (t, k)) l

  -- "too few free tags" for one command: none is free
  pub none_exact : (taken_one m ≡ None) ↔ ((t : ℕ) → t < 64 → is_set m t ≡ false)
  none_exact = (
    λ e t l. ap (λ (x : ℕ). is_set x t) ((none_free m h).0 e) ∙ set_high 0 0 t (lit< tt) (omega arith),
    λ n. ⊎_elim (λ (z : m ≡ 0). (none_free m h).1 z)
        (λ (p : 0 < m). let o = lowest_taken m h p in absurd (clash o.free (n (lowest m) o.low))) (eq-zero-or-pos m),
  )

  -- two tags that are free are counted
  two_free : (t u : ℕ) → t < u → is_set m t ≡ true → is_set m u ≡ true → 2 ≤ free_count m
  two_free t u l y z =
      let f : without m t < 2 ^ 64 = omega arith in
      let s : is_set (without m t) u ≡ true = sub_other t m u y (λ q. omega arith) ∙ z in
      let p = (free_pos (without m t) f).1 (some_free (without m t) u s) in
      omega (arith, p, count_ones 64 (without m t) f, count_ones 64 m h, ones_sub t m y)

  -- tags t and u are the two lowest that are free
  abbrev pub TwoLowest : ℕ → ℕ → Type 0
  TwoLowest t u =
      (t < u) × (u < 64) × (is_set m t ≡ true) × (is_set m u ≡ true) × ((j : ℕ) → j < u → (j ≡ t → ⊥) → is_set m j ≡ false)

  -- "A pair takes the two lowest free, the first half the lower", and the mask left is without them
  pub two_exact : (t u left : ℕ) → (taken_two m ≡ Some (t, u, left)) ↔ (TwoLowest t u × (left + 2 ^ t + 2 ^ u ≡ m))
  two_exact t u left = (to, back)
    where
      to : taken_two m ≡ Some (t, u, left) → TwoLowest t u × (left + 2 ^ t + 2 ^ u ≡ m)
      to e =
          let w = two_taken m h e in
          let q = two_some m h (two_free t u w.rising w.first.free w.both) in
          let is : ◌≡◌ {A = ℕ × ℕ × ℕ} (lowest m, lowest (rest m), rest (rest m)) (t, u, left) = cc in
          let et = ap (λ (x : ℕ × ℕ × ℕ). x.0) is in
          let eu = ap (λ (x : ℕ × ℕ × ℕ). x.1) is in
          let el = ap (λ (x : ℕ × ℕ × ℕ). x.2) is in
          let f = sub_fits t m w.first.free in
          let g = sub_fits u (without m t) w.second.free in
          let r : without (without m t) u ≡ left =
          ap (λ (k : ℕ). without (without m t) k) (sym eu) ∙ ap (λ (k : ℕ). without (without m k) (lowest (rest m))) (sym et) ∙ el in
          ((w.rising, w.second.low, w.first.free, w.both, λ j a d. sym (w.first.others j d) ∙ w.second.lower j a), omega arith)

      back : TwoLowest t u × (left + 2 ^ t + 2 ^ u ≡ m) → taken_two m ≡ Some (t, u, left)
      back ((l, k, y, z, n), q) =
          let c = two_free t u l y z in
          let w = lowest_two m h c in
          let et = lowest_is t (omega arith, y, λ j b. n j (omega arith) (λ (i : j ≡ t). omega arith)) in
          let o : OneTaken m t (without m t) = rw et at w.first in
          let s : is_set (without m t) u ≡ true = o.others u (λ (i : u ≡ t). omega arith) ∙ z in
          let eu : lowest (without m t) ≡ u =
          first_is (is_set (without m t)) 0 64 u (omega arith) (omega arith) s
          (λ j a b. ⊎_elim (λ (i : j ≡ t). ap (is_set (without m t)) i ∙ o.gone) (λ d. o.others j d ∙ n j b d) (same_or_not j t)) in
          let left : without (without m t) u ≡ left = omega arith in
          sym (two_some m h c) ∙ rw (et, eu, left)

  -- "too few free tags" for a pair: no two are free
  pub few_exact : (taken_two m ≡ None) ↔ ((t u : ℕ) → t < u → u < 64 → is_set m t ≡ true → is_set m u ≡ true → ⊥)
  few_exact = (
    λ e t u l k y z. let f = (too_few m h).0 e in omega (arith, f, two_free t u l y z),
    λ n. ⊎_elim (λ (l : free_count m < 2). (too_few m h).1 l)
        (λ (l : 2 ≤ free_count m).
        let w = lowest_two m h l in absurd (n _ _ w.rising w.second.low w.first.free w.both)) (lt_or_ge (free_count m) 2),
  )

  -- "a freed tag is used again": given back, it is the lowest that is free
  pub used_again : {t left : ℕ} → taken_one m ≡ Some (t, left) → taken_one (given_back left t) ≡ Some (t, left)
  used_again {t} {left} e =
      let o = one_taken_lem m h e in ap taken_one (sym (back_taken left t o.low o.gone) ∙ ((one_exact t left).0 e).1) ∙ e
