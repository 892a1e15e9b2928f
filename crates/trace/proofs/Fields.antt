-- The fields of a record that stands in a trace, and its spare bytes as numbers. Assumes nothing.
use Prim.Native.Nat.{ℕ, zero, suc, ◌+◌, ◌*◌, ◌≤◌}
use mathlib.Core.Bool.{Bool, true, false, not, ◌||◌, or_assoc, or-true, or-false}
use mathlib.Core.List.{List, [], ◌∷◌, ◌++◌}
use mathlib.Core.Logic.{⊎_elim}
use mathlib.Core.Path.{◌≡◌, refl, sym, ap, ◌∙◌}
use native.Mathlib.Numerals.{add-one}
use native.Mathlib.Omega.{arith}
use lib.Dec.{eqb}
use lib.ListN.{length, take, drop, get_or, length-drop}
use lib.Seq.{drop-cons, drop-drop, take-add, drop_at, length-take-le}
use borrow.Author.Tests.{eq-eqb, ne_eqb}
use Rattle.rules.proofs.Tests.{same_or_not}
use Rattle.le.specs.Le.{le_at}
use Rattle.le.specs.Memory.{part}
use Rattle.le.proofs.Parts.{part_get_d, part_add}
use Rattle.trace.specs.declared.Kind.{Kind}
use Rattle.trace.specs.declared.Kind.TheVariants as K
use Rattle.trace.specs.Record.{first_spare, any_set}

-- a number in a part of the trace
pub le_at_part : (k : ℕ) (t : List ℕ) (place n i : ℕ) → i + k ≤ n → le_at k (part t place n) i ≡ le_at k t (place + i)
unfolding le_at
le_at_part zero t place n i h = refl
le_at_part (suc k) t place n i h =
    let e : place + (i + 1) ≡ place + i + 1 = omega arith in
    let ih : le_at k (part t place n) (i + 1) ≡ le_at k t (place + i + 1) =
    le_at_part k t place n (i + 1) (omega arith) ∙ ap (le_at k t) e in
    rw (part_get_d t place n i (omega arith), ih)

-- the rest of a part
pub drop_part : (k n : ℕ) (t : List ℕ) (place : ℕ) → place + k ≤ length t → drop k (part t place (k + n)) ≡ part t (place + k) n
unfolding part
drop_part k n t place h =
    ap (drop k) (take-add k n (drop place t))
    ∙ drop_at (take k (drop place t)) (take n (drop k (drop place t))) k
    (length-take-le k (drop place t) (omega (arith, length-drop place t)))
    ∙ ap (take n) (drop-drop k place t)

pub set_append : (xs ys : List ℕ) → any_set (xs ++ ys) ≡ (any_set xs || any_set ys)
set_append [] ys = refl
set_append (x ∷ xs) ys =
    ap (λ b. not (eqb x 0) || b) (set_append xs ys) ∙ sym (or_assoc (not (eqb x 0)) (any_set xs) (any_set ys))

sum_set : (a b : ℕ) → not (eqb (a + 256 * b) 0) ≡ (not (eqb a 0) || not (eqb b 0))
sum_set a b =
    ⊎_elim
    (λ (z : a ≡ 0). ⊎_elim (λ (y : b ≡ 0). rw (z, y))
    (λ (y : b ≡ 0 → ⊥). rw (ne_eqb b 0 y, ne_eqb (a + 256 * b) 0 (omega arith), eq-eqb a 0 z))
    (same_or_not b 0))
    (λ (z : a ≡ 0 → ⊥). rw (ne_eqb a 0 z, ne_eqb (a + 256 * b) 0 (omega arith)))
    (same_or_not a 0)

-- a byte is set exactly if the number that they make is not 0
pub set_number : (k : ℕ) (t : List ℕ) (place : ℕ) → place + k ≤ length t → any_set (part t place k) ≡ not (eqb (le_at k t place) 0)
unfolding part le_at
set_number zero t place h = refl
set_number (suc k) t place h =
    let e : drop place t ≡ get_or t place 0 ∷ drop (suc place) t = drop-cons t place 0 (omega arith) in
    let ih : any_set (take k (drop (suc place) t)) ≡ not (eqb (le_at k t (suc place)) 0) = set_number k t (suc place) (omega arith) in
    rw (e, ih, add-one place) (sym (sum_set (get_or t place 0) (le_at k t (suc place))))

-- ---- the spare bytes of the 16 at a place: fields of 4 and 8 bytes, and in a start of 1 and 2 too

module _ (t : List ℕ) (place : ℕ) (h : place + 16 ≤ length t) where
  last_set : any_set (part t (place + 4) 12) ≡ (not (eqb (le_at 4 t (place + 4)) 0) || not (eqb (le_at 8 t (place + 8)) 0))
  last_set =
      let p : place + 4 + 4 ≡ place + 8 = omega arith in
      ap any_set (sym (part_add t (place + 4) 4 8))
      ∙ set_append (part t (place + 4) 4) (part t (place + 4 + 4) 8)
      ∙ rw (p, set_number 4 t (place + 4) (omega arith), set_number 8 t (place + 8) (omega arith))

  pub from_4 : any_set (drop 4 (part t place 16)) ≡ (not (eqb (le_at 4 t (place + 4)) 0) || not (eqb (le_at 8 t (place + 8)) 0))
  from_4 = ap any_set (drop_part 4 12 t place (omega arith)) ∙ last_set

  pub from_1 : any_set (drop 1 (part t place 16))
      ≡ (not (eqb (le_at 1 t (place + 1)) 0) || (not (eqb (le_at 2 t (place + 2)) 0) || any_set (drop 4 (part t place 16))))
  from_1 =
      let p : place + 1 + 1 ≡ place + 2 = omega arith in
      let q : place + 2 + 2 ≡ place + 4 = omega arith in
      ap any_set (drop_part 1 15 t place (omega arith))
      ∙ ap any_set (sym (part_add t (place + 1) 1 14))
      ∙ set_append (part t (place + 1) 1) (part t (place + 1 + 1) 14)
      ∙ rw (
        p,
        set_number 1 t (place + 1) (omega arith),
        ← part_add t (place + 2) 2 12,
        q,
        set_append,
        set_number 2 t (place + 2) (omega arith),
        drop_part 4 12 t place (omega arith),
      )

  -- the spare bytes by the kind of call
  abbrev Spare : Kind → Bool
  Spare k = any_set (drop (first_spare k) (part t place 16))

  -- what is set from byte 4 on is spare in every record
  pub spare_last : (k : Kind) → any_set (drop 4 (part t place 16)) ≡ true → true ≡ Spare k
  spare_last K.TailWrite e = sym e
  spare_last K.HeadWrite e = sym e
  spare_last K.Start e = simp (from_1, e, or-true)
  spare_last K.Finish e = sym e

  module _ (k : Kind) where
    pub spare_4 : (le_at 4 t (place + 4) ≡ 0 → ⊥) → true ≡ Spare k
    spare_4 d = spare_last k (rw (from_4, ne_eqb _ 0 d))

    module _ (z : le_at 4 t (place + 4) ≡ 0) where
      pub spare_8 : (le_at 8 t (place + 8) ≡ 0 → ⊥) → true ≡ Spare k
      spare_8 d = spare_last k (rw (from_4, eq-eqb _ 0 z, ne_eqb _ 0 d))

      module _ (y : le_at 8 t (place + 8) ≡ 0) where
        pub unspare : first_spare k ≡ 4 → false ≡ Spare k
        unspare s = rw (s, from_4, eq-eqb _ 0 z, eq-eqb _ 0 y)

        module _ (s : k ≡ K.Start) where
          pub spare_1 : (le_at 1 t (place + 1) ≡ 0 → ⊥) → true ≡ Spare k
          spare_1 d = rw (s, from_1, ne_eqb _ 0 d)

          pub spare_2 : le_at 1 t (place + 1) ≡ 0 → not (eqb (le_at 2 t (place + 2)) 0) ≡ Spare k
          spare_2 x = rw (s, from_1, eq-eqb _ 0 x, from_4, eq-eqb _ 0 z, eq-eqb _ 0 y) (sym (or-false _))
