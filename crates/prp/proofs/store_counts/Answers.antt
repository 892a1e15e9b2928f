-- The byte counts are stored one after the other, and what is left is split over the pages that follow.
use borrow.Author.Rules.{rules}
use mathlib.Core.List.{List}
use mathlib.Core.Path.{◌≡◌, refl, ◌∙◌}
use native.Mathlib.Nat.{sub-zero}
use native.Mathlib.Numerals.{add-one}
use native.Mathlib.Omega.{arith}
use Prim.Native.Nat.{ℕ, suc, ◌-◌, ◌*◌, ◌<◌, min}
use lib.ListN.{length, take, drop}
use lib.Seq.{sets, length-take-le, take_all}
use Rattle.le.specs.Le.{le}
use Rattle.prp.specs.Pages.{page_size, split, byte_counts}
use Rattle.prp.specs.Answer.{numbers}
use Rattle.prp.proofs.Touched.{page_low}
use Rattle.prp.proofs.Counts.{counts_length, split_next, ends_touched, ends_full, ends_next, ends_last}
use Rattle.prp.proofs.Buffers.{store_next, numbers_put, take_next, drop_next}
use Rattle.prp.proofs.store_counts.Goals as goal

module _ (page prp1 len count : ℕ) where
  -- the byte counts of all pages
  abbrev all : List ℕ
  all = byte_counts page prp1 len count

  size : length all ≡ count
  size = counts_length page prp1 len count

  -- the count of the next page is stored, and what is left is split over the others
  stored :
      (buf old : List ℕ) (i room left x : ℕ) → buf ≡ sets old 0 (numbers 4 (take i all)) → drop i all ≡ split page room left (count - i)
      → i < count → x ≡ min room left
      → (sets buf (4 * i) (le 4 x) ≡ sets old 0 (numbers 4 (take (suc i) all)))
      × (drop (suc i) all ≡ split page page (left - x) (count - suc i))
  stored buf old i room left x done rest h e =
      let cut = rest ∙ split_next page room left count i h e in
      let long = length-take-le i all (omega (arith, size)) in
      (store_next 4 old (take i all) x done long (take_next all i cut), drop_next all i cut)

pub loop-i-init : goal.loop-i-init
unfolding numbers byte_counts
loop-i-init c =
    let a = c.args in
    let ends = ends_touched (page_size a.page.number) a.prp1 a.len (page_low a.page.number) c.requires.some.0 in
    let p = c.size.ensures.0 in
    let o = c.offset.ensures.0 in
    (omega arith, (refl, rw (sub-zero a.count, sub-zero (a.count - 1), p, o) (refl, rw c.requires.count_value.0 ends)))

pub loop-i-preserved : goal.loop-i-preserved
loop-i-preserved c =
    let a = c.args in
    let t = c.loop-i.invariant in
    -- a page before the last is full
    let full : c.loop-i.room < c.loop-i.left = ends_full (search rules) t.1.1.1 in
    let s = stored (page_size a.page.number) a.prp1 a.len a.count _ _ _ _ _ c.loop-i.room t.1.0 t.1.1.0 (search rules) (omega (arith, full)) in
    let ends = ends_next (a.count - 1 - suc c.loop-i.i) (omega arith) t.1.1.1 in
    rw (add-one, c.size-room.ensures.0) (omega arith, (c.put.ensures ∙ s.0, (s.1, ends)))

pub returns : goal.returns
returns c =
    let a = c.args in
    let t = c.loop-i.invariant in
    let each = all (page_size a.page.number) a.prp1 a.len a.count in
    let sized : length each ≡ a.count = size (page_size a.page.number) a.prp1 a.len a.count in
    let rest = ends_last (omega arith) t.1.1.1 in
    let at_last : a.count - 1 ≡ c.loop-i.i = omega arith in
    let done : suc c.loop-i.i ≡ a.count = omega arith in
    let s = (stored (page_size a.page.number) a.prp1 a.len a.count _ _ _ _ _ c.loop-i.left t.1.0 t.1.1.0 (omega arith) (omega (arith, rest))).0 in
    let whole = take_all a.count each (omega (arith, sized)) in
    c.put-2.ensures ∙ rw at_last (rw (done, whole) at s) ∙ numbers_put 4 _ each (rw sized c.requires.count_value.1)
