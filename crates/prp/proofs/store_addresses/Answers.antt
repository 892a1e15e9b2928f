-- The addresses that are stored are those of the walk: PRP1 first, and then none, PRP2, or those of the list.
use borrow.Author.Rules.{rules}
use borrow.Author.Tests.{ne_eqb, eqb-true}
use mathlib.Core.Bool.{Bool, true, false}
use mathlib.Core.List.{List, [], ◌∷◌}
use mathlib.Core.Path.{◌≡◌, refl, ap, subst, ◌∙◌}
use native.Mathlib.Omega.{arith}
use Prim.Native.Nat.{ℕ, ◌-◌, ◌*◌, ◌%◌, ◌≤◌, ◌<◌}
use lib.Dec.{eqb}
use lib.ListN.{length}
use lib.Seq.{sets}
use Rattle.le.specs.Le.{le}
use Rattle.le.specs.Memory.{put}
use Rattle.prp.specs.Pages.{page_size, most_pages}
use Rattle.prp.specs.Walk.{Walk, demand, after, list, data_pages}
use Rattle.prp.specs.Answer.{addresses_of, numbers, Found}
use Rattle.prp.proofs.Touched.{page_low, page_eight}
use Rattle.prp.proofs.Addresses.{pages_length}
use Rattle.prp.proofs.Lists.{after_found}
use Rattle.prp.proofs.Buffers.{numbers_one, first_then, numbers_put}
use Rattle.prp.proofs.store_addresses.Goals as goal

demanded : (test : Bool) (number : ℕ) (w : Walk) → Found (demand test number w) → (test ≡ true) × Found w
unfolding Found
demanded true number w f = (refl, f)
demanded false number w f = absurd f

module _ (k : ℕ) (m : List ℕ) (prp1 prp2 count : ℕ) (good : Found (data_pages (page_size k) m prp1 prp2 count)) where
  -- the walk, and the list in it
  abbrev walk : Walk
  walk = data_pages (page_size k) m prp1 prp2 count

  abbrev listed : Walk
  listed = list (page_size k) m (count - 1) prp2

  one_page : count ≡ 1 → addresses_of walk ≡ prp1 ∷ []
  unfolding data_pages addresses_of
  one_page e = rw e refl

  two_pages : count ≡ 2 → addresses_of walk ≡ prp1 ∷ prp2 ∷ []
  unfolding data_pages addresses_of
  two_pages e = rw (e, (demanded (eqb (prp2 % page_size k) 0) 18 _ (rw e at good)).0) refl

  module _ (not_one : count ≡ 1 → ⊥) (not_two : count ≡ 2 → ⊥) where
    by_list : walk ≡ demand (eqb (prp2 % 8) 0) 18 (after (prp1 ∷ []) 0 listed)
    unfolding data_pages
    by_list = rw (ne_eqb count 1 not_one, ne_eqb count 2 not_two)

    list_good : (prp2 % 8 ≡ 0) × (Found listed × (addresses_of walk ≡ prp1 ∷ addresses_of listed))
    list_good =
        let d = demanded (eqb (prp2 % 8) 0) 18 (after (prp1 ∷ []) 0 listed) (subst Found by_list good) in
        (eqb-true (prp2 % 8) 0 d.0, after_found (prp1 ∷ []) 0 listed (by_list ∙ rw d.0 refl) good)

  -- PRP1 is stored, and then the addresses l
  stored :
      (old : List ℕ) {mid buf l : List ℕ} → 0 < count → count ≤ most_pages → 8 * count ≤ length old → addresses_of walk ≡ prp1 ∷ l
      → mid ≡ sets old 0 (le 8 prp1) → buf ≡ sets mid 8 (numbers 8 l) → buf ≡ put old 0 (numbers 8 (addresses_of walk))
  stored old some most fit is e f =
      let len = pages_length (page_size k) m prp1 prp2 (page_low k) (page_eight k 0).0 _ some most good in
      f ∙ rw (e, is) (first_then 8 old 0 prp1 _) ∙ numbers_put 8 _ (addresses_of walk) (omega (arith, len))

pub returns-then-count-eq1 : goal.returns-then-count-eq1
unfolding numbers
returns-then-count-eq1 c =
    let a = c.args in
    let p = c.requires.room in
    let one = one_page a.page.number a.memory.now a.prp1 a.prp2 a.count c.requires.found c.if-count-eq1.true in
    stored a.page.number a.memory.now a.prp1 a.prp2 a.count c.requires.found a.addresses.now p.0 p.1.0 p.1.1 one c.put.ensures refl

pub returns-then-count-eq2 : goal.returns-then-count-eq2
returns-then-count-eq2 c =
    let a = c.args in
    let p = c.requires.room in
    let two = two_pages a.page.number a.memory.now a.prp1 a.prp2 a.count c.requires.found c.if-count-eq2.true in
    stored a.page.number a.memory.now a.prp1 a.prp2 a.count c.requires.found a.addresses.now p.0 p.1.0 p.1.1 two c.put.ensures
    (c.put-then-count-eq2.ensures ∙ ap (sets _ 8) (numbers_one 8 a.prp2))

pub store_list-requires : goal.store_list-requires
store_list-requires c =
    let a = c.args in
    let g = list_good a.page.number a.memory.now a.prp1 a.prp2 a.count c.requires.found c.if-count-eq1.false c.if-count-eq2.false in
    record { room = (search rules, (search rules, (g.0, search rules))); found = g.1.0 }

pub returns : goal.returns
returns c =
    let a = c.args in
    let p = c.requires.room in
    let g = list_good a.page.number a.memory.now a.prp1 a.prp2 a.count c.requires.found c.if-count-eq1.false c.if-count-eq2.false in
    stored a.page.number a.memory.now a.prp1 a.prp2 a.count c.requires.found a.addresses.now p.0 p.1.0 p.1.1 g.1.1
    c.put.ensures c.store_list.ensures
