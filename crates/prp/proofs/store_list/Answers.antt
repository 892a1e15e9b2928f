-- Both loops keep the way from the list's start to where they stand, and what the buffer comes to once the rest of the list is stored.
-- A turn of the outer loop that goes on has followed a pointer.
use borrow.Author.Rules.{rules}
use mathlib.Core.List.{List, [], ◌∷◌, ◌++◌}
use mathlib.Core.Path.{◌≡◌, refl, ◌∙◌}
use native.Mathlib.Omega.{arith}
use Prim.Native.Nat.{ℕ, ◌+◌, ◌-◌, ◌*◌, ◌≤◌, ◌<◌}
use lib.Seq.{sets}
use Rattle.le.specs.Le.{le, le_at}
use Rattle.prp.specs.Walk.{Walk, after, list}
use Rattle.prp.specs.Answer.{addresses_of}
use Rattle.prp.proofs.Touched.{page_low, page_eight}
use Rattle.prp.proofs.Buffers.{numbers_one, first_then}
use Rattle.prp.proofs.Lists.{after_found, Read}
use Rattle.prp.proofs.Between.{pointers, Run, begin, begin_run, good_entry, last_is, next_is, follow_is, follow}
use Rattle.prp.proofs.Between as between
use Rattle.prp.proofs.store_list.Goals as goal
use Rattle.prp.proofs.store_list.Invariants.{Copy, full}

module _
    {page : ℕ} {m : List ℕ} {start count : ℕ} {old : List ℕ} {a₀ left₀ to₀ : ℕ} {buf : List ℕ} {a left to : ℕ}
    (t : Copy page m start count old a₀ left₀ to₀ buf a left to) where
  again : Copy page m start count buf a left to buf a left to
  again = record { n = t.n; way = t.way; good = t.good; place = t.place; kept = refl }

  rest : (l : List ℕ) (k : ℕ) (w : Walk) → list page m left a ≡ after l k w → addresses_of (list page m left a) ≡ l ++ addresses_of w
  rest l k w e = (after_found l k w e (after_found t.way.done t.n _ t.way.is t.good).0).1

  module _ {e : ℕ} (is : e ≡ le_at 8 m a) where
    read : Read page m a e
    read = good_entry t.way t.good is

    -- the last address is stored
    last : 4096 ≤ page → left ≡ 1 → sets buf to (le 8 e) ≡ full page m old to₀ a₀ left₀
    unfolding addresses_of
    last low h = rw (numbers_one 8 e) (rw (last_is t.way read low h) at t.kept)

    module _ {a₁ left₁ more : ℕ} (r : Run page a₁ left₁ a left more) where
      -- an address is stored
      next :
          (more ≡ 1 → ⊥) →
          Copy page m start count old a₀ left₀ to₀ (sets buf to (le 8 e)) (a + 8) (left - 1) (to + 8)
          × Run page a₁ left₁ (a + 8) (left - 1) (more - 1)
      next h =
          let s = between.next t.way read r h in
          let kept = rw (rest (e ∷ []) 1 _ (next_is t.way read r h)) at t.kept in
          let place : to + 8 + 8 * (left - 1) ≡ 8 + 8 * count = omega (arith, t.way.some, t.place) in
          (record { n = t.n + 1; way = s.0; good = t.good; place = place; kept = first_then 8 buf to e _ ∙ kept }, s.1)

      -- a pointer is followed
      followed :
          more ≤ 1 → (left ≡ 1 → ⊥) →
          Copy page m start count old a₀ left₀ to₀ buf e left to × (pointers page e left < pointers page a₁ left₁)
      followed one h =
          let s = follow t.way read r one h in
          let kept = rw (rest [] 1 _ (follow_is t.way read r one h)) at t.kept in
          (record { n = t.n + 1; way = s.0; good = t.good; place = t.place; kept = kept }, s.1)

-- from the function's entry to the head of the inner loop
copy :
    {page : ℕ} {m : List ℕ} {start count : ℕ} {old mid buf : List ℕ} {a₁ left₁ to₁ a left to : ℕ}
    → Copy page m start count mid a₁ left₁ to₁ buf a left to → Copy page m start count old start count 8 mid a₁ left₁ to₁
    → Copy page m start count old start count 8 buf a left to
copy t u = record { n = t.n; way = t.way; good = t.good; place = t.place; kept = t.kept ∙ u.kept }

pub loop-addresses-init : goal.loop-addresses-init
loop-addresses-init c =
    (record { n = 0; way = begin (search rules); good = c.requires.found; place = omega arith; kept = refl }, search rules)

pub loop-more-init : goal.loop-more-init
loop-more-init c =
    (again c.loop-addresses.invariant.0, begin_run _ (page_low c.args.page.number) c.entries_from.ensures c.min-more.ensures)

-- the entry that is read lies in memory
pub get-requires-clause-room : goal.get-requires-clause-room
get-requires-clause-room c = (read c.loop-more.invariant.0 refl).inside

pub overflow_add-at : goal.overflow_add-at
overflow_add-at c = omega (arith, (read c.loop-more.invariant.0 refl).inside)

pub loop-more-preserved : goal.loop-more-preserved
loop-more-preserved c =
    let t = c.loop-more.invariant in
    rw c.put.ensures (next t.0 c.get.ensures.0 t.1 (λ h. omega arith))

pub get-entry-requires-clause-room : goal.get-entry-requires-clause-room
get-entry-requires-clause-room c = (read c.loop-more.invariant.0 refl).inside

pub returns-then-left-eq1 : goal.returns-then-left-eq1
returns-then-left-eq1 c =
    let t = copy c.loop-more.invariant.0 c.loop-addresses.invariant.0 in
    c.put-then-left-eq1.ensures ∙ last t c.get-entry.ensures.0 (page_low c.args.page.number) c.if-left-eq1.true

pub loop-addresses-smaller : goal.loop-addresses-smaller
loop-addresses-smaller c =
    let t = copy c.loop-more.invariant.0 c.loop-addresses.invariant.0 in
    (followed t c.get-entry.ensures.0 c.loop-more.invariant.1 c.loop-more-test.false c.if-left-eq1.false).1

pub loop-addresses-preserved : goal.loop-addresses-preserved
loop-addresses-preserved c =
    let t = copy c.loop-more.invariant.0 c.loop-addresses.invariant.0 in
    let f = followed t c.get-entry.ensures.0 c.loop-more.invariant.1 c.loop-more-test.false c.if-left-eq1.false in
    let d = read t c.get-entry.ensures.0 in
    (f.0, omega (arith, d.aligned, page_eight c.args.page.number c.get-entry.result))
