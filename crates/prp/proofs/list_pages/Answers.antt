-- Both loops keep the way from the list's start to where they stand. A turn of the outer loop that goes on has followed a pointer.
use borrow.Author.Rules.{rules}
use borrow.Author.Tests.{leb-true, leb-false}
use mathlib.Core.Bool.{Bool, true}
use mathlib.Core.List.{List, [], ◌∷◌, ◌++◌}
use mathlib.Core.Path.{◌≡◌, refl, sym, ◌∙◌}
use native.Mathlib.Nat.{zero-add, le_of_eq}
use native.Mathlib.Omega.{arith}
use Prim.Native.Nat.{ℕ, ◌+◌, ◌%◌, ◌≤◌}
use lib.ListN.{length, length-append}
use Rattle.le.specs.Le.{le_at}
use Rattle.prp.specs.Pages.{page_size}
use Rattle.prp.specs.Walk.{in_memory}
use Rattle.prp.specs.Answer.{counted}
use Rattle.prp.proofs.Touched.{page_low, page_eight}
use Rattle.prp.proofs.Lists.{Read}
use Rattle.prp.proofs.Between.{pointers_few, begin, begin_run, not_inside, not_aligned, next, follow, last}
use Rattle.prp.proofs.list_pages.Goals as goal

inside : (m : List ℕ) (at : ℕ) {b : Bool} → b ≡ in_memory m at → b ≡ true → at + 8 ≤ length m
unfolding in_memory
inside m at is h = leb-true _ _ (sym is ∙ h)

-- the entry is not refused
read :
    (page : ℕ) (m : List ℕ) (at : ℕ) {e o : ℕ} {b : Bool} → b ≡ in_memory m at → b ≡ true → e ≡ le_at 8 m at → o ≡ e % page → o ≡ 0
    → Read page m at e
read page m at lies is_in is offset zero = record { inside = inside _ _ lies is_in; is = is; aligned = sym offset ∙ zero }

pub pages-init : goal.pages-init
pages-init c =
    (begin (search rules), search rules)

pub entries_from-requires : goal.entries_from-requires
entries_from-requires c =
    c.pages.invariant.1

pub entries-init : goal.entries-init
entries-init c =
    (c.pages.invariant.0, begin_run _ (page_low c.args.page.number) c.entries_from.ensures c.min-more.ensures)

pub overflow_add-reads : goal.overflow_add-reads
overflow_add-reads c =
    let a = c.args in
    let t = c.entries.invariant.0 in
    omega (arith, t.many, t.reads, pointers_few (page_size a.page.number) a.start a.count (page_low a.page.number) (omega arith))

pub pages-smaller : goal.pages-smaller
pages-smaller c =
    let d =
    read (page_size c.args.page.number) c.args.memory.now _ c.in_memory.ensures c.if-not-in_memory.false c.get-entry.ensures.0
    c.offset.ensures.0 c.if-offset-ne0.false in
    (follow c.entries.invariant.0 d c.entries.invariant.1 (le_of_eq c.if-more-eq1.true) c.if-left-eq1.false).1

pub pages-preserved : goal.pages-preserved
pages-preserved c =
    let d =
    read (page_size c.args.page.number) c.args.memory.now _ c.in_memory.ensures c.if-not-in_memory.false c.get-entry.ensures.0
    c.offset.ensures.0 c.if-offset-ne0.false in
    let t = follow c.entries.invariant.0 d c.entries.invariant.1 (le_of_eq c.if-more-eq1.true) c.if-left-eq1.false in
    (t.0, omega (arith, d.aligned, page_eight c.args.page.number c.get-entry.result))

pub entries-preserved : goal.entries-preserved
entries-preserved c =
    let d =
    read (page_size c.args.page.number) c.args.memory.now _ c.in_memory.ensures c.if-not-in_memory.false c.get-entry.ensures.0
    c.offset.ensures.0 c.if-offset-ne0.false in
    next c.entries.invariant.0 d c.entries.invariant.1 c.if-more-eq1.false

pub returns-then-not-in_memory : goal.returns-then-not-in_memory
unfolding counted in_memory
returns-then-not-in_memory c =
    rw (not_inside c.entries.invariant.0 (leb-false _ _ (sym c.in_memory.ensures ∙ c.if-not-in_memory.true))) refl

pub returns-then-offset-ne0 : goal.returns-then-offset-ne0
unfolding counted
returns-then-offset-ne0 c =
    let t = c.entries.invariant.0 in
    let lies = inside _ _ c.in_memory.ensures c.if-not-in_memory.false in
    let d = c.offset.ensures.0 in
    rw (not_aligned t lies (λ h. c.if-offset-ne0.true (d ∙ rw c.get-entry.ensures.0 h))) refl

pub returns-then-left-eq1 : goal.returns-then-left-eq1
unfolding counted
returns-then-left-eq1 c =
    let d =
    read (page_size c.args.page.number) c.args.memory.now _ c.in_memory.ensures c.if-not-in_memory.false c.get-entry.ensures.0
    c.offset.ensures.0 c.if-offset-ne0.false in
    let t = c.entries.invariant.0 in
    let all = t.done ++ (c.get-entry.result ∷ []) in
    let many : 1 + length all ≡ c.args.count + 1 = simp length-append (omega (arith, t.many)) in
    rw (last t d (page_low c.args.page.number) c.if-left-eq1.true, many, zero-add) refl

pub get-entry-requires-clause-room : goal.get-entry-requires-clause-room
get-entry-requires-clause-room c =
    inside _ _ c.in_memory.ensures c.if-not-in_memory.false

pub overflow_add-at : goal.overflow_add-at
overflow_add-at c =
    omega (arith, inside _ _ c.in_memory.ensures c.if-not-in_memory.false)
