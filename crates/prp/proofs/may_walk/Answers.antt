-- `prp::may_walk` meets its contract: each return is a row of the table. Assumes nothing.
use borrow.Author.Tests.{lt-ltb, le-ltb, eq-eqb, ne_eqb}
use mathlib.Core.Bool.{false, ◌||◌}
use mathlib.Core.Path.{◌≡◌, sym}
use Prim.Native.Nat.{ℕ, ◌*◌, ◌%◌, ◌≤◌}
use lib.Dec.{ltb}
use Rattle.rules.specs.Rules.{pick, first_match, outside_of}
use Rattle.prp.specs.Pages.{longest, page_size, pages_touched}
use Rattle.prp.specs.Walk.{before_walk}
use Rattle.prp.proofs.may_walk.Goals as goal
use Rattle.prp.proofs.may_walk.Goals.{then-len-lt1-via-then-len-lt1, then-len-lt1-via-else-len-lt1+then-len-gt-MOST_BYTES}
use Rattle.prp.proofs.may_walk.Goals.{then-address_room-count-via-then-address_room-count}
use Rattle.prp.proofs.may_walk.Goals.{then-address_room-count-via-else-address_room-count+then-count_room-count}

in_range : (len : ℕ) → 1 ≤ len → len ≤ longest → outside_of 1 longest len ≡ false
in_range len some few = simp (le-ltb _ _ some, le-ltb _ _ few)

-- the last row decides
buffers :
    (prp1 len page address_room count_room n : ℕ) → outside_of 1 longest len ≡ false → page ≤ 4 → prp1 % 4 ≡ 0
    → n ≡ pages_touched (page_size page) prp1 len
    → first_match (before_walk prp1 len page address_room count_room)
    ≡ pick (ltb address_room (8 * n) || ltb count_room (4 * n)) 21 0
unfolding before_walk
buffers prp1 len page address_room count_room n range size aligned is = simp (range, le-ltb _ _ size, eq-eqb _ _ aligned, sym is)

pub returns-then-len-lt1-clause-number : goal.returns-then-len-lt1-clause-number
unfolding before_walk
returns-then-len-lt1-clause-number c =
    elim c.then-len-lt1.branch [
      | then-len-lt1-via-then-len-lt1 w ↦ simp (lt-ltb _ _ w.if-len-lt1.true)
      | then-len-lt1-via-else-len-lt1+then-len-gt-MOST_BYTES w ↦
          simp (le-ltb _ _ w.if-len-lt1.false, lt-ltb _ _ w.if-len-gt-MOST_BYTES.true)
    ]

pub returns-then-page-gt4-clause-number : goal.returns-then-page-gt4-clause-number
unfolding before_walk
returns-then-page-gt4-clause-number c =
    simp (in_range _ c.if-len-lt1.false c.if-len-gt-MOST_BYTES.false, lt-ltb _ _ c.if-page-gt4.true)

pub returns-then-prp1-ne0-clause-number : goal.returns-then-prp1-ne0-clause-number
unfolding before_walk
returns-then-prp1-ne0-clause-number c =
    simp (
      in_range _ c.if-len-lt1.false c.if-len-gt-MOST_BYTES.false,
      le-ltb _ _ c.if-page-gt4.false,
      ne_eqb _ _ c.if-prp1-ne0.true,
    )

pub returns-then-address_room-count-clause-number : goal.returns-then-address_room-count-clause-number
returns-then-address_room-count-clause-number c =
    let a = c.args in
    let range = in_range _ c.if-len-lt1.false c.if-len-gt-MOST_BYTES.false in
    let row = buffers a.prp1 a.len a.page a.address_room a.count_room _ range c.if-page-gt4.false c.if-prp1-ne0.false
    c.touched-count.ensures.0 in
    rw row (elim c.then-address_room-count.branch [
      | then-address_room-count-via-then-address_room-count w ↦ simp (lt-ltb _ _ w.if-address_room-count.true)
      | then-address_room-count-via-else-address_room-count+then-count_room-count w ↦
          simp (le-ltb _ _ w.if-address_room-count.false, lt-ltb _ _ w.if-count_room-count.true)
    ])

pub returns-clause-number : goal.returns-clause-number
returns-clause-number c =
    let a = c.args in
    let range = in_range _ c.if-len-lt1.false c.if-len-gt-MOST_BYTES.false in
    let row = buffers a.prp1 a.len a.page a.address_room a.count_room _ range c.if-page-gt4.false c.if-prp1-ne0.false
    c.touched-count.ensures.0 in
    rw row (simp (le-ltb _ _ c.if-address_room-count.false, le-ltb _ _ c.if-count_room-count.false))
