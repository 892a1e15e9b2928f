-- `prp::data_pages` meets its contract: one page, two pages, or a list. Assumes nothing.
use borrow.Author.Tests.{eq-eqb, ne_eqb}
use mathlib.Core.List.{[], ◌∷◌}
use mathlib.Core.Path.{◌≡◌, refl, sym, ◌∙◌}
use native.Mathlib.Numerals.{one-add}
use Prim.Native.Nat.{ℕ}
use Rattle.prp.specs.Walk.{Walk, refused, found, after, data_pages}
use Rattle.prp.specs.Answer.{answer, counted}
use Rattle.prp.proofs.data_pages.Goals as goal

after_first : (prp1 : ℕ) (w : Walk) → counted 1 0 w ≡ answer (after (prp1 ∷ []) 0 w)
unfolding counted answer after
after_first prp1 (refused number) = refl
after_first prp1 (found l n) = rw one-add

pub returns-then-count-eq1 : goal.returns-then-count-eq1
unfolding data_pages answer
returns-then-count-eq1 c prp1 =
    rw c.if-count-eq1.true refl

pub returns-then-offset-ne0 : goal.returns-then-offset-ne0
unfolding data_pages answer
returns-then-offset-ne0 c prp1 =
    rw (c.if-count-eq2.true, ne_eqb _ 0 (λ h. c.if-offset-ne0.true (c.offset.ensures.0 ∙ h))) refl

pub returns-then-count-eq2 : goal.returns-then-count-eq2
unfolding data_pages answer
returns-then-count-eq2 c prp1 =
    rw (c.if-count-eq2.true, eq-eqb _ 0 (sym c.offset.ensures.0 ∙ c.if-offset-ne0.false)) refl

pub returns-then-prp2-ne0 : goal.returns-then-prp2-ne0
unfolding data_pages answer
returns-then-prp2-ne0 c prp1 =
    rw (ne_eqb _ 1 c.if-count-eq1.false, ne_eqb _ 2 c.if-count-eq2.false, ne_eqb _ 0 c.if-prp2-ne0.true) refl

pub returns : goal.returns
unfolding data_pages
returns c prp1 =
    c.list_pages.ensures
    ∙ rw (ne_eqb _ 1 c.if-count-eq1.false, ne_eqb _ 2 c.if-count-eq2.false, eq-eqb _ 0 c.if-prp2-ne0.false) (after_first prp1 _)
