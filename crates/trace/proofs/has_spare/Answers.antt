-- `has_spare` meets its contract: each field of the spare bytes is tested. Assumes nothing.
use mathlib.Core.Logic.{⊎_elim}
use mathlib.Core.Path.{◌≡◌, sym, ap, ◌∙◌}
use borrow.Author.Tests.{ne_eqb}
use Rattle.trace.specs.Record.{first_spare}
use Rattle.trace.proofs.Fields.{spare_4, spare_8, unspare, spare_1, spare_2}
use Rattle.trace.proofs.has_spare.Goals as goal

pub returns-then-get-ne0 : goal.returns-then-get-ne0
returns-then-get-ne0 c =
    spare_4 _ _ c.requires c.args.kind (λ z. c.if-get-ne0.true (c.get.ensures.0 ∙ z))

pub returns-then-get-ne0-2 : goal.returns-then-get-ne0-2
returns-then-get-ne0-2 c =
    spare_8 _ _ c.requires c.args.kind (sym c.get.ensures.0 ∙ c.if-get-ne0.false) (λ z. c.if-get-ne0-2.true (c.get-2.ensures.0 ∙ z))

pub returns-then-get-ne0-3 : goal.returns-then-get-ne0-3
returns-then-get-ne0-3 c =
    rw (ne_eqb _ 0 c.if-get-ne0-3.true)
    (spare_1 _ _ c.requires c.args.kind
    (sym c.get.ensures.0 ∙ c.if-get-ne0.false) (sym c.get-2.ensures.0 ∙ c.if-get-ne0-2.false) c.in-Start.is
    (λ z. c.if-get-ne0-3.true (c.get-in-Start.ensures.0 ∙ z)))

pub returns-else-get-ne0-3 : goal.returns-else-get-ne0-3
returns-else-get-ne0-3 c =
    rw c.get-else-get-ne0-3.ensures.0
    (spare_2 _ _ c.requires c.args.kind
    (sym c.get.ensures.0 ∙ c.if-get-ne0.false) (sym c.get-2.ensures.0 ∙ c.if-get-ne0-2.false) c.in-Start.is
    (sym c.get-in-Start.ensures.0 ∙ c.if-get-ne0-3.false))

pub returns-in-TailWrite : goal.returns-in-TailWrite
returns-in-TailWrite c =
    let last : first_spare c.args.kind ≡ 4 = ⊎_elim (ap first_spare) (⊎_elim (ap first_spare) (ap first_spare)) c.in-TailWrite.is in
    unspare _ _ c.requires c.args.kind
    (sym c.get.ensures.0 ∙ c.if-get-ne0.false) (sym c.get-2.ensures.0 ∙ c.if-get-ne0-2.false) last
