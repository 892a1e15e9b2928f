-- `arbiter::Arbiter::choose_weighted` meets its contract. Assumes nothing.
use mathlib.Core.Path.{sym, ◌∙◌}
use Rattle.arbiter.proofs.Mechanisms.{weight_admin, weight_urgent, weight_level}
use Rattle.arbiter.proofs.Arbiter.choose_weighted.Goals as goal

pub returns-then-is_candidate : goal.returns-then-is_candidate
returns-then-is_candidate c =
    weight_admin _ _ (sym c.is_candidate.ensures ∙ c.if-is_candidate.true)

pub returns-in-Some : goal.returns-in-Some
returns-in-Some c =
    weight_urgent _ _ (sym c.is_candidate.ensures ∙ c.if-is_candidate.false)
    (sym c.in-Some.is ∙ c.choose_group.ensures)

pub returns : goal.returns
returns c =
    c.choose_level.ensures
    ∙ weight_level _ _ (sym c.is_candidate.ensures ∙ c.if-is_candidate.false) c.refilled_if_due.ensures
    (sym c.in_default.is ∙ c.choose_group.ensures)
