-- `arbiter::Group::turn` meets its contract. Assumes nothing.
use mathlib.Core.Path.{ap, ◌∙◌}
use Rattle.std.specs.Prelude.{Some}
use Rattle.arbiter.specs.Turns.{takes}
use Rattle.arbiter.proofs.Turns.{turn_held, turn_passed}
use Rattle.arbiter.proofs.Choice.{turn_answered}
use Rattle.arbiter.proofs.Group.turn.Goals as goal

-- the clauses by name
named : {A0 A1 : Type 0} → A0 × A1 → record { value : A0; refusal : A1 }
named p = record { value = p.0; refusal = p.1 }

pub returns-then-is_candidate-above_zero : goal.returns-then-is_candidate-above_zero
returns-then-is_candidate-above_zero c =
    named (turn_answered _ c.ranges.mask.fits _ _
    (ap Some c.serve.ensures ∙ turn_held _ _ _ c.is_candidate.ensures c.above_zero.ensures c.if-is_candidate-above_zero.true))

pub returns-in_err-id : goal.returns-in_err-id
returns-in_err-id c =
    named (turn_answered _ c.ranges.mask.fits _ _
    (c.from_residual.ensures ∙ ap (takes _) c.in_err-id.ensures.value
    ∙ turn_passed _ _ _ c.is_candidate.ensures c.above_zero.ensures c.if-is_candidate-above_zero.false))

pub returns : goal.returns
returns c =
    named (turn_answered _ c.ranges.mask.fits _ _
    (ap Some c.serve-2.ensures
    ∙ ap (takes _) c.in_ok-id.ensures.value
    ∙ turn_passed _ _ _ c.is_candidate.ensures c.above_zero.ensures c.if-is_candidate-above_zero.false))
