-- `arbiter::Level::turn` meets its contract. Assumes nothing.
use mathlib.Core.Bool.{true}
use mathlib.Core.Path.{◌≡◌, sym, ap, ◌∙◌}
use native.Mathlib.Omega.{arith}
use Rattle.rules.proofs.Tests.{not_yes, not_no}
use Rattle.bits.specs.Bits.{is_set}
use Rattle.arbiter.specs.Arbiter.{ready, charged}
use Rattle.arbiter.proofs.Levels.{ready_parts, level_idle, level_turn_lem}
use Rattle.arbiter.proofs.Choice.{level_answered}
use Rattle.arbiter.proofs.Level.turn.Goals as goal
use Rattle.arbiter.proofs.Level.turn.Goals.{Else-not-is_ready}

-- the clauses by name
named : {A0 A1 : Type 0} → A0 × A1 → record { value : A0; refusal : A1 }
named p = record { value = p.0; refusal = p.1 }

pub returns-then-not-is_ready : goal.returns-then-not-is_ready
returns-then-not-is_ready c =
    named (level_answered _ c.ranges.mask.fits _ _
    (level_idle _ _ _ (sym c.is_ready.ensures ∙ not_yes _ c.if-not-is_ready.true-raw)))

is_ready :
    (c : Else-not-is_ready) → ready c.args.self (is_set c.args.mask) ≡ true
is_ready c =
    sym c.is_ready.ensures ∙ not_no _ c.if-not-is_ready.false-raw

pub returns-in_err-id : goal.returns-in_err-id
returns-in_err-id c =
    named (level_answered _ c.ranges.mask.fits _ _
    (c.from_residual.ensures ∙ ap (charged _) c.in_err-id.ensures.value
    ∙ level_turn_lem _ _ _ c.level_full.ensures.value (is_ready (goal.at.returns-in_err-id c).Else-not-is_ready)))

pub overflow_sub-result : goal.overflow_sub-result
overflow_sub-result c =
    omega (arith, (ready_parts _ _ (is_ready (goal.at.overflow_sub-result c).Else-not-is_ready)).1)

pub returns : goal.returns
returns c =
    named (level_answered _ c.ranges.mask.fits _ _
    (ap (charged _) c.in_ok-id.ensures.value
    ∙ level_turn_lem _ _ _ c.level_full.ensures.value (is_ready (goal.at.returns c).Else-not-is_ready)))
