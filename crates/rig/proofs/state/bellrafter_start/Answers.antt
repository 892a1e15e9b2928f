-- `bellrafter_start` meets its contract. Assumes nothing.
use mathlib.Core.Path.{ap, sym, ◌∙◌}
use Rattle.rules.specs.Refusal.{by_number}
use Rattle.controller.specs.Calls.{of_started}
use Rattle.rig.specs.Numbers.{start_numbers}
use Rattle.rig.proofs.Exports.{answered, left_held}
use Rattle.rig.proofs.state.bellrafter_start.Goals as goal

pub returns-in-Ok-One : goal.returns-in-Ok-One
returns-in-Ok-One c =
    let e = c.start.ensures in (
      ap (λ x. start_numbers (of_started (by_number x))) (sym (rw c.in-Ok-One.field-0-is at c.in-Ok-One.is)) ∙ ap start_numbers (answered e.0 e.1),
      left_held e.0 e.1,
    )

pub returns-in-Ok-Pair : goal.returns-in-Ok-Pair
returns-in-Ok-Pair c =
    let e = c.start.ensures in (
      ap (λ x. start_numbers (of_started (by_number x))) (sym (rw c.in-Ok-Pair.field-0-is at c.in-Ok-Pair.is)) ∙ ap start_numbers (answered e.0 e.1),
      left_held e.0 e.1,
    )

pub returns-in-Err : goal.returns-in-Err
returns-in-Err c =
    let e = c.start.ensures in (
      rw c.number.ensures (ap (λ x. start_numbers (of_started (by_number x))) (sym c.in-Err.is) ∙ ap start_numbers (answered e.0 e.1)),
      left_held e.0 e.1,
    )
