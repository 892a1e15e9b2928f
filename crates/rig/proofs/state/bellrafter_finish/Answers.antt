-- `bellrafter_finish` meets its contract. Assumes nothing.
use mathlib.Core.Path.{ap, sym, ◌∙◌}
use Rattle.rules.specs.Refusal.{by_number}
use Rattle.controller.specs.Calls.{of_finished}
use Rattle.rig.specs.Numbers.{finish_numbers}
use Rattle.rig.proofs.Exports.{answered, left_held, left_memory}
use Rattle.rig.proofs.state.bellrafter_finish.Goals as goal

pub returns-in-Ok : goal.returns-in-Ok
returns-in-Ok c =
    let e = c.finish.ensures in (
      ap (λ x. finish_numbers (of_finished (by_number x))) (sym c.in-Ok.is) ∙ ap finish_numbers (answered e.0 e.1),
      left_held e.0 e.1,
      left_memory e.0 e.1,
    )

pub returns-in-Err : goal.returns-in-Err
returns-in-Err c =
    let e = c.finish.ensures in (
      rw c.number.ensures (ap (λ x. finish_numbers (of_finished (by_number x))) (sym c.in-Err.is) ∙ ap finish_numbers (answered e.0 e.1)),
      left_held e.0 e.1,
      left_memory e.0 e.1,
    )
