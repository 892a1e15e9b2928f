-- `bellrafter_ring_read` meets its contract. Assumes nothing.
use mathlib.Core.Path.{sym, ap, ◌∙◌}
use Rattle.rules.specs.Refusal.{by_number}
use Rattle.rig.specs.Answers.{waiting_numbers}
use Rattle.rig.proofs.bellrafter_ring_read.Goals as goal

pub returns-in-Ok : goal.returns-in-Ok
returns-in-Ok c =
    ap waiting_numbers (ap by_number (sym c.in-Ok.is) ∙ c.read.ensures.value)

pub returns-in-Err : goal.returns-in-Err
returns-in-Err c =
    rw c.number.ensures (ap waiting_numbers (ap by_number (sym c.in-Err.is) ∙ c.read.ensures.value))
