use borrow.Author.Rules.{rules}
use mathlib.Core.Path.{sym}
use Rattle.ring.proofs.Steps.{phase_on, phase_over}
use Rattle.ring.proofs.slots.next_phase.Goals as goal

pub returns-then-slot-size : goal.returns-then-slot-size
returns-then-slot-size c =
    (sym (phase_over _ _ _ c.if-slot-size.true), search rules)

pub returns-else-slot-size : goal.returns-else-slot-size
returns-else-slot-size c =
    (sym (phase_on _ _ _ c.if-slot-size.false), search rules)
