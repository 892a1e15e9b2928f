use borrow.Author.Rules.{rules}
use mathlib.Core.Path.{sym}
use native.Mathlib.Omega.{arith}
use Rattle.ring.proofs.Steps.{next_on, next_over}
use Rattle.ring.proofs.slots.next_slot.Goals as goal

pub returns-then-slot-size : goal.returns-then-slot-size
returns-then-slot-size c =
    (sym (next_over _ _ 0 c.if-slot-size.true), search rules)

pub returns-else-slot-size : goal.returns-else-slot-size
returns-else-slot-size c =
    (sym (next_on _ _ 0 (omega arith)), search rules)
