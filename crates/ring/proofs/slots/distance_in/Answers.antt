use borrow.Author.Rules.{rules}
use mathlib.Core.Path.{sym}
use Rattle.ring.proofs.Steps.{distance_ahead, distance_around}
use Rattle.ring.proofs.slots.distance_in.Goals as goal

pub returns-then-a-b : goal.returns-then-a-b
returns-then-a-b c =
    sym (distance_ahead _ _ _ c.if-a-b.true (search rules))

pub returns-else-a-b : goal.returns-else-a-b
returns-else-a-b c =
    sym (distance_around _ _ _ c.if-a-b.false (search rules))
