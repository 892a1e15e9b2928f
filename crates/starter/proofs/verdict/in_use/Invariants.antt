-- `in_use` meets its contract. The invariant: the tags in `left` are still to be looked at. Assumes nothing.
use Rattle.store.specs.Held.{held}
use Rattle.starter.proofs.Verdicts.{ToSee}
use Rattle.starter.proofs.verdict.in_use.Given as goal

abbrev pub invariant-loop-left : goal.invariant-loop-left
invariant-loop-left l =
    let c = held l.state in ToSee c.commands c.free l.sq l.a l.b l.left

abbrev pub decreases-loop-left : goal.decreases-loop-left
decreases-loop-left l =
    l.left
