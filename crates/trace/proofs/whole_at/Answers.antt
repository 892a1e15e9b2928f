-- `whole_at` meets its contract: each arm is a case of what a record of 16 bytes is. Assumes nothing.
use Rattle.trace.proofs.Wholes.{spare_at, unknown_at, start_at, tail_at, head_at, finish_at}
use Rattle.trace.proofs.whole_at.Goals as goal

pub returns-in_default : goal.returns-in_default
returns-in_default c =
    unknown_at _ _ c.requires c.get.ensures.0 c.in_default.ensures

pub returns-then-has_spare : goal.returns-then-has_spare
returns-then-has_spare c =
    spare_at _ _ c.requires c.get.ensures.0 c.in-Some.ensures c.has_spare.ensures c.if-has_spare.true

pub returns-in-TailWrite : goal.returns-in-TailWrite
returns-in-TailWrite c =
    tail_at _ _ c.requires c.get.ensures.0 c.in-Some.ensures c.has_spare.ensures c.if-has_spare.false
    c.get-target.ensures.0 c.get-value.ensures.0 c.in-TailWrite.is

pub returns-in-HeadWrite : goal.returns-in-HeadWrite
returns-in-HeadWrite c =
    head_at _ _ c.requires c.get.ensures.0 c.in-Some.ensures c.has_spare.ensures c.if-has_spare.false
    c.get-target.ensures.0 c.get-value.ensures.0 c.in-HeadWrite.is

pub returns-in-Start : goal.returns-in-Start
returns-in-Start c =
    start_at _ _ c.requires c.get.ensures.0 c.in-Some.ensures c.has_spare.ensures c.if-has_spare.false c.in-Start.is

pub returns-in-Finish : goal.returns-in-Finish
returns-in-Finish c =
    finish_at _ _ c.requires c.get.ensures.0 c.in-Some.ensures c.has_spare.ensures c.if-has_spare.false
    c.get-target.ensures.0 c.get-value.ensures.0 c.in-Finish.is
