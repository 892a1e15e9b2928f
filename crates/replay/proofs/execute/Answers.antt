-- `execute` meets its contract: each arm makes the call that the record asks for. Assumes nothing.
use Rattle.controller.specs.Calls.{tail_write, head_write, start, finish}
use Rattle.store.proofs.Fresh.{reached_call}
use Rattle.replay.proofs.execute.Goals as goal

pub returns-in_err-tail_write-in-TailWrite-clause-reached : goal.returns-in_err-tail_write-in-TailWrite-clause-reached
returns-in_err-tail_write-in-TailWrite-clause-reached c =
    let e = c.tail_write.ensures in reached_call c.args.memory.now (tail_write _ _) c.requires e.0 (e.1 _)

pub returns-in_ok-tail_write-in-TailWrite-clause-reached : goal.returns-in_ok-tail_write-in-TailWrite-clause-reached
returns-in_ok-tail_write-in-TailWrite-clause-reached c =
    let e = c.tail_write.ensures in reached_call c.args.memory.now (tail_write _ _) c.requires e.0 (e.1 _)

pub returns-in_err-head_write-in-HeadWrite-clause-reached : goal.returns-in_err-head_write-in-HeadWrite-clause-reached
returns-in_err-head_write-in-HeadWrite-clause-reached c =
    let e = c.head_write.ensures in reached_call c.args.memory.now (head_write _ _) c.requires e.0 (e.1 _)

pub returns-in_ok-head_write-in-HeadWrite-clause-reached : goal.returns-in_ok-head_write-in-HeadWrite-clause-reached
returns-in_ok-head_write-in-HeadWrite-clause-reached c =
    let e = c.head_write.ensures in reached_call c.args.memory.now (head_write _ _) c.requires e.0 (e.1 _)

pub returns-in_err-start-in-Start-clause-reached : goal.returns-in_err-start-in-Start-clause-reached
returns-in_err-start-in-Start-clause-reached c =
    let e = c.start.ensures in reached_call _ start c.requires e.0 e.1

pub returns-in_ok-start-in-Start-clause-reached : goal.returns-in_ok-start-in-Start-clause-reached
returns-in_ok-start-in-Start-clause-reached c =
    let e = c.start.ensures in reached_call _ start c.requires e.0 e.1

pub returns-in_err-finished-in-Finish-clause-reached : goal.returns-in_err-finished-in-Finish-clause-reached
returns-in_err-finished-in-Finish-clause-reached c =
    let e = c.finish.ensures in reached_call _ (finish _ _ _) c.requires e.0 e.1

pub returns-in_ok-finished-in-Finish-clause-reached : goal.returns-in_ok-finished-in-Finish-clause-reached
returns-in_ok-finished-in-Finish-clause-reached c =
    let e = c.finish.ensures in reached_call _ (finish _ _ _) c.requires e.0 e.1
