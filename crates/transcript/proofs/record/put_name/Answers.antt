-- `put_name` meets its contract. Assumes nothing.
use Rattle.print.proofs.Puts.{put_none, put_as}
use Rattle.trace.specs.declared.Kind.TheVariants as K
use Rattle.trace.proofs.Wholes.{number_of_kind, unnumbered}
use Rattle.transcript.proofs.Wording.{room_as, name_tail, name_head, name_start, name_finish, name_none}
use Rattle.transcript.proofs.record.put_name.Goals as goal

pub put-requires : goal.put-requires
put-requires c =
    let i = c.in-Some-TailWrite in room_as (name_tail _ (number_of_kind i.ensures i.field-0-is)) _ _ c.requires

pub returns-in-Some-TailWrite : goal.returns-in-Some-TailWrite
returns-in-Some-TailWrite c =
    let i = c.in-Some-TailWrite in put_as c.put.ensures (name_tail _ (number_of_kind i.ensures i.field-0-is))

pub put-requires-in-Some-HeadWrite : goal.put-requires-in-Some-HeadWrite
put-requires-in-Some-HeadWrite c =
    let i = c.in-Some-HeadWrite in room_as (name_head _ (number_of_kind i.ensures i.field-0-is)) _ _ c.requires

pub returns-in-Some-HeadWrite : goal.returns-in-Some-HeadWrite
returns-in-Some-HeadWrite c =
    let i = c.in-Some-HeadWrite in put_as c.put-in-Some-HeadWrite.ensures (name_head _ (number_of_kind i.ensures i.field-0-is))

pub put-requires-in-Some-Start : goal.put-requires-in-Some-Start
put-requires-in-Some-Start c =
    let i = c.in-Some-Start in room_as (name_start _ (number_of_kind i.ensures i.field-0-is)) _ _ c.requires

pub returns-in-Some-Start : goal.returns-in-Some-Start
returns-in-Some-Start c =
    let i = c.in-Some-Start in put_as c.put-in-Some-Start.ensures (name_start _ (number_of_kind i.ensures i.field-0-is))

pub put-requires-in-Some-Finish : goal.put-requires-in-Some-Finish
put-requires-in-Some-Finish c =
    let i = c.in-Some-Finish in room_as (name_finish _ (number_of_kind i.ensures i.field-0-is)) _ _ c.requires

pub returns-in-Some-Finish : goal.returns-in-Some-Finish
returns-in-Some-Finish c =
    let i = c.in-Some-Finish in put_as c.put-in-Some-Finish.ensures (name_finish _ (number_of_kind i.ensures i.field-0-is))

pub returns-in-None : goal.returns-in-None
returns-in-None c =
    let no = unnumbered c.args.call c.in-None.ensures in
    put_as (put_none _ _) (name_none _ (no K.TailWrite) (no K.HeadWrite) (no K.Start) (no K.Finish))
