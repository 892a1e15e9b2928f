-- `put_asked` meets its contract. Assumes nothing.
use Rattle.print.proofs.Puts.{put_none, put_as}
use Rattle.transcript.proofs.Wording.{room_as, asked_short, read_as, asked_as, asked_wrong}
use Rattle.transcript.proofs.Wrongs.{wrong}
use Rattle.transcript.proofs.record.put_asked.Goals as goal

pub put_short-requires : goal.put_short-requires
put_short-requires c =
    room_as (asked_short _ c.if-bytes-lt-RECORD_BYTES.true) _ _ c.requires.1

pub returns-then-bytes-lt-RECORD_BYTES : goal.returns-then-bytes-lt-RECORD_BYTES
returns-then-bytes-lt-RECORD_BYTES c =
    put_as c.put_short.ensures (asked_short _ c.if-bytes-lt-RECORD_BYTES.true)

pub put_pair-requires : goal.put_pair-requires
put_pair-requires c =
    let i = c.in-Ok-TailWrite in
    room_as (asked_as _ c.if-bytes-lt-RECORD_BYTES.false c.requires.0 i.ensures.value i.field-0-is) _ _ c.requires.1

pub put_pair-requires-in-Ok-HeadWrite : goal.put_pair-requires-in-Ok-HeadWrite
put_pair-requires-in-Ok-HeadWrite c =
    let i = c.in-Ok-HeadWrite in
    room_as (asked_as _ c.if-bytes-lt-RECORD_BYTES.false c.requires.0 i.ensures.value i.field-0-is) _ _ c.requires.1

pub put-requires : goal.put-requires
put-requires c =
    let i = c.in-Ok-Start in
    room_as (asked_as _ c.if-bytes-lt-RECORD_BYTES.false c.requires.0 i.ensures.value i.field-0-is) _ _ c.requires.1

pub put_pair-requires-in-Ok-Finish : goal.put_pair-requires-in-Ok-Finish
put_pair-requires-in-Ok-Finish c =
    let i = c.in-Ok-Finish in
    room_as (asked_as _ c.if-bytes-lt-RECORD_BYTES.false c.requires.0 i.ensures.value i.field-0-is) _ _ c.requires.1

pub put_wrong-requires : goal.put_wrong-requires
put_wrong-requires c =
    let w = c.if-bytes-lt-RECORD_BYTES.false in
    let l = c.requires.0 in
    let e = c.in-Err.ensures.value in
    (wrong _ w _ (read_as _ w l e), room_as (asked_wrong _ w l e) _ _ c.requires.1)

pub returns-in-Ok-TailWrite : goal.returns-in-Ok-TailWrite
returns-in-Ok-TailWrite c =
    let i = c.in-Ok-TailWrite in
    put_as c.put_pair.ensures (asked_as _ c.if-bytes-lt-RECORD_BYTES.false c.requires.0 i.ensures.value i.field-0-is)

pub returns-in-Ok-HeadWrite : goal.returns-in-Ok-HeadWrite
returns-in-Ok-HeadWrite c =
    let i = c.in-Ok-HeadWrite in
    put_as c.put_pair-in-Ok-HeadWrite.ensures (asked_as _ c.if-bytes-lt-RECORD_BYTES.false c.requires.0 i.ensures.value i.field-0-is)

pub returns-in-Ok-Start : goal.returns-in-Ok-Start
returns-in-Ok-Start c =
    let i = c.in-Ok-Start in
    put_as c.put.ensures (asked_as _ c.if-bytes-lt-RECORD_BYTES.false c.requires.0 i.ensures.value i.field-0-is)

pub returns-in-Ok-Finish : goal.returns-in-Ok-Finish
returns-in-Ok-Finish c =
    let i = c.in-Ok-Finish in
    put_as c.put_pair-in-Ok-Finish.ensures (asked_as _ c.if-bytes-lt-RECORD_BYTES.false c.requires.0 i.ensures.value i.field-0-is)

pub returns-in-Ok-End : goal.returns-in-Ok-End
returns-in-Ok-End c =
    let i = c.in-Ok-End in
    put_as (put_none _ _) (asked_as _ c.if-bytes-lt-RECORD_BYTES.false c.requires.0 i.ensures.value i.field-0-is)

pub returns-in-Err : goal.returns-in-Err
returns-in-Err c =
    put_as c.put_wrong.ensures (asked_wrong _ c.if-bytes-lt-RECORD_BYTES.false c.requires.0 c.in-Err.ensures.value)
