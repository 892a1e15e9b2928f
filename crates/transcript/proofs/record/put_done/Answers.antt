-- `put_done` meets its contract. Assumes nothing.
use Rattle.std.proofs.Common.{rules}
use Rattle.print.proofs.Puts.{put_as}
use Rattle.trace.proofs.Wholes.{number_of_kind}
use Rattle.transcript.proofs.Wording.{room_as, done_start, done_finish, done_other}
use Rattle.transcript.proofs.record.put_done.Goals as goal

pub put_named-requires : goal.put_named-requires
put_named-requires c =
    let i = c.in-Some-Start in room_as (done_start _ _ (number_of_kind i.ensures i.field-0-is)) _ _ c.requires

pub put_named-requires-in-Some-Finish : goal.put_named-requires-in-Some-Finish
put_named-requires-in-Some-Finish c =
    let i = c.in-Some-Finish in room_as (done_finish _ _ (number_of_kind i.ensures i.field-0-is)) _ _ c.requires

pub returns-in-Some-Start : goal.returns-in-Some-Start
returns-in-Some-Start c =
    let i = c.in-Some-Start in put_as c.put_named.ensures (done_start _ _ (number_of_kind i.ensures i.field-0-is))

pub returns-in-Some-Finish : goal.returns-in-Some-Finish
returns-in-Some-Finish c =
    let i = c.in-Some-Finish in put_as c.put_named-in-Some-Finish.ensures (done_finish _ _ (number_of_kind i.ensures i.field-0-is))

pub put-requires : goal.put-requires
put-requires c =
    room_as (done_other _ _ (search rules) (search rules)) _ _ c.requires

pub returns-in_default : goal.returns-in_default
returns-in_default c =
    put_as c.put.ensures (done_other _ _ (search rules) (search rules))
