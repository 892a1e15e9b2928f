-- `put_title` meets its contract. Assumes nothing.
use Rattle.print.specs.Text.{bytes}
use Rattle.print.proofs.Puts.{put_then, room_first, room_then}
use Rattle.refusals.specs.Named.{named}
use Rattle.transcript.proofs.record.put_title.Goals as goal

pub put_named-to-requires : goal.put_named-to-requires
put_named-to-requires c =
    let a = c.args in
    room_first (named a.name.now a.n) (bytes ": ") _ _ c.requires

pub put-requires : goal.put-requires
put-requires c =
    room_then (bytes ": ") c.put_named-to.ensures c.requires

pub returns : goal.returns
returns c =
    put_then c.put_named-to.ensures c.put.ensures
