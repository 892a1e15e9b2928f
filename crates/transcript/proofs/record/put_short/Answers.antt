-- `put_short` meets its contract. Assumes nothing.
use Rattle.std.proofs.Common.{length}
use Rattle.print.specs.Text.{bytes}
use Rattle.print.proofs.Puts.{put_then, room_first, room_then}
use Rattle.refusals.specs.Named.{named}
use Rattle.transcript.proofs.record.put_short.Goals as goal

pub put_named-to-requires : goal.put_named-to-requires
put_named-to-requires c =
    room_first (named (bytes "only") (length c.args.bytes.now)) (bytes
    " of 16 bytes") _ _ c.requires

pub put-requires : goal.put-requires
put-requires c =
    room_then (bytes " of 16 bytes") c.put_named-to.ensures c.requires

pub returns : goal.returns
returns c =
    put_then c.put_named-to.ensures c.put.ensures
