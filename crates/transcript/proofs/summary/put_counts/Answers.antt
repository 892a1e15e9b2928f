-- `put_counts` meets its contract. Assumes nothing.
use Rattle.std.proofs.Common.{◌++◌}
use Rattle.print.specs.Text.{bytes}
use Rattle.print.proofs.Puts.{put_then, room_first, room_then}
use Rattle.refusals.specs.Named.{named, pair}
use Rattle.transcript.proofs.summary.put_counts.Goals as goal

pub put_pair-records-requires : goal.put_pair-records-requires
put_pair-records-requires c =
    let t = c.args.tally in
    room_first (pair (bytes "summary:") t.records (bytes " records,") t.calls) (named (bytes " calls,") t.refused ++ bytes
    " refused\n") _ _
    c.requires

pub put_named-refused-requires : goal.put_named-refused-requires
put_named-refused-requires c =
    let t = c.args.tally in
    let rest = named (bytes " calls,") t.refused ++ bytes " refused\n" in
    room_first (named (bytes " calls,") t.refused) (bytes " refused\n") _ _ (room_then rest c.put_pair-records.ensures c.requires)

pub put-requires : goal.put-requires
put-requires c =
    let t = c.args.tally in
    let rest = named (bytes " calls,") t.refused ++ bytes " refused\n" in
    room_then (bytes " refused\n") c.put_named-refused.ensures (room_then rest c.put_pair-records.ensures c.requires)

pub returns : goal.returns
returns c =
    put_then c.put_pair-records.ensures (put_then c.put_named-refused.ensures c.put.ensures)
