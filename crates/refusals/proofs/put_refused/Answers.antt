use mathlib.Core.List.{◌++◌}
use Rattle.print.specs.Text.{bytes}
use Rattle.print.proofs.Puts.{put_then, room_first, room_then}
use Rattle.refusals.specs.Meaning.{meaning}
use Rattle.refusals.specs.Named.{named}
use Rattle.refusals.proofs.put_refused.Goals as goal

pub put_named-number-requires : goal.put_named-number-requires
put_named-number-requires c =
    let n = c.args.n in
    room_first (named (bytes "refused") n) (bytes ", " ++ meaning n) _ _ c.requires

pub put-to-requires : goal.put-to-requires
put-to-requires c =
    let n = c.args.n in
    room_first (bytes ", ") (meaning n) _ _ (room_then (bytes ", " ++ meaning n) c.put_named-number.ensures c.requires)

pub put_meaning-requires : goal.put_meaning-requires
put_meaning-requires c =
    let n = c.args.n in
    room_then (meaning n) c.put-to.ensures (room_then (bytes ", " ++ meaning n) c.put_named-number.ensures c.requires)

pub returns : goal.returns
returns c =
    put_then c.put_named-number.ensures
    (put_then c.put-to.ensures c.put_meaning.ensures)
