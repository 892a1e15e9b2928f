use Rattle.print.specs.Text.{next}
use Rattle.print.proofs.Puts.{put_then, room_first, room_then}
use Rattle.refusals.proofs.named.put_named.Goals as goal

pub put-to-requires : goal.put-to-requires
put-to-requires c =
    room_first c.args.name.now (next c.args.n) _ _ c.requires

pub put_next-requires : goal.put_next-requires
put_next-requires c =
    room_then (next c.args.n) c.put-to.ensures c.requires

pub returns : goal.returns
returns c =
    put_then c.put-to.ensures c.put_next.ensures
