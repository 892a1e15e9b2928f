use Rattle.refusals.specs.Named.{named}
use Rattle.print.proofs.Puts.{put_then, room_first, room_then}
use Rattle.refusals.proofs.named.put_pair.Goals as goal

pub put_named-to-requires : goal.put_named-to-requires
put_named-to-requires c =
    let a = c.args in
    room_first (named a.a.now a.x) (named a.b.now a.y) _ _ c.requires

pub put_named-requires : goal.put_named-requires
put_named-requires c =
    let a = c.args in
    room_then (named a.b.now a.y) c.put_named-to.ensures c.requires

pub returns : goal.returns
returns c =
    put_then c.put_named-to.ensures c.put_named.ensures
