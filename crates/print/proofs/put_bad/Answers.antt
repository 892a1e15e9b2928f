-- `put_bad` meets its contract. Assumes nothing.
use mathlib.Core.List.{◌++◌}
use Rattle.print.specs.Text.{next, line_end}
use Rattle.print.proofs.Puts.{put_then, room_first, room_then}
use Rattle.print.proofs.put_bad.Goals as goal
use Rattle.print.proofs.put_bad.Goals.{Start}

pub put_next-to-requires : goal.put_next-to-requires
put_next-to-requires c =
    let n = next c.args.number in
    room_first n line_end _ _ (room_then (n ++ line_end) c.put_one-mark.ensures c.requires)

pub put_end-requires : goal.put_end-requires
put_end-requires c =
    let mark = c.put_one-mark.ensures in
    let p = put_then mark c.put_next-to.ensures in
    room_then line_end p c.requires

pub returns : goal.returns
returns c =
    put_then
    (put_then c.put_one-mark.ensures
    c.put_next-to.ensures)
    c.put_end.ensures
