-- `put_setup_line` meets its contract. Assumes nothing.
use Rattle.std.proofs.Common.{◌++◌}
use Rattle.print.specs.Text.{bytes, line_end}
use Rattle.print.proofs.Puts.{put_then, room_first, room_then}
use Rattle.refusals.specs.Named.{refused_text}
use Rattle.transcript.specs.Record.{titled}
use Rattle.transcript.specs.Setup.{setup_line}
use Rattle.transcript.proofs.setup_line.put_setup_line.Goals as goal

pub put_title-title-requires : goal.put_title-title-requires
unfolding setup_line
put_title-title-requires c =
    let a = c.args in
    let ends = refused_text a.refusal ++ line_end in
    room_first (titled (bytes "setup line") a.number) (a.word.now ++ (bytes ": " ++ ends)) _ _ c.requires

pub put-after-requires : goal.put-after-requires
unfolding setup_line
put-after-requires c =
    let a = c.args in
    let ends = refused_text a.refusal ++ line_end in
    let r = room_then (a.word.now ++ (bytes ": " ++ ends)) c.put_title-title.ensures c.requires in
    room_first a.word.now (bytes ": " ++ ends) _ _ r

pub put-to-requires : goal.put-to-requires
unfolding setup_line
put-to-requires c =
    let a = c.args in
    let ends = refused_text a.refusal ++ line_end in
    let r = room_then (a.word.now ++ (bytes ": " ++ ends)) c.put_title-title.ensures c.requires in
    let r2 = room_then (bytes ": " ++ ends) c.put-after.ensures r in
    room_first (bytes ": ") ends _ _ r2

pub put_refused-end-requires : goal.put_refused-end-requires
unfolding setup_line
put_refused-end-requires c =
    let a = c.args in
    let ends = refused_text a.refusal ++ line_end in
    let r = room_then (a.word.now ++ (bytes ": " ++ ends)) c.put_title-title.ensures c.requires in
    let r2 = room_then (bytes ": " ++ ends) c.put-after.ensures r in
    room_first (refused_text a.refusal) line_end _ _ (room_then ends c.put-to.ensures r2)

pub put_end-requires : goal.put_end-requires
unfolding setup_line
put_end-requires c =
    let a = c.args in
    let ends = refused_text a.refusal ++ line_end in
    let r = room_then (a.word.now ++ (bytes ": " ++ ends)) c.put_title-title.ensures c.requires in
    let r2 = room_then (bytes ": " ++ ends) c.put-after.ensures r in
    room_then line_end c.put_refused-end.ensures (room_then ends c.put-to.ensures r2)

pub returns : goal.returns
unfolding setup_line
returns c =
    put_then c.put_title-title.ensures
    (put_then c.put-after.ensures (put_then c.put-to.ensures
    (put_then c.put_refused-end.ensures c.put_end.ensures)))
