-- `put_record` meets its contract. Assumes nothing.
use Rattle.std.proofs.Common.{◌++◌}
use Rattle.print.specs.Text.{bytes, line_end}
use Rattle.print.proofs.Puts.{put_then, room_first, room_then}
use Rattle.transcript.specs.Record.{titled, asked_text, answer_text, record_line}
use Rattle.transcript.proofs.record.put_record.Goals as goal

pub put_title-title-requires : goal.put_title-title-requires
unfolding record_line
put_title-title-requires c =
    let a = c.args in
    let ends = answer_text a.answer.now ++ line_end in
    room_first (titled (bytes "record") a.number) (asked_text a.bytes.now ++ (bytes ": " ++ ends)) _ _ c.requires.answer_in_bounds

pub put_asked-asked-requires : goal.put_asked-asked-requires
unfolding record_line
put_asked-asked-requires c =
    let a = c.args in
    let ends = answer_text a.answer.now ++ line_end in
    let asked = asked_text a.bytes.now in
    let r = room_then (asked ++ (bytes ": " ++ ends)) c.put_title-title.ensures c.requires.answer_in_bounds in
    (c.requires.bytes_len_bound.0, room_first asked (bytes ": " ++ ends) _ _ r)

pub put-to-requires : goal.put-to-requires
unfolding record_line
put-to-requires c =
    let a = c.args in
    let ends = answer_text a.answer.now ++ line_end in
    let asked = asked_text a.bytes.now in
    let r = room_then (asked ++ (bytes ": " ++ ends)) c.put_title-title.ensures c.requires.answer_in_bounds in
    room_first (bytes ": ") ends _ _ (room_then (bytes ": " ++ ends) c.put_asked-asked.ensures r)

pub put_answer-end-requires : goal.put_answer-end-requires
unfolding record_line
put_answer-end-requires c =
    let a = c.args in
    let ends = answer_text a.answer.now ++ line_end in
    let asked = asked_text a.bytes.now in
    let r = room_then (asked ++ (bytes ": " ++ ends)) c.put_title-title.ensures c.requires.answer_in_bounds in
    let r2 = room_then (bytes ": " ++ ends) c.put_asked-asked.ensures r in (
      c.requires.bytes_len_bound.1,
      room_first (answer_text a.answer.now) line_end _ _ (room_then ends c.put-to.ensures r2),
    )

pub put_end-requires : goal.put_end-requires
unfolding record_line
put_end-requires c =
    let a = c.args in
    let ends = answer_text a.answer.now ++ line_end in
    let asked = asked_text a.bytes.now in
    let r = room_then (asked ++ (bytes ": " ++ ends)) c.put_title-title.ensures c.requires.answer_in_bounds in
    let r2 = room_then (bytes ": " ++ ends) c.put_asked-asked.ensures r in
    room_then line_end c.put_answer-end.ensures (room_then ends c.put-to.ensures r2)

pub returns : goal.returns
unfolding record_line
returns c =
    put_then c.put_title-title.ensures
    (put_then c.put_asked-asked.ensures (put_then c.put-to.ensures (put_then c.put_answer-end.ensures c.put_end.ensures)))
