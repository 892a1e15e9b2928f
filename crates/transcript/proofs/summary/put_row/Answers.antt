-- `put_row` meets its contract. Assumes nothing.
use Rattle.std.proofs.Common.{◌++◌}
use Rattle.print.specs.Text.{bytes, line_end}
use Rattle.print.proofs.Puts.{put_none, put_then, put_as, room_first, room_then}
use Rattle.refusals.specs.Meaning.{meaning}
use Rattle.refusals.specs.Named.{pair}
use Rattle.transcript.specs.Summary.{margin_text}
use Rattle.transcript.proofs.Sums.{row_none, row_some}
use Rattle.transcript.proofs.Wording.{room_as}
use Rattle.transcript.proofs.summary.put_row.Goals as goal

pub returns-then-count-eq0 : goal.returns-then-count-eq0
returns-then-count-eq0 c =
    put_as (put_none _ _) (row_none _ _ c.if-count-eq0.true)

pub put_margin-margin-requires : goal.put_margin-margin-requires
put_margin-margin-requires c =
    let a = c.args in
    let said = meaning a.number ++ line_end in
    let on = pair (bytes " ") a.number (bytes " ") a.count ++ (bytes "  " ++ said) in
    room_first (margin_text a.number) on _ _ (room_as (row_some _ _ c.if-count-eq0.false) _ _ c.requires)

pub put_pair-to-requires : goal.put_pair-to-requires
put_pair-to-requires c =
    let a = c.args in
    let said = meaning a.number ++ line_end in
    let two = pair (bytes " ") a.number (bytes " ") a.count in
    let room = room_as (row_some _ _ c.if-count-eq0.false) _ _ c.requires in
    room_first two (bytes "  " ++ said) _ _ (room_then (two ++ (bytes "  " ++ said)) c.put_margin-margin.ensures room)

pub put-before-requires : goal.put-before-requires
put-before-requires c =
    let a = c.args in
    let said = meaning a.number ++ line_end in
    let two = pair (bytes " ") a.number (bytes " ") a.count in
    let room = room_as (row_some _ _ c.if-count-eq0.false) _ _ c.requires in
    let r = room_then (two ++ (bytes "  " ++ said)) c.put_margin-margin.ensures room in
    room_first (bytes "  ") said _ _ (room_then (bytes "  " ++ said) c.put_pair-to.ensures r)

pub put_meaning-end-requires : goal.put_meaning-end-requires
put_meaning-end-requires c =
    let a = c.args in
    let said = meaning a.number ++ line_end in
    let two = pair (bytes " ") a.number (bytes " ") a.count in
    let room = room_as (row_some _ _ c.if-count-eq0.false) _ _ c.requires in
    let r = room_then (two ++ (bytes "  " ++ said)) c.put_margin-margin.ensures room in
    let r2 = room_then (bytes "  " ++ said) c.put_pair-to.ensures r in
    room_first (meaning a.number) line_end _ _ (room_then said c.put-before.ensures r2)

pub put_end-requires : goal.put_end-requires
put_end-requires c =
    let a = c.args in
    let said = meaning a.number ++ line_end in
    let two = pair (bytes " ") a.number (bytes " ") a.count in
    let room = room_as (row_some _ _ c.if-count-eq0.false) _ _ c.requires in
    let r = room_then (two ++ (bytes "  " ++ said)) c.put_margin-margin.ensures room in
    let r2 = room_then (bytes "  " ++ said) c.put_pair-to.ensures r in
    room_then line_end c.put_meaning-end.ensures (room_then said c.put-before.ensures r2)

pub returns : goal.returns
returns c =
    put_as (put_then c.put_margin-margin.ensures (put_then c.put_pair-to.ensures (put_then c.put-before.ensures
    (put_then c.put_meaning-end.ensures c.put_end.ensures))))
    (row_some _ _ c.if-count-eq0.false)
