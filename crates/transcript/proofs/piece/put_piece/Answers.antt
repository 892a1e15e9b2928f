-- `put_piece` meets its contract. Assumes nothing.
use Rattle.std.proofs.Common.{◌+◌, ◌-◌, ◌<◌, ◌≤◌, length, take, drop, sym, refl, ap, ◌∙◌, arith, length-drop, length-take}
use Rattle.trace.specs.Trace.{next_at}
use Rattle.print.proofs.Puts.{put_as}
use Rattle.transcript.specs.Record.{record_line}
use Rattle.transcript.specs.Piece.{tallied, told}
use Rattle.transcript.proofs.SoFar.{none_yet, one_more, room_more, all_put}
use Rattle.transcript.proofs.Pieces.{left, left_all, told_none, tallied_none, told_next, tallied_next}
use Rattle.transcript.proofs.piece.put_piece.Goals as goal

pub loop-at-init : goal.loop-at-init
loop-at-init c =
    (refl, none_yet _ _ _, refl)

pub overflow_add-at : goal.overflow_add-at
overflow_add-at c =
    omega arith

pub get-requires-clause-room : goal.get-requires-clause-room
get-requires-clause-room c =
    omega arith

pub slice_bounds-put_record-count : goal.slice_bounds-put_record-count
unfolding next_at
slice_bounds-put_record-count c =
    omega (arith, c.next_at-end.ensures)

pub slice_bounds-put_record-start : goal.slice_bounds-put_record-start
unfolding next_at
slice_bounds-put_record-start c =
    omega (arith, c.next_at-end.ensures)

pub slice_bounds-put_record-end : goal.slice_bounds-put_record-end
unfolding next_at
slice_bounds-put_record-end c =
    omega (arith, c.next_at-end.ensures)

pub slice_bounds-put_record-count-in-loop-at : goal.slice_bounds-put_record-count-in-loop-at
slice_bounds-put_record-count-in-loop-at c =
    omega arith

pub put_record-to-requires : goal.put_record-to-requires
unfolding next_at
put_record-to-requires c =
    let trace = c.args.trace.now in
    let answers = c.args.answers.now in
    let l = c.loop-at in
    let h : l.at < length trace = omega arith in
    let end = c.next_at-end.result in
    let u = c.count.new.self in
    let bytes = take (end - l.at) (drop l.at trace) in
    let answer = take (l.at + 16 - l.at) (drop l.at answers) in
    let room : 0 + length (told c.args.tally (left trace answers 0)) ≤ length c.args.out.now =
    omega (arith, c.requires.answers_in_bounds, ap (λ xs. length (told c.args.tally xs)) (left_all trace answers)) in
    record {
      bytes_len_bound = (
        omega (arith, length-take (end - l.at) (drop l.at trace), c.next_at-end.ensures),
        omega (arith, length-take (l.at + 16 - l.at) (drop l.at answers), length-drop l.at answers, c.requires.trace_len_bound),
      );
      answer_in_bounds = room_more l.invariant.1 (record_line u.records bytes answer) (told u (left trace answers (l.at + 16)))
          (told_next trace answers l.at h c.get.ensures.0 c.next_at-end.ensures l.after c.count.ensures) room;
    }

pub loop-at-smaller : goal.loop-at-smaller
loop-at-smaller c =
    omega arith

pub loop-at-preserved : goal.loop-at-preserved
loop-at-preserved c =
    let s = c.args in
    let l = c.loop-at in
    let h : l.at < length s.trace.now = omega arith in (
      omega arith,
      one_more l.invariant.1
          (told_next s.trace.now s.answers.now l.at h c.get.ensures.0 c.next_at-end.ensures l.after c.count.ensures)
          c.put_record-to.ensures,
      sym (tallied_next s.trace.now s.answers.now l.at h c.get.ensures.0 c.next_at-end.ensures l.after c.count.ensures)
          ∙ l.invariant.2,
    )

pub returns : goal.returns
returns c =
    let s = c.args in
    let l = c.loop-at in
    let h : length s.trace.now ≤ l.at = omega arith in
    let all = left_all s.trace.now s.answers.now in
    record {
      put = put_as (all_put l.invariant.1 (told_none s.trace.now s.answers.now l.at l.after h)) (ap (told s.tally) all);
      tally_value = sym (tallied_none s.trace.now s.answers.now l.at l.after h) ∙ l.invariant.2 ∙ ap (tallied s.tally) all;
    }

-- the record was the last
pub returns-2 : goal.returns-2
returns-2 c =
    let s = c.args in
    let l = c.loop-at in
    let trace = s.trace.now in
    let answers = s.answers.now in
    let h : l.at < length trace = omega arith in
    let last : length trace ≤ l.at + 16 = omega arith in
    let u = c.count in
    let read = c.get.ensures.0 in
    let end = c.next_at-end.ensures in
    let all = left_all trace answers in
    let put = one_more l.invariant.1 (told_next trace answers l.at h read end l.after u.ensures) c.put_record-to.ensures in
    record {
      put = put_as (all_put put (told_none trace answers (l.at + 16) u.new.self last)) (ap (told s.tally) all);
      tally_value = sym (tallied_none trace answers (l.at + 16) u.new.self last)
          ∙ sym (tallied_next trace answers l.at h read end l.after u.ensures)
          ∙ l.invariant.2
          ∙ ap (tallied s.tally) all;
    }
