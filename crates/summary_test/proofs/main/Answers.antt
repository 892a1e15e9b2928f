-- There is room for what is printed. Assumes nothing.
use Rattle.std.proofs.Common.{◌≡◌, ◌≤◌, length, sym, arith, rules, length-take-le}
use Rattle.print.proofs.Puts.{put_length}
use Rattle.refusals.proofs.Lengths.{meaning_most}
use Rattle.transcript.specs.Summary.{summary_text}
use Rattle.transcript.proofs.Rooms.{summary_most}
use Rattle.summary_test.proofs.main.Goals as goal

pub put_summary-rows-requires : goal.put_summary-rows-requires
put_summary-rows-requires c =
    let h : length c.tally.result.numbers ≡ 36 = search rules in
    let few : length (summary_text c.tally.result) ≤ 5276 = summary_most c.tally.result h in
    omega arith

pub put_meaning-above-requires : goal.put_meaning-above-requires
put_meaning-above-requires c =
    let h : length c.tally.result.numbers ≡ 36 = search rules in
    let few : length (summary_text c.tally.result) ≤ 5276 = summary_most c.tally.result h in
    omega (arith, c.put_summary-rows.ensures.ends, put_length c.put_summary-rows.ensures, meaning_most 36)

pub put_end-end-requires : goal.put_end-end-requires
put_end-end-requires c =
    let h : length c.tally.result.numbers ≡ 36 = search rules in
    let few : length (summary_text c.tally.result) ≤ 5276 = summary_most c.tally.result h in
    let p = c.put_summary-rows.ensures in
    let q = c.put_meaning-above.ensures in
    omega (arith, p.ends, put_length p, meaning_most 36, q.ends, put_length q)

pub slice_bounds-out-end : goal.slice_bounds-out-end
slice_bounds-out-end c =
    let h : length c.tally.result.numbers ≡ 36 = search rules in
    let few : length (summary_text c.tally.result) ≤ 5276 = summary_most c.tally.result h in
    let p = c.put_summary-rows.ensures in
    let q = c.put_meaning-above.ensures in
    let r = c.put_end-end.ensures in
    omega (arith, p.ends, put_length p, meaning_most 36, q.ends, put_length q, r.ends, put_length r)

pub slice_bounds-write_all-end : goal.slice_bounds-write_all-end
slice_bounds-write_all-end c =
    let h : length c.tally.result.numbers ≡ 36 = search rules in
    let few : length (summary_text c.tally.result) ≤ 5276 = summary_most c.tally.result h in
    let p = c.put_summary-rows.ensures in
    let q = c.put_meaning-above.ensures in
    let r = c.put_end-end.ensures in
    sym (length-take-le _ _ (omega (arith, p.ends, put_length p, meaning_most 36, q.ends, put_length q, r.ends, put_length r)))
