-- There is room for the summary. Assumes nothing.
use Rattle.std.proofs.Common.{◌≡◌, length, arith, rules}
use Rattle.transcript.proofs.Rooms.{summary_most}
use Rattle.playback.proofs.play.print_summary.Goals as goal

pub put_summary-n-requires : goal.put_summary-n-requires
put_summary-n-requires g c =
    let h : length c.args.tally.numbers ≡ 36 = search rules in
    omega (arith, summary_most c.args.tally h)

pub shared_ref_as_front-is_written : goal.shared_ref_as_front-is_written
shared_ref_as_front-is_written g c =
    let h : length c.args.tally.numbers ≡ 36 = search rules in
    omega (arith, c.put_summary-n.ensures.ends, summary_most c.args.tally h)
