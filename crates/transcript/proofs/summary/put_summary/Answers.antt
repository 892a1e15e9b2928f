-- `put_summary` meets its contract. Assumes nothing.
use Rattle.std.proofs.Common.{◌≡◌, suc, ◌+◌, ◌<◌, ◌≤◌, length, get_or, drop, arith, rules}
use Rattle.print.proofs.Puts.{put_then, room_first, room_then}
use Rattle.refusals.specs.Meaning.{meanings, largest}
use Rattle.transcript.specs.Summary.{counts_text, row_text, rows_text}
use Rattle.transcript.proofs.SoFar.{none_yet, one_more, room_more, all_put}
use Rattle.transcript.proofs.Sums.{rows_next, rows_end}
use Rattle.transcript.proofs.summary.put_summary.Goals as goal

pub put_counts-to-requires : goal.put_counts-to-requires
put_counts-to-requires c =
    let t = c.args.tally in
    room_first (counts_text t) (rows_text 1 (drop 1 t.numbers)) 0 _ (omega (arith, c.requires))

pub loop-i-init : goal.loop-i-init
unfolding largest meanings
loop-i-init c =
    (omega arith, none_yet _ _ _)

pub put_row-to-requires : goal.put_row-to-requires
unfolding largest meanings
put_row-to-requires c =
    let t = c.args.tally in
    let i = c.loop-i.i in
    let l : length t.numbers ≡ suc largest = search rules in
    let h : i < length t.numbers = omega arith in
    let r = room_then (rows_text 1 (drop 1 t.numbers)) c.put_counts-to.ensures (omega
    (arith, c.requires)) in
    room_more c.loop-i.invariant.1 (row_text i (get_or t.numbers i 0)) (rows_text (i + 1) (drop (i + 1) t.numbers))
    (rows_next t.numbers i h) r

pub loop-i-preserved : goal.loop-i-preserved
unfolding largest meanings
loop-i-preserved c =
    let t = c.args.tally in
    let i = c.loop-i.i in
    let l : length t.numbers ≡ suc largest = search rules in
    let h : i < length t.numbers = omega arith in (
      omega arith,
      one_more c.loop-i.invariant.1 (rows_next t.numbers i h) c.put_row-to.ensures,
    )

pub returns : goal.returns
unfolding largest meanings
returns c =
    let t = c.args.tally in
    let i = c.loop-i.i in
    let l : length t.numbers ≡ suc largest = search rules in
    let h : length t.numbers ≤ i = omega arith in
    put_then c.put_counts-to.ensures (all_put c.loop-i.invariant.1 (rows_end t.numbers i h))
