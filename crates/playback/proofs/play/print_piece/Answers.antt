-- There is room for the lines of a piece. Assumes nothing.
use Rattle.std.proofs.Common.{arith, sym, length-take-le}
use Rattle.transcript.proofs.Rooms.{piece_most}
use Rattle.playback.proofs.play.print_piece.Goals as goal

pub put_piece-piece-requires-clause-answers_in_bounds : goal.put_piece-piece-requires-clause-answers_in_bounds
put_piece-piece-requires-clause-answers_in_bounds g c =
    let a = c.args in
    omega (arith, piece_most a.s.tally a.trace.now a.answers.now c.requires.0, c.requires.2)

pub slice_bounds-is_written-end : goal.slice_bounds-is_written-end
slice_bounds-is_written-end g c =
    let a = c.args in
    omega (arith, c.put_piece-piece.ensures.put.ends, piece_most a.s.tally a.trace.now a.answers.now c.requires.0, c.requires.2)

pub slice_bounds-is_written-end-2 : goal.slice_bounds-is_written-end-2
slice_bounds-is_written-end-2 g c = sym (length-take-le _ _ (slice_bounds-is_written-end g c))
