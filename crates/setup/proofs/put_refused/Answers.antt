-- The line's number, its first word and the refusal have room, and are what is told. Assumes nothing.
use Rattle.std.proofs.Common.{ℕ, ◌-◌, List, take, drop, ap, arith}
use Rattle.parse.proofs.Lines.{word_most}
use Rattle.print.proofs.Puts.{put_as}
use Rattle.transcript.specs.Setup.{setup_line}
use Rattle.transcript.proofs.Rooms.{setup_line_most}
use Rattle.setup.proofs.Firsts.{first_word}
use Rattle.setup.proofs.put_refused.Goals as goal

pub put_setup_line-requires : goal.put_setup_line-requires
put_setup_line-requires c =
    let a = c.args in
    let s : ℕ = c.next_word-word.result.start in
    let e : ℕ = c.next_word-word.result.end in
    omega (
      arith,
      setup_line_most a.number (take (e - s) (drop s a.line.now)) a.refusal,
      word_most a.line.now s e,
      c.next_word-word.ensures.inside,
      c.requires.0,
      c.requires.1,
    )

pub returns : goal.returns
returns c =
    let a = c.args in
    let s : ℕ = c.next_word-word.result.start in
    let e : ℕ = c.next_word-word.result.end in
    let p = c.put_setup_line.ensures in (
      put_as p (ap (λ (w : List ℕ). setup_line a.number w a.refusal) (first_word c.next_word-word.ensures)),
      omega (
        arith,
        p.ends,
        setup_line_most a.number (take (e - s) (drop s a.line.now)) a.refusal,
        word_most a.line.now s e,
        c.next_word-word.ensures.inside,
        c.requires.0,
        c.requires.1,
      ),
    )
