-- `put_answer` meets its contract. Assumes nothing.
use Rattle.std.proofs.Common.{length, ap, arith}
use Rattle.print.proofs.Puts.{put_as}
use Rattle.transcript.proofs.Wording.{answer_done, answer_refused}
use Rattle.transcript.proofs.record.put_answer.Goals as goal

pub put_done-requires : goal.put_done-requires
put_done-requires c =
    let a = c.args.answer.now in
    omega (
      arith,
      ap length (answer_done a c.get-refusal.ensures.0 c.if-refusal-eq0.true c.get.ensures.0 c.get-then-refusal-eq0.ensures.0),
      c.requires.1,
    )

pub returns-then-refusal-eq0 : goal.returns-then-refusal-eq0
returns-then-refusal-eq0 c =
    put_as c.put_done.ensures (answer_done _ c.get-refusal.ensures.0 c.if-refusal-eq0.true c.get.ensures.0 c.get-then-refusal-eq0.ensures.0)

pub put_refused-requires : goal.put_refused-requires
put_refused-requires c =
    let a = c.args.answer.now in
    omega (
      arith,
      ap length (answer_refused a c.get-refusal.ensures.0 c.if-refusal-eq0.false),
      c.requires.1,
    )

pub returns : goal.returns
returns c =
    put_as c.put_refused.ensures (answer_refused _ c.get-refusal.ensures.0 c.if-refusal-eq0.false)
