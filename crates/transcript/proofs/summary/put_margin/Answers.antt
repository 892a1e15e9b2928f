-- `put_margin` meets its contract. Assumes nothing.
use Rattle.std.proofs.Common.{length, ap, arith}
use Rattle.print.proofs.Puts.{put_none, put_as}
use Rattle.transcript.proofs.Sums.{margin_one, margin_none}
use Rattle.transcript.proofs.summary.put_margin.Goals as goal

pub put-requires : goal.put-requires
put-requires c =
    omega (arith, ap length (margin_one _ c.if-number-lt10.true), c.requires)

pub returns-then-number-lt10 : goal.returns-then-number-lt10
returns-then-number-lt10 c =
    put_as c.put.ensures (margin_one _ c.if-number-lt10.true)

pub returns : goal.returns
returns c =
    put_as (put_none _ _) (margin_none _ c.if-number-lt10.false)
