-- `put_verdict` meets its contract. Assumes nothing.
use mathlib.Core.Path.{ap, sym}
use mathlib.Core.Bool.{Bool}
use native.Mathlib.Omega.{arith}
use lib.ListN.{length}
use Rattle.print.proofs.Puts.{put_as}
use Rattle.form.specs.Shown.{verdict}
use Rattle.form.proofs.put_verdict.Goals as goal

pub put-requires : goal.put-requires
put-requires c =
    omega (arith, ap (λ (b : Bool). length (verdict b)) c.if-same.true, c.requires)

pub returns-then-same : goal.returns-then-same
returns-then-same c =
    put_as c.put.ensures (ap verdict (sym c.if-same.true))

pub put-requires-2 : goal.put-requires-2
put-requires-2 c =
    omega (arith, ap (λ (b : Bool). length (verdict b)) c.if-same.false, c.requires)

pub returns : goal.returns
returns c =
    put_as c.put-2.ensures (ap verdict (sym c.if-same.false))
