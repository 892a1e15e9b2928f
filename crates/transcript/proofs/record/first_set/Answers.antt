-- `first_set` meets its contract. Assumes nothing.
use Rattle.std.proofs.Common.{arith}
use Rattle.transcript.proofs.Wrongs.{set_inside, set_here, set_next, set_later}
use Rattle.transcript.proofs.record.first_set.Goals as goal

pub returns-then-bytes-i-ne0 : goal.returns-then-bytes-i-ne0
returns-then-bytes-i-ne0 c =
    let l = c.loop-i in
    let h = set_inside c.args.bytes.now l.i l.invariant.0 in
    (omega (arith, l.invariant.1, set_here c.args.bytes.now l.i h c.if-bytes-i-ne0.true), h)

pub loop-i-preserved : goal.loop-i-preserved
loop-i-preserved c =
    let b = c.args.bytes.now in
    let l = c.loop-i in
    let h = set_inside b l.i l.invariant.0 in
    let z = c.if-bytes-i-ne0.false in
    (set_later b l.i h z l.invariant.0, omega (arith, l.invariant.1, set_next b l.i h z))
