-- What is read stands behind what was read before. Assumes nothing.
use Rattle.std.proofs.Common.{arith, subst, List, ℕ, sym}
use Rattle.std.specs.Io.KnownBytes.{Consumes}
use Rattle.stream.proofs.Known.{consumes_twice, take_behind}
use Rattle.stream.proofs.fill.Goals as goal

pub loop-done-preserved : goal.loop-done-preserved
loop-done-preserved g c =
    let l = c.loop-done in
    let m = c.in-Ok in (
      omega (arith, m.ensures.prefix_len.0),
      subst (λ (bs : List ℕ). Consumes (g.R.Read.remaining c.args.input.now) (g.R.Read.remaining c.read.new.input) bs)
          (sym (take_behind l.done m.count l.buf c.read.new.buf _ l.invariant.0 m.ensures.prefix_len.0))
          (consumes_twice _ _ _ _ _ l.invariant.1 m.ensures.bytes.0),
    )
