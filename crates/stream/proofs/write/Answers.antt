-- What is written stands behind what was written before. Assumes nothing.
use Rattle.std.proofs.Common.{ℕ, List, take, arith, sym, ap, subst, ◌∙◌}
use Rattle.std.specs.Io.KnownBytes.{Appends}
use Rattle.stream.proofs.Known.{appends_then_keeps, appends_twice, take_more}
use Rattle.stream.proofs.write.Goals as goal
use Rattle.stream.proofs.write.Goals.{in-Ok, in-Err+else-not-passes}

pub loop-preserved : goal.loop-preserved
loop-preserved g c =
    let l = c.loop in
    elim c.match-write.branch [
      | in-Ok w ↦ (
        omega (arith, w.in-Ok.ensures.bound),
        subst (λ (bs : List ℕ). Appends (g.W.Write.contents c.args.output.now) (g.W.Write.contents c.write.new.self) bs)
            (sym (ap (λ (n : ℕ). take n c.args.text.now) w.done-is ∙ take_more l.done w.in-Ok.count c.args.text.now))
            (appends_twice _ _ _ _ _ l.invariant.1 w.in-Ok.ensures.bytes),
      )
      | in-Err+else-not-passes w ↦ (
        omega arith,
        subst (λ (bs : List ℕ). Appends (g.W.Write.contents c.args.output.now) (g.W.Write.contents c.write.new.self) bs)
            (sym (ap (λ (n : ℕ). take n c.args.text.now) w.done-is))
            (appends_then_keeps _ _ _ _ l.invariant.1 w.in-Err.ensures.bytes),
      )
    ]
