use borrow.Author.Rules.{rules}
use Prim.Native.Nat.{◌+◌}
use mathlib.Core.Path.{◌≡◌, ◌∙◌, sym}
use native.Mathlib.Nat.{zero-add, add-zero, sub-zero}
use Rattle.ring.specs.Reader.{phase_in}
use Rattle.ring.proofs.Counts.{run_step, run_stop, run_all}
use Rattle.ring.proofs.reader.run.Goals as goal

pub loop-n-init : goal.loop-n-init
loop-n-init c =
    λ size h. simp (zero-add, add-zero, sub-zero)

pub returns-then-phase_in-phase : goal.returns-then-phase_in-phase
returns-then-phase_in-phase c =
    let a = c.args in
    let miss : phase_in a.ring.now (a.slot + c.loop-n.n) ≡ a.phase → ⊥ = λ e. c.if-phase_in-phase.true (c.phase_in.ensures ∙ e) in (
      search rules,
      λ size h. sym
          (c.loop-n.invariant size h
          ∙ run_stop a.ring.now size a.most c.loop-n.n (a.slot + c.loop-n.n) a.phase (search rules) miss),
    )

pub loop-n-preserved : goal.loop-n-preserved
loop-n-preserved c =
    let a = c.args in
    let hit : phase_in a.ring.now (a.slot + c.loop-n.n) ≡ a.phase = sym c.phase_in.ensures ∙ c.if-phase_in-phase.false in
    λ size h. c.loop-n.invariant size h ∙ run_step a.ring.now size a.most c.loop-n.n a.slot a.phase (search rules) h hit

pub returns : goal.returns
returns c =
    let a = c.args in
    let e : c.loop-n.n ≡ a.most = search rules in
    (search rules, λ size h. sym (c.loop-n.invariant size h ∙ rw e (run_all a.ring.now size a.most (a.slot + a.most) a.phase)))
