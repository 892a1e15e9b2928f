-- `past` meets its contract. Assumes nothing.
use mathlib.Core.Path.{sym, ◌∙◌}
use native.Mathlib.Omega.{arith}
use Rattle.parse.proofs.Lines.{lead_more, lead_stop, lead_end}
use Rattle.parse.proofs.line.past.Goals as goal

pub returns-then-not-passes-clause-value : goal.returns-then-not-passes-clause-value
returns-then-not-passes-clause-value g c =
    let l = c.loop-i in
    λ p h. omega (arith, l.invariant p h, lead_stop p c.args.text.now l.i c.loop-i-test.true (sym (h _ _ c.if-not-passes.ensures)))

pub loop-i-preserved : goal.loop-i-preserved
loop-i-preserved g c =
    let l = c.loop-i in
    λ p h. sym (lead_more p c.args.text.now l.i c.loop-i-test.true (sym (h _ _ c.if-not-passes.ensures))) ∙ l.invariant p h

pub returns-clause-value : goal.returns-clause-value
returns-clause-value g c =
    let l = c.loop-i in
    λ p h. omega (arith, l.invariant p h, c.requires.inside, lead_end p c.args.text.now l.i c.loop-i-test.false)
