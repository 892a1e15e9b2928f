-- `put_aside` meets its contract. Assumes nothing.
use mathlib.Core.Path.{ap}
use native.Mathlib.Omega.{arith}
use lib.ListN.{length}
use Rattle.print.proofs.Puts.{put_as}
use Rattle.form.specs.Shown.{mark}
use Rattle.form.specs.declared.Form.{Form}
use Rattle.form.proofs.Shows.{put_aside_none, put_aside_alone, beside_text, put_aside_under}
use Rattle.form.proofs.put_aside.Goals as goal

pub returns-then-n-eq0 : goal.returns-then-n-eq0
returns-then-n-eq0 c =
    put_aside_none _ _ _ _ _ c.requires.0 c.if-n-eq0.true

pub put_wanted-requires : goal.put_wanted-requires
put_wanted-requires c =
    let a = c.args in
    let t = beside_text a.form a.line.now a.out.now a.at a.n c.requires.0 c.if-n-eq0.false c.in-Beside.is in
    (omega arith, omega (arith, c.requires.0), omega (arith, ap length t, c.requires.1))

pub put-requires : goal.put-requires
put-requires c =
    omega (arith, ap (λ (f : Form). length (mark f)) c.in-Under.is, c.requires.0)

pub returns-in-Alone : goal.returns-in-Alone
returns-in-Alone c =
    put_aside_alone _ _ _ _ _ c.requires.0 c.if-n-eq0.false c.in-Alone.is

pub returns-in-Beside : goal.returns-in-Beside
returns-in-Beside c =
    put_as c.put_wanted.ensures (beside_text _ _ _ _ _ c.requires.0 c.if-n-eq0.false c.in-Beside.is)

pub returns-in-Under : goal.returns-in-Under
returns-in-Under c =
    put_aside_under _ _ _ _ _ c.requires.0 c.if-n-eq0.false c.in-Under.is c.put.ensures
