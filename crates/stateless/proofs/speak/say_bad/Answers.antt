-- `say_bad` meets its contract. Assumes nothing.
use mathlib.Core.Path.{refl}
use native.Mathlib.Omega.{arith}
use Rattle.print.proofs.Texts.{bad_line_most}
use Rattle.stateless.proofs.speak.say_bad.Goals as goal

pub put_bad-requires : goal.put_bad-requires
put_bad-requires c =
    omega (arith, bad_line_most c.args.number)

pub returns : goal.returns
returns c =
    λ w.
    let p = c.put_bad.ensures in
    record {
      text = p;
      good = refl;
      refusal = refl;
      numbered = tt;
      lent = refl;
      short = omega (arith, p.ends, bad_line_most c.args.number);
    }
