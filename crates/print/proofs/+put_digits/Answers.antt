-- `put_digits` meets its contract. Assumes nothing.
use Rattle.std.proofs.Common.{sym, ap, arith, length, length-append}
use Rattle.print.proofs.Puts.{put_none, put_then, put_as, put_length}
use Rattle.print.proofs.Texts.{digits_none, digits_one, digits_more}
use Rattle.print.proofs.+put_digits.Goals as goal

pub returns-then-most-eq0 : goal.returns-then-most-eq0
returns-then-most-eq0 t c = put_as (put_none _ _) (sym (digits_none _ _ c.if-most-eq0.true))

pub put_one-requires : goal.put_one-requires
put_one-requires t c =
    omega (arith, ap length (digits_one c.args.most c.args.n c.if-most-eq0.false c.if-n-lt10.true), c.requires)

pub returns-then-n-lt10 : goal.returns-then-n-lt10
returns-then-n-lt10 t c =
    put_as c.put_one.ensures (sym (digits_one c.args.most c.args.n c.if-most-eq0.false c.if-n-lt10.true))

pub put_digits-to-requires : goal.put_digits-to-requires
put_digits-to-requires t c =
    let e = digits_more c.args.most c.args.n c.if-most-eq0.false c.if-n-lt10.false in
    (omega arith, omega (arith, simp length-append at (ap length e), c.requires))

pub put_one-requires-2 : goal.put_one-requires-2
put_one-requires-2 t c =
    let e = digits_more c.args.most c.args.n c.if-most-eq0.false c.if-n-lt10.false in
    let p = c.put_digits-to.ensures in
    omega (arith, simp length-append at (ap length e), c.requires, p.ends, put_length p)

pub returns : goal.returns
returns t c =
    put_as (put_then c.put_digits-to.ensures c.put_one-2.ensures)
    (sym (digits_more c.args.most c.args.n c.if-most-eq0.false c.if-n-lt10.false))
