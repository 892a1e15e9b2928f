-- `put_line` meets its contract. Assumes nothing.
use mathlib.Core.Path.{sym, ap}
use native.Mathlib.Omega.{arith}
use lib.ListN.{length, length-append}
use Rattle.print.specs.Text.{line_end}
use Rattle.print.proofs.Puts.{put_none, put_then, put_as, put_length}
use Rattle.form.proofs.Shows.{above_alone, above_beside, above_under}
use Rattle.form.proofs.put_line.Goals as goal

pub put-to-requires : goal.put-to-requires
put-to-requires c =
    let e = above_under _ c.args.line.now c.in-Under.is in
    omega (arith, ap length e, length-append c.args.line.now line_end, c.requires)

pub put_end-requires : goal.put_end-requires
put_end-requires c =
    let p = c.put-to.ensures in
    let e = above_under _ c.args.line.now c.in-Under.is in
    omega (arith, ap length e, length-append c.args.line.now line_end, c.requires, p.ends, put_length p)

pub returns-in-Alone : goal.returns-in-Alone
returns-in-Alone c =
    put_as (put_none _ _) (sym (above_alone _ _ c.in-Alone.is))

pub returns-in-Beside : goal.returns-in-Beside
returns-in-Beside c =
    put_as (put_none _ _) (sym (above_beside _ _ c.in-Beside.is))

pub returns-in-Under : goal.returns-in-Under
returns-in-Under c =
    put_as (put_then c.put-to.ensures c.put_end.ensures)
    (sym (above_under _ _ c.in-Under.is))
