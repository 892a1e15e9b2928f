-- `without_cr` meets its contract. Assumes nothing.
use mathlib.Core.Path.{◌≡◌, sym}
use Prim.Native.Nat.{◌≤◌, ◌<◌}
use native.Mathlib.Omega.{arith}
use lib.ListN.{length}
use Rattle.parse.proofs.Texts.{cr_none, cr_too_long, cr_absent, cr_there}
use Rattle.parse.proofs.line.without_cr.Goals as goal

pub returns-then-n-eq0 : goal.returns-then-n-eq0
returns-then-n-eq0 c =
    let h : length c.args.line.now ≡ 0 = omega arith in sym (cr_none c.args.line.now h)

pub returns-then-n-gt-MOST_BYTES : goal.returns-then-n-gt-MOST_BYTES
returns-then-n-gt-MOST_BYTES c =
    let l = c.args.line.now in
    let h : 4096 < length l = omega arith in
    sym (cr_too_long l h)

pub returns-then-line-n-ne13 : goal.returns-then-line-n-ne13
returns-then-line-n-ne13 c =
    let l = c.args.line.now in
    let h : length l ≤ 4096 = omega arith in
    sym (cr_absent l h c.if-line-n-ne13.true)

pub returns : goal.returns
returns c =
    let l = c.args.line.now in
    let h : length l ≤ 4096 = omega arith in
    sym (cr_there l h c.if-line-n-ne13.false)
