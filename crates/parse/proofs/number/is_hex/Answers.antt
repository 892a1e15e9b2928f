-- `is_hex` meets its contract. Assumes nothing.
use mathlib.Core.Path.{sym}
use Prim.Native.Nat.{◌≤◌, ◌<◌}
use native.Mathlib.Omega.{arith}
use lib.ListN.{length}
use Rattle.parse.proofs.Numerals.{short_no_hex, long_hex}
use Rattle.parse.proofs.number.is_hex.Goals as goal

pub returns-then-word-lt3 : goal.returns-then-word-lt3
returns-then-word-lt3 c =
    let w = c.args.word.now in
    let h : length w < 3 = omega arith in
    sym (short_no_hex w h)

pub returns : goal.returns
returns c =
    let w = c.args.word.now in
    let h : 3 ≤ length w = omega arith in
    sym (long_hex w h)
