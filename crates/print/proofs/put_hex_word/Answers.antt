-- `put_hex_word` meets its contract. Assumes nothing.
use mathlib.Core.Path.{◌≡◌, sym, ap}
use native.Mathlib.Omega.{arith}
use lib.ListN.{length}
use Rattle.print.proofs.Puts.{put_none, put_then, put_as, put_length}
use Rattle.print.proofs.Texts.{hex_word_none, hex_word_some}
use Rattle.print.proofs.put_hex_word.Goals as goal
use Rattle.print.proofs.put_hex_word.Goals.{Start}

pub returns-then-bytes-eq0 : goal.returns-then-bytes-eq0
returns-then-bytes-eq0 c =
    let h : length c.args.bytes.now ≡ 0 = omega arith in
    put_as (put_none _ _) (sym (hex_word_none c.args.bytes.now h))

pub put_one-to-requires : goal.put_one-to-requires
put_one-to-requires c =
    let e = hex_word_some c.args.bytes.now (λ z. omega arith) in
    omega (arith, ap length e, c.requires)

pub put_hex-requires : goal.put_hex-requires
put_hex-requires c =
    let e = hex_word_some c.args.bytes.now (λ z. omega arith) in
    let p = c.put_one-to.ensures in
    omega (arith, ap length e, c.requires, p.ends, put_length p)

pub returns : goal.returns
returns c =
    let e = hex_word_some c.args.bytes.now (λ z. omega arith) in
    put_as (put_then c.put_one-to.ensures c.put_hex.ensures) (sym e)
