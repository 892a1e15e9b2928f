-- `put_hex` meets its contract: after i bytes the digits of the first i are put. Assumes nothing.
use mathlib.Core.Path.{sym, ap}
use native.Mathlib.Omega.{arith}
use lib.Seq.{take_all}
use Rattle.print.specs.Text.{hex_byte, hex}
use Rattle.print.proofs.Puts.{put_none, put_then, put_as, put_length}
use Rattle.print.proofs.Texts.{each_none, each_more, each_room}
use Rattle.print.proofs.put_hex.Goals as goal

pub loop-byte-init : goal.loop-byte-init
loop-byte-init c =
    put_as (put_none _ _) (sym (each_none hex_byte))

pub put_hex_byte-to-requires : goal.put_hex_byte-to-requires
put_hex_byte-to-requires c =
    let l = c.loop-byte in
    let r = each_room hex_byte c.args.bytes.now l.byte-index c.loop-byte-test.true in
    omega (arith, c.requires, r, l.invariant.ends, put_length l.invariant)

pub loop-byte-preserved : goal.loop-byte-preserved
loop-byte-preserved c =
    let l = c.loop-byte in
    put_as (put_then l.invariant c.put_hex_byte-to.ensures) (each_more hex_byte c.args.bytes.now l.byte-index c.loop-byte-test.true)

pub returns : goal.returns
returns c =
    let l = c.loop-byte in
    put_as l.invariant (ap hex (take_all l.byte-index c.args.bytes.now c.loop-byte-test.false))
