-- `put_hex_byte` meets its contract. Assumes nothing.
use Rattle.print.proofs.Puts.{put_then, put_as}
use Rattle.print.proofs.put_hex_byte.Goals as goal
use Rattle.print.proofs.put_hex_byte.Goals.{Start}

pub returns : goal.returns
returns c =
    let high = c.hex_digit in
    let low = c.hex_digit-2 in
    put_as (put_then c.put_one-to.ensures c.put_one.ensures)
    (rw (high.ensures, low.ensures))
