-- `put_hex` meets its contract: after i bytes the digits of the first i are put. Assumes nothing.
use lib.ListN.{take}
use Rattle.print.specs.Put.{Put}
use Rattle.print.specs.Text.{hex}
use Rattle.print.proofs.put_hex.Given as goal

abbrev pub invariant-loop-byte : goal.invariant-loop-byte
invariant-loop-byte l =
    Put l.initial.out l.at (hex (take l.byte-index l.bytes)) l.out l.to
