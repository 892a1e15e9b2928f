-- `put_numbers` meets its contract: after i numbers the texts of the first i are put. Assumes nothing.
use lib.ListN.{take}
use Rattle.print.specs.Put.{Put}
use Rattle.print.specs.Text.{numbers}
use Rattle.print.proofs.put_numbers.Given as goal

abbrev pub invariant-loop-value : goal.invariant-loop-value
invariant-loop-value l =
    Put l.initial.out l.at (numbers (take l.value-index l.values)) l.out l.to
