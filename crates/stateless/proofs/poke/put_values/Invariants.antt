-- `put_values` meets its contract: after i values the first i are put. Assumes nothing.
use lib.ListN.{take}
use Rattle.le.specs.Le.{le}
use Rattle.print.specs.Text.{each}
use Rattle.print.specs.Put.{Put}
use Rattle.stateless.proofs.poke.put_values.Given as goal

abbrev pub invariant-loop-value : goal.invariant-loop-value
invariant-loop-value l =
    Put l.initial.memory l.at (each (le l.width) (take l.value-index l.values)) l.memory l.to
