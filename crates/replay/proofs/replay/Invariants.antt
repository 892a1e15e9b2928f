-- `replay` meets its contract: each turn of the loop answers one record. Assumes nothing.
use Prim.Native.Nat.{◌*◌}
use mathlib.Core.Path.{◌≡◌}
use lib.ListN.{length}
use Rattle.std.specs.Prelude.{min}
use Rattle.store.specs.Held.{held, Reached}
use Rattle.replay.proofs.Playing.{Going}
use Rattle.replay.proofs.replay.Given as goal

-- the records so far fill 16 bytes each, the last of all perhaps fewer
abbrev pub invariant-loop-i : goal.invariant-loop-i
invariant-loop-i l =
    Reached l.state
    × Going (held l.initial.state) l.initial.memory l.trace l.initial.answers (held l.state) l.memory l.answers l.at
    × (l.at ≡ min (16 * l._i) (length l.trace))
    × (length l.memory ≡ length l.initial.memory)
    × (length l.answers ≡ length l.initial.answers)
