-- What the loop of `store_counts` keeps.
use mathlib.Core.Path.{◌≡◌}
use Prim.Native.Nat.{◌-◌, ◌≤◌}
use lib.ListN.{take, drop}
use lib.Seq.{sets}
use Rattle.prp.specs.Pages.{page_size, split, byte_counts}
use Rattle.prp.specs.Answer.{numbers}
use Rattle.prp.proofs.Counts.{Ends}
use Rattle.prp.proofs.store_counts.Given as goal

-- what is stored, and what is left to be split
abbrev pub invariant-loop-i : goal.invariant-loop-i
invariant-loop-i l =
    (l.i ≤ l.last)
    × ((l.counts ≡ sets l.initial.counts 0 (numbers 4 (take l.i (byte_counts (page_size l.page.number) l.prp1 l.len l.count))))
    × ((drop l.i (byte_counts (page_size l.page.number) l.prp1 l.len l.count) ≡ split (page_size l.page.number) l.room l.left (l.count - l.i))
    × Ends (page_size l.page.number) l.room l.left (l.last - l.i)))

abbrev pub decreases-loop-i : goal.decreases-loop-i
decreases-loop-i l =
    l.last - l.i
