-- Both loops keep the way from the list's start to where they stand, and what the buffer comes to once the rest of the list is stored.
-- A turn of the outer loop that goes on has followed a pointer.
use mathlib.Core.List.{List}
use mathlib.Core.Path.{◌≡◌}
use Prim.Native.Nat.{ℕ, ◌+◌, ◌*◌, ◌%◌}
use lib.Seq.{sets}
use Rattle.prp.specs.Pages.{page_size}
use Rattle.prp.specs.Walk.{list}
use Rattle.prp.specs.Answer.{addresses_of, numbers, Found}
use Rattle.prp.proofs.Between.{pointers, Run, Between}
use Rattle.prp.proofs.store_list.Given as goal

-- the buffer once the addresses of the list from a on are stored at to
abbrev pub full : ℕ → List ℕ → List ℕ → ℕ → ℕ → ℕ → List ℕ
full page m buf to a left = sets buf to (numbers 8 (addresses_of (list page m left a)))

-- where the storing stands: on the way from the start of a good list, with room for the rest, and with the same buffer in the end as
-- from the first place of a loop
pub record Copy (page : ℕ) (m : List ℕ) (start count : ℕ) (old : List ℕ) (a₀ left₀ to₀ : ℕ) (buf : List ℕ) (a left to : ℕ) : Type 0 where
  pub n : ℕ
  pub way : Between page m start count n a left
  pub good : Found (list page m count start)
  pub place : to + 8 * left ≡ 8 + 8 * count
  pub kept : full page m buf to a left ≡ full page m old to₀ a₀ left₀

abbrev pub invariant-loop-more : goal.invariant-loop-more
invariant-loop-more l =
    Copy (page_size l.page.number) l.memory l.start l.count l.initial.addresses l.initial.at l.initial.left l.initial.to
    l.addresses l.at l.left l.to
    × Run (page_size l.page.number) l.initial.at l.initial.left l.at l.left l.more

abbrev pub decreases-loop-more : goal.decreases-loop-more
decreases-loop-more l =
    l.more

abbrev pub invariant-loop-addresses : goal.invariant-loop-addresses
invariant-loop-addresses l =
    Copy (page_size l.page.number) l.memory l.start l.count l.initial.addresses l.initial.at l.initial.left l.initial.to
    l.addresses l.at l.left l.to
    × (l.at % 8 ≡ 0)

abbrev pub decreases-loop-addresses : goal.decreases-loop-addresses
decreases-loop-addresses l =
    pointers (page_size l.page.number) l.at l.left
