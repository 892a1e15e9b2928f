-- Both loops keep the way from the list's start to where they stand. A turn of the outer loop that goes on has followed a pointer.
use mathlib.Core.Path.{◌≡◌}
use Prim.Native.Nat.{◌%◌}
use Rattle.prp.specs.Pages.{page_size}
use Rattle.prp.proofs.Between.{pointers, Run, Between}
use Rattle.prp.proofs.list_pages.Given as goal

abbrev pub invariant-entries : goal.invariant-entries
invariant-entries l =
    Between (page_size l.page.number) l.memory l.start l.count l.reads l.at l.left
    × Run (page_size l.page.number) l.initial.at l.initial.left l.at l.left l.more

abbrev pub decreases-entries : goal.decreases-entries
decreases-entries l =
    l.more

abbrev pub invariant-pages : goal.invariant-pages
invariant-pages l =
    Between (page_size l.page.number) l.memory l.start l.count l.reads l.at l.left × (l.at % 8 ≡ 0)

abbrev pub decreases-pages : goal.decreases-pages
decreases-pages l =
    pointers (page_size l.page.number) l.at l.left
