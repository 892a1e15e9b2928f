-- `some_ring` meets its contract. Assumes nothing.
use mathlib.Core.Path.{refl, ◌∙◌}
use borrow.Author.Rules.{rules}
use Rattle.std.proofs.lemmas.Iterator.{YieldsList-from_range}
use Rattle.std.proofs.lemmas.Iterator.Search.{any_from_yields_List}
use Rattle.controller.specs.Rings.{either_ring, some_ring}
use Rattle.queues.specs.Tests.{by_bytes}
use Rattle.store.specs.Held.{held}
use Rattle.queues.proofs.Scans.{any_below}
use Rattle.queues.proofs.rings.some_ring.Goals as goal

pub returns : goal.returns
unfolding some_ring
returns g c = λ p t.
    any_from_yields_List (either_ring (held c.args.state.now) (by_bytes p)) _ _ _ c.any.ensures.ran
    (YieldsList-from_range 0 16 16 refl refl)
    (λ x b q k. search rules)
    ∙ any_below (either_ring (held c.args.state.now) (by_bytes p)) 16
