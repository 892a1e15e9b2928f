-- `is_named` meets its contract. Assumes nothing.
use mathlib.Core.Path.{refl, ◌∙◌}
use borrow.Author.Rules.{rules}
use Rattle.std.proofs.Common.{tests}
use Rattle.std.proofs.lemmas.Iterator.{YieldsList-from_range}
use Rattle.std.proofs.lemmas.Iterator.Search.{any_from_yields_List}
use Rattle.controller.specs.Delete.{naming, named}
use Rattle.store.specs.Held.{held}
use Rattle.queues.proofs.Scans.{any_below}
use Rattle.queues.proofs.delete.is_named.Goals as goal

pub returns : goal.returns
unfolding named
returns c =
    any_from_yields_List (naming (held c.args.state.now) c.args.id) _ _ _ c.any.ensures.ran (YieldsList-from_range 0 16 16 refl refl)
    (λ x b q k. search (rules, tests))
    ∙ any_below (naming (held c.args.state.now) c.args.id) 16
