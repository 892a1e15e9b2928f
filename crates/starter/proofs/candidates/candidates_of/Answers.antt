-- `candidates_of` meets its contract: the masks are taken apart, and their sum is that of all candidates. Assumes nothing.
use Rattle.controller.proofs.Validity.{valid}
use Rattle.store.specs.Held.{held}
use Rattle.starter.proofs.Masks.{Apart, apart, lesser, found}
use Rattle.starter.proofs.candidates.candidates_of.Goals as goal
use Rattle.starter.proofs.candidates.candidates_of.Goals.{After-masks_of-masks}

parts :
    (c : After-masks_of-masks) → Apart (held c.args.state.now) c.masks_of-masks.result
parts c =
    apart _ (valid c.requires.reachable).sq_class c.masks_of-masks.ensures

pub overflow_add-result : goal.overflow_add-result
overflow_add-result c =
    record { fits = lesser _ _ (lesser _ _ (parts c).few) }

pub overflow_add-result-2 : goal.overflow_add-result-2
overflow_add-result-2 c =
    record { fits = lesser _ _ (parts c).few }

pub overflow_add-result-3 : goal.overflow_add-result-3
overflow_add-result-3 c =
    record { fits = (parts c).few }

pub returns : goal.returns
returns c =
    found (parts c)
