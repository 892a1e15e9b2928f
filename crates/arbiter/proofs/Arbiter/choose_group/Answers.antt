-- `arbiter::Arbiter::choose_group` meets its contract. Assumes nothing.
use mathlib.Core.Path.{◌∙◌}
use Rattle.arbiter.proofs.Mechanisms.{group_turn}
use Rattle.arbiter.proofs.Arbiter.choose_group.Goals as goal

pub returns-in_err-id : goal.returns-in_err-id
returns-in_err-id c =
    c.from_residual.ensures ∙ group_turn _ _ c.burst.ensures.value c.in_err-id.ensures.value

pub returns : goal.returns
returns c =
    group_turn _ _ c.burst.ensures.value
    c.in_ok-id.ensures.value
