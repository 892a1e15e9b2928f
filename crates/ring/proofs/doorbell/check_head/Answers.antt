use mathlib.Core.Bool.{true}
use mathlib.Core.Path.{sym, ◌∙◌}
use Rattle.std.proofs.lemmas.Result.{err_from_is_err_and}
use Rattle.ring.proofs.Doorbells.{check_places, check_value, sound}
use Rattle.ring.proofs.doorbell.check_head.Goals as goal

pub returns-in_err-places : goal.returns-in_err-places
returns-in_err-places c =
    let p = err_from_is_err_and c.from_residual.result c.from_residual.ensures.1 in
    rw (p.1, p.2) (check_places _ _ _ _ _ c.in_err-places.ensures)

pub valid_head-requires : goal.valid_head-requires
valid_head-requires c =
    sound _ _ _ true c.in_ok-places.ensures

pub returns-then-valid_head : goal.returns-then-valid_head
returns-then-valid_head c =
    check_value _ _ _ _ c.in_ok-places.ensures 0 (rw (sym c.valid_head.ensures ∙ c.if-valid_head.true))

pub returns-else-valid_head : goal.returns-else-valid_head
returns-else-valid_head c =
    check_value _ _ _ _ c.in_ok-places.ensures 10 (rw (sym c.valid_head.ensures ∙ c.if-valid_head.false))
