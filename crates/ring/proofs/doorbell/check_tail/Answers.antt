use mathlib.Core.Bool.{true}
use mathlib.Core.Path.{sym, ◌∙◌}
use Rattle.std.proofs.lemmas.Result.{err_from_is_err_and}
use Rattle.ring.proofs.Doorbells.{check_places, check_value, sound}
use Rattle.ring.proofs.doorbell.check_tail.Goals as goal

pub returns-in_err-places : goal.returns-in_err-places
returns-in_err-places c =
    let p = err_from_is_err_and c.from_residual.result c.from_residual.ensures.1 in
    rw (p.1, p.2) (check_places _ _ _ _ _ c.in_err-places.ensures)

pub valid_tail-requires : goal.valid_tail-requires
valid_tail-requires c =
    sound _ _ _ true c.in_ok-places.ensures

pub returns-then-valid_tail : goal.returns-then-valid_tail
returns-then-valid_tail c =
    check_value _ _ _ _ c.in_ok-places.ensures 0 (rw (sym c.valid_tail.ensures ∙ c.if-valid_tail.true))

pub returns-else-valid_tail : goal.returns-else-valid_tail
returns-else-valid_tail c =
    check_value _ _ _ _ c.in_ok-places.ensures 10 (rw (sym c.valid_tail.ensures ∙ c.if-valid_tail.false))
