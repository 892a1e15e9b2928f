-- `create_sq` meets its contract. Assumes nothing.
use mathlib.Core.Path.{sym, ◌∙◌}
use native.Mathlib.Omega.{arith}
use Rattle.std.proofs.lemmas.Result.{err_from_is_err_and}
use Rattle.controller.specs.Create.{create_sq}
use Rattle.controller.proofs.Made.{new_sq_lem}
use Rattle.controller.proofs.Validity.{cq_below, valid}
use Rattle.queues.proofs.Changes.{unchanged, changed}
use Rattle.queues.proofs.create.create_sq.Goals as goal

pub returns-in_err-may_create_sq : goal.returns-in_err-may_create_sq
unfolding create_sq
returns-in_err-may_create_sq c =
    let p = err_from_is_err_and c.from_residual.result c.from_residual.ensures.1 in
    rw (p.1, p.2) (c.requires.sound, unchanged _ _ _ _ c.in_err-may_create_sq.ensures)

pub new_ring-ring-requires : goal.new_ring-ring-requires
new_ring-ring-requires c =
    (new_sq_lem _ _ _ _ _ _ _ (sym c.in_ok-may_create_sq.ensures)).ring.high

pub overflow_cast-cq : goal.overflow_cast-cq
overflow_cast-cq c =
    omega (arith, cq_below (valid c.requires.reachable) (new_sq_lem _ _ _ _ _ _ _ (sym c.in_ok-may_create_sq.ensures)).cq_here)

pub overflow_cast-class : goal.overflow_cast-class
overflow_cast-class c =
    omega (arith, (new_sq_lem _ _ _ _ _ _ _ (sym c.in_ok-may_create_sq.ensures)).class_low)

pub put_sq-requires : goal.put_sq-requires
put_sq-requires c =
    (omega (arith, (new_sq_lem _ _ _ _ _ _ _ (sym c.in_ok-may_create_sq.ensures)).id_low), c.requires.sound)

pub returns : goal.returns
unfolding create_sq
returns c =
    let p = c.put_sq.ensures in
    (p.sound, changed _ _ _ c.in_ok-may_create_sq.ensures (p.is ∙ rw c.new_ring-ring.ensures))
