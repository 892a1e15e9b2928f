-- `create_cq` meets its contract. Assumes nothing.
use mathlib.Core.Path.{sym, ◌∙◌}
use native.Mathlib.Omega.{arith}
use Rattle.std.proofs.lemmas.Result.{err_from_is_err_and}
use Rattle.controller.specs.Create.{create_cq}
use Rattle.controller.proofs.Made.{new_cq_lem}
use Rattle.queues.proofs.Changes.{unchanged, changed}
use Rattle.queues.proofs.create.create_cq.Goals as goal

pub returns-in_err-may_create_cq : goal.returns-in_err-may_create_cq
unfolding create_cq
returns-in_err-may_create_cq c =
    let p = err_from_is_err_and c.from_residual.result c.from_residual.ensures.1 in
    rw (p.1, p.2) (c.requires.sound, unchanged _ _ _ _ c.in_err-may_create_cq.ensures)

pub new_ring-ring-requires : goal.new_ring-ring-requires
new_ring-ring-requires c =
    (new_cq_lem _ _ _ _ _ (sym c.in_ok-may_create_cq.ensures)).ring.high

pub put_cq-requires : goal.put_cq-requires
put_cq-requires c =
    (omega (arith, (new_cq_lem _ _ _ _ _ (sym c.in_ok-may_create_cq.ensures)).id_low), c.requires.sound)

pub returns : goal.returns
unfolding create_cq
returns c =
    let p = c.put_cq.ensures in
    (p.sound, changed _ _ _ c.in_ok-may_create_cq.ensures (p.is ∙ rw c.new_ring-ring.ensures))
