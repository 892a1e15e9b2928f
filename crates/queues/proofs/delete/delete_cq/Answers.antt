-- `delete_cq` meets its contract. Assumes nothing.
use Prim.Native.Nat.{ℕ}
use mathlib.Core.Bool.{Bool}
use mathlib.Core.Path.{◌≡◌, sym, ◌∙◌}
use native.Mathlib.Omega.{arith}
use Rattle.std.proofs.lemmas.Result.{err_from_is_err_and}
use Rattle.rules.specs.Rules.{first_match}
use Rattle.controller.specs.Controller.{Controller}
use Rattle.controller.specs.State.{cq_at}
use Rattle.controller.specs.Delete.{named, delete_rules, delete_cq_refusal, delete_cq}
use Rattle.controller.proofs.Made.{deletable_cq}
use Rattle.store.specs.Held.{held}
use Rattle.queues.proofs.Changes.{unchanged, changed}
use Rattle.queues.proofs.delete.delete_cq.Goals as goal

-- the refusal is the definition's
refusal :
    (c : Controller) (id r : ℕ) (exists in_use : Bool)
    → exists ≡ (cq_at c id).ring.exists → in_use ≡ named c id
    → r ≡ first_match (delete_rules id exists in_use 34)
    → r ≡ delete_cq_refusal c id
unfolding delete_cq_refusal
refusal c id r exists in_use e u x = rw (← e, ← u) x

pub returns-in_err-may_delete : goal.returns-in_err-may_delete
unfolding delete_cq
returns-in_err-may_delete c =
    let p = err_from_is_err_and c.from_residual.result c.from_residual.ensures.1 in
    rw (p.1, p.2) (
      c.requires.sound,
      λ m. unchanged _ _ m _ (refusal (held c.args.state.now) c.args.id _ _ _ c.cq_exists.ensures c.is_named.ensures
          c.in_err-may_delete.ensures),
    )

pub put_cq-requires : goal.put_cq-requires
put_cq-requires c = (
  omega (
    arith,
    (deletable_cq _ _ (sym (refusal (held c.args.state.now) c.args.id _ _ _ c.cq_exists.ensures c.is_named.ensures
        c.in_ok-may_delete.ensures))).id_low,
  ),
  c.requires.sound,
)

pub returns : goal.returns
unfolding delete_cq
returns c =
    let p = c.put_cq.ensures in (
      p.sound,
      λ m. changed _ _ m (refusal (held c.args.state.now) c.args.id _ _ _ c.cq_exists.ensures c.is_named.ensures
          c.in_ok-may_delete.ensures) (p.is ∙ rw c.no_ring-ring.ensures),
    )
