-- `delete_sq` meets its contract. Assumes nothing.
use Prim.Native.Nat.{ℕ}
use mathlib.Core.Bool.{Bool}
use mathlib.Core.Path.{◌≡◌, sym, ◌∙◌}
use native.Mathlib.Omega.{arith}
use Rattle.std.proofs.lemmas.Result.{err_from_is_err_and}
use Rattle.rules.specs.Rules.{first_match}
use Rattle.controller.specs.Controller.{Controller}
use Rattle.controller.specs.State.{sq_at}
use Rattle.controller.specs.Delete.{busy, delete_rules, delete_sq_refusal, delete_sq}
use Rattle.controller.proofs.Made.{deletable_sq}
use Rattle.store.specs.Held.{held}
use Rattle.queues.proofs.Changes.{unchanged, changed}
use Rattle.queues.proofs.delete.delete_sq.Goals as goal

-- the refusal is the definition's
refusal :
    (c : Controller) (id r : ℕ) (exists in_use : Bool)
    → exists ≡ (sq_at c id).ring.exists → in_use ≡ busy c id
    → r ≡ first_match (delete_rules id exists in_use 33)
    → r ≡ delete_sq_refusal c id
unfolding delete_sq_refusal
refusal c id r exists in_use e u x = rw (← e, ← u) x

pub returns-in_err-may_delete : goal.returns-in_err-may_delete
unfolding delete_sq
returns-in_err-may_delete c =
    let p = err_from_is_err_and c.from_residual.result c.from_residual.ensures.1 in
    rw (p.1, p.2) (
      c.requires.sound,
      λ m. unchanged _ _ m _ (refusal (held c.args.state.now) c.args.id _ _ _ c.sq_exists.ensures c.is_busy.ensures
          c.in_err-may_delete.ensures),
    )

pub put_sq-requires : goal.put_sq-requires
put_sq-requires c = (
  omega (
    arith,
    (deletable_sq _ _ (sym (refusal (held c.args.state.now) c.args.id _ _ _ c.sq_exists.ensures c.is_busy.ensures
        c.in_ok-may_delete.ensures))).id_low,
  ),
  c.requires.sound,
)

pub returns : goal.returns
unfolding delete_sq
returns c =
    let p = c.put_sq.ensures in (
      p.sound,
      λ m. changed _ _ m (refusal (held c.args.state.now) c.args.id _ _ _ c.sq_exists.ensures c.is_busy.ensures
          c.in_ok-may_delete.ensures) (p.is ∙ rw c.no_ring-ring.ensures),
    )
