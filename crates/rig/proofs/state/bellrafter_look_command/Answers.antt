-- `bellrafter_look_command` meets its contract. Assumes nothing.
use mathlib.Core.Path.{◌≡◌, sym, ap, ◌∙◌}
use Prim.Native.Nat.{ℕ}
use mathlib.Core.Bool.{not}
use Rattle.controller.specs.State.{outstanding}
use Rattle.controller.proofs.Outstanding.{out_set}
use Rattle.store.specs.Held.{held}
use Rattle.rig.proofs.Exports.{command_14, command_0}
use Rattle.rig.proofs.state.bellrafter_look_command.Goals as goal
use Rattle.rig.proofs.state.bellrafter_look_command.Goals.{After-is_outstanding}

-- whether the tag is outstanding
out_is :
    (c : After-is_outstanding)
    → (let a = c.args in c.is_outstanding.result ≡ outstanding (held a.state.now).free a.tag)
out_is c =
    c.is_outstanding.ensures ∙ ap (λ (f : ℕ). outstanding f c.args.tag) c.free_of.ensures

pub returns-then-not-is_outstanding : goal.returns-then-not-is_outstanding
returns-then-not-is_outstanding c =
    command_14 (held c.args.state.now) _
    (out_is (goal.at.returns-then-not-is_outstanding c).After-is_outstanding) (ap not c.if-not-is_outstanding.true)

pub command_at-k-requires : goal.command_at-k-requires
command_at-k-requires c =
    (out_set _ _ (sym (out_is (goal.at.command_at-k-requires c).After-is_outstanding) ∙ c.if-not-is_outstanding.false)).0

pub returns : goal.returns
returns c =
    command_0 (held c.args.state.now) _
    (out_is (goal.at.returns c).After-is_outstanding) (ap not c.if-not-is_outstanding.false) c.command_at-k.ensures
