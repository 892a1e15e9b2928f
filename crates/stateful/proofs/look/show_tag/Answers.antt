-- `show_tag` meets its contract. Assumes nothing.
use mathlib.Core.Path.{◌≡◌, sym, ap, ◌∙◌}
use mathlib.Core.Bool.{true, false}
use lib.ListN.{get_or}
use Rattle.store.specs.Held.{held}
use Rattle.controller.specs.State.{outstanding}
use Rattle.language.specs.Commands.{looked}
use Rattle.stateful.proofs.look.show_tag.Goals as goal

pub returns-then-not-is_outstanding : goal.returns-then-not-is_outstanding
unfolding looked
returns-then-not-is_outstanding c =
    let e : outstanding (held c.args.state.now).free (get_or c.args.a.now 0 0) ≡ false =
    sym (c.is_outstanding.ensures ∙ ap (λ x. outstanding x (get_or c.args.a.now 0 0)) c.free_of.ensures)
    ∙ c.if-not-is_outstanding.true in
    rw e c.told.ensures.says

pub returns : goal.returns
unfolding looked
returns c =
    let e : outstanding (held c.args.state.now).free (get_or c.args.a.now 0 0) ≡ true =
    sym (c.is_outstanding.ensures ∙ ap (λ x. outstanding x (get_or c.args.a.now 0 0)) c.free_of.ensures)
    ∙ c.if-not-is_outstanding.false in
    rw e (rw c.command_at-k.ensures at c.told-2.ensures.says)
