-- `move_on` meets its contract. Assumes nothing.
use mathlib.Core.Path.{ap, ◌∙◌}
use Rattle.controller.specs.State.{with_cq}
use Rattle.store.specs.Held.{held}
use Rattle.finisher.proofs.Finishes.{moved}
use Rattle.finisher.proofs.move_on.Goals as goal
use Rattle.finisher.proofs.move_on.Goals.{After-with_posted-q}

pub returns : goal.returns
returns c =
    let a = c.args in
    record {
      sound = c.put_cq_tail.ensures.sound;
      is =
          c.put_cq_tail.ensures.is
          ∙ ap (with_cq (held a.state.now) a.i) (moved _ _ _ c.requires.4 c.with_posted-q.ensures);
    }
