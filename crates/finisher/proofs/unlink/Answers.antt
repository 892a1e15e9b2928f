-- `unlink` meets its contract. Assumes nothing.
use mathlib.Core.Path.{◌∙◌}
use Rattle.finisher.proofs.Finishes.{stays, unlinks}
use Rattle.finisher.proofs.unlink.Goals as goal

pub returns-then-second-eq0 : goal.returns-then-second-eq0
returns-then-second-eq0 c =
    record { sound = c.requires.1; is = stays _ _ _ c.if-second-eq0.true }

pub returns : goal.returns
returns c =
    record {
      sound = c.put_command.ensures.sound;
      is =
          c.put_command.ensures.is
          ∙ unlinks _ _ _ c.if-second-eq0.false _ c.release.ensures c.command_at-half.ensures;
    }
