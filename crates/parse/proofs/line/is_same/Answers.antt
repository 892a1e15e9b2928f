-- `is_same` meets its contract. Assumes nothing.
use mathlib.Core.Path.{◌∙◌}
use Rattle.parse.proofs.Texts.{same_pointwise}
use Rattle.parse.proofs.line.is_same.Goals as goal

pub returns : goal.returns
returns c =
    c.eq.ensures ∙ same_pointwise c.args.a.now c.args.b.now
