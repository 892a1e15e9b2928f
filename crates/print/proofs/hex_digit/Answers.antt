-- `hex_digit` meets its contract. Assumes nothing.
use mathlib.Core.Path.{refl}
use Rattle.print.specs.Text.{hex_digit}
use Rattle.print.proofs.hex_digit.Goals as goal

pub returns : goal.returns
unfolding hex_digit
returns c =
    refl
