-- `with_line` meets its contract. Assumes nothing.
use Rattle.lines.proofs.with_line.Goals as goal

pub returns : goal.returns
returns c =
    cc
