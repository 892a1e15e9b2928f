-- `is_in_word` meets its contract. Assumes nothing.
use Rattle.parse.proofs.line.is_in_word.Goals as goal

pub returns : goal.returns
returns c =
    cc
