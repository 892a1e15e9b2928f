-- `next_word` meets its contract. Assumes nothing.
use Rattle.std.proofs.Common.{rules}
use Rattle.parse.specs.Line.{is_blank, in_word}
use Rattle.parse.proofs.line.next_word.Goals as goal

pub returns : goal.returns
returns c =
    record {
      starts = c.past-start.ensures.value is_blank (λ b t k. search rules);
      ends = c.past.ensures.value in_word (λ b t k. search rules);
      inside = c.past.ensures.within;
    }
