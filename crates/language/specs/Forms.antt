-- A form as the code has it.
use Rattle.std.specs.Prelude.{◌≤◌, ◌≡◌, length}
use Rattle.language.specs.declared.command.Form as code
use Rattle.language.specs.Vocabulary.{Form}

pub record Forms (r : code.Form) (f : Form) : Type 0 where
  pub largest : r.largest.now ≡ f.largest
  pub rest : r.rest ≡ f.rest
  pub few : length r.largest.now ≤ 16
