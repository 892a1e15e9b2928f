-- What the answer to a line leaves.
use Rattle.std.specs.Prelude.{ℕ, ◌≤◌, List, ◌≡◌, length}
use Rattle.store.specs.Held.{held, Reached}
use Rattle.print.specs.Put.{Put}
use Rattle.form.specs.Shown.{shown}
use Rattle.form.specs.declared.Form.{Form}
use Rattle.language.specs.Vocabulary.{memory_bytes}
use Rattle.language.specs.Line.{Answered}
use Rattle.stateless.specs.Leaving.{good_of, refused_by, Numbered}
use Rattle.conversation.specs.declared.Shown.{Shown}

-- an answer shown in a form from a place on, the words that hold the controller, and the memory
pub record Shows (a : Answered) (form : Form) (line before : List ℕ) (place : ℕ) (after : List ℕ) (r : Shown) (words bytes : List ℕ) :
    Type 0 where
  pub text : Put before place (shown form line a.text) after r.end
  pub good : good_of r.verdict ≡ a.good
  pub refusal : refused_by r.verdict ≡ a.refusal
  pub numbered : Numbered r.verdict
  pub lent : r.lent ≡ a.console.lent
  pub controller : held words ≡ a.console.controller
  pub memory : bytes ≡ a.console.memory
  pub reached : Reached words
  pub inside : r.lent ≤ memory_bytes
  pub fits : r.end ≤ length before
