-- What the code leaves of a line.
use Rattle.std.specs.Prelude.{ℕ, ◌≤◌, Bool, true, false, List, ◌≡◌, length, take}
use Rattle.store.specs.Held.{held, Reached}
use Rattle.print.specs.Put.{Put}
use Rattle.parse.specs.Line.{most_bytes}
use Rattle.parse.specs.declared.arguments.Rest.{Rest}
use Rattle.parse.specs.declared.arguments.Rest.TheVariants.{Nothing, Numbers, Bytes}
use Rattle.language.specs.declared.command.Command.{Command}
use Rattle.language.specs.Vocabulary.{memory_bytes, walk_bytes, form}
use Rattle.language.specs.State.{Console}
use Rattle.language.specs.Replies.{Said}
use Rattle.language.specs.Line.{Answered}
use Rattle.stateless.specs.Leaving.{firsts, Narrow, answer_bytes, good_of, refused_by, Numbered, Printed}
use Rattle.stateless.specs.declared.speak.Answered as code

-- an answer, the words that hold the controller, and the memory
pub record Leaves (a : Answered) (before after : List ℕ) (r : code.Answered) (words bytes : List ℕ) : Type 0 where
  pub text : Put before 0 a.text after r.length
  pub good : good_of r.verdict ≡ a.good
  pub refusal : refused_by r.verdict ≡ a.refusal
  pub numbered : Numbered r.verdict
  pub lent : r.lent ≡ a.console.lent
  pub controller : held words ≡ a.console.controller
  pub memory : bytes ≡ a.console.memory
  pub reached : Reached words
  pub inside : r.lent ≤ memory_bytes
  pub short : r.length ≤ answer_bytes

-- the state of a console, a word of a line, and room for an answer
pub record Ready (words memory : List ℕ) (lent : ℕ) (word out : List ℕ) : Type 0 where
  pub reached : Reached words
  pub sized : length memory ≡ memory_bytes
  pub inside : lent ≤ memory_bytes
  pub short : length word ≤ most_bytes
  pub room : answer_bytes ≤ length out

abbrev pub is_repeated : Rest → Bool
is_repeated Nothing = false
is_repeated (Numbers m) = true
is_repeated Bytes = false

-- the first numbers of a buffer are of a command's form
pub record Fitting (k : Command) (numbers : List ℕ) (count : ℕ) : Type 0 where
  pub narrow : Narrow (form k).largest 0 numbers
  pub fixed : is_repeated (form k).rest ≡ false → take count numbers ≡ firsts (length (form k).largest) 0 numbers
  pub enough : length (form k).largest ≤ count
  pub held : count ≤ length numbers

-- what a command said and left
pub record Spoke (a : Said × Console) (word : List ℕ) (n : ℕ) (before after : List ℕ) (r : code.Answered) (words bytes : List ℕ) : Type
    0 where
  pub printed : Printed a.0 word n before after a.1.lent r
  pub controller : held words ≡ a.1.controller
  pub memory : bytes ≡ a.1.memory
  pub reached : Reached words
  pub inside : a.1.lent ≤ memory_bytes

-- buffers to work in
pub record Working (b₁ b₂ : List ℕ) : Type 0 where
  pub first : walk_bytes ≤ length b₁
  pub second : walk_bytes ≤ length b₂
