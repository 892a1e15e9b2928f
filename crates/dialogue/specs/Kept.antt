-- What holds of a dialogue between its steps.
use Rattle.std.specs.Prelude.{ℕ, ◌≤◌, List}
use Rattle.conversation.specs.Sizes.{out_bytes}
use Rattle.conversation.specs.Steps as conversation
use Rattle.dialogue.specs.declared.Dialogue.{Dialogue}

-- so does its conversation, and what is not yet written out lies inside its buffer
pub record Kept (s : Dialogue) (words : List ℕ) : Type 0 where
  pub conversation : conversation.Kept s.conversation words
  pub unwritten : s.unwritten ≤ out_bytes
