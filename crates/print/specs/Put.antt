-- Values put into a buffer.
use Rattle.std.specs.Prelude.{ℕ, ◌+◌, List, ◌≡◌, length}
use Rattle.std.proofs.lemmas.List.Edits.{sets}

-- the buffer afterwards is that before with the text from a place on, and the end is the place after the text
pub record Put (before : List ℕ) (place : ℕ) (text after : List ℕ) (end : ℕ) : Type 0 where
  pub holds : after ≡ sets before place text
  pub ends : end ≡ place + length text
