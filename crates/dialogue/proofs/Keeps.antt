-- A dialogue is kept with its conversation. Assumes nothing.
use Rattle.std.proofs.Common.{◌≡◌, ℕ, ◌≤◌, List, sym, subst, arith}
use Rattle.controller.specs.State.{new_controller}
use Rattle.store.specs.Held.{Holds}
use Rattle.store.proofs.Fresh.{reached_new}
use Rattle.conversation.specs.Sizes.{out_bytes}
use Rattle.conversation.specs.Steps as conversation
use Rattle.conversation.specs.declared.Conversation.{Conversation}
use Rattle.dialogue.specs.Kept.{Kept}
use Rattle.dialogue.specs.declared.Dialogue.{Dialogue}

pub kept_with : {s : Dialogue} {c : Conversation} {words : List ℕ} → s.conversation ≡ c → conversation.Kept c words
    → s.unwritten ≤ out_bytes → Kept s words
kept_with {words = words} e k h = record {
  conversation = subst (λ (x : Conversation). conversation.Kept x words) (sym e) k;
  unwritten
      = h;
}

-- no line is read yet
pub kept_first : {words : List ℕ} → Holds words (new_controller 0 0) → conversation.Kept conversation.none_read words
kept_first h =
    record {
      reached = reached_new 0 0 h;
      lent = omega arith;
      lines = record { place = omega arith; chunk = omega arith; line = omega arith };
    }
