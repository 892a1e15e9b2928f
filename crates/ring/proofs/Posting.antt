-- A posting into a ring: its slot reads back, and every other slot stays. Assumes nothing.
use Prim.Native.Nat.{ℕ, ◌+◌, ◌*◌, ◌<◌, ◌≤◌}
use mathlib.Core.Path.{◌≡◌, sym, ap, ◌∙◌}
use mathlib.Core.List.{List, [], append-nil}
use mathlib.Core.Logic.{◌⊎◌, inl, inr, ⊎_elim}
use native.Mathlib.Nat.{mod-eq_of_lt}
use native.Mathlib.Omega.{arith}
use lib.ListN.{length}
use Rattle.rules.proofs.Tests.{lt_or_ge}
use Rattle.le.specs.Memory.{put}
use Rattle.le.proofs.Parts.{put_length, part_put, part_out}
use Rattle.entry.specs.Completion.{completion_bytes, completion_at, phase_tag}
use Rattle.entry.specs.declared.completion.Completion.{Completion}
use Rattle.entry.proofs.Completions.{Within, completion_length, completion_back, phase_back}
use Rattle.ring.specs.Reader.{slot_in, phase_in}

-- the ring with an entry and its phase tag in slot t
abbrev pub posted_in : List ℕ → ℕ → Completion → ℕ → List ℕ
posted_in ring t e g = put ring (16 * t) (completion_bytes e g)

module _ (ring : List ℕ) (t : ℕ) (e : Completion) (g : ℕ) (fit : 16 * t + 16 ≤ length ring) where
  room : 16 * t + length (completion_bytes e g) ≤ length ring
  room = rw (completion_length e g) fit

  pub posted_length : length (posted_in ring t e g) ≡ length ring
  posted_length = put_length ring (16 * t) (completion_bytes e g) room

  posted_bytes : slot_in (posted_in ring t e g) t ≡ completion_bytes e g
  unfolding slot_in
  posted_bytes = rw (completion_length e g) at (part_put ring (16 * t) (completion_bytes e g) room)

  pub posted_entry : Within e → completion_at (slot_in (posted_in ring t e g) t) ≡ e
  posted_entry w = ap completion_at (posted_bytes ∙ sym (append-nil (completion_bytes e g))) ∙ completion_back e g [] w

  pub posted_phase : Within e → g < 2 → phase_in (posted_in ring t e g) t ≡ g
  unfolding phase_in
  posted_phase w l = ap phase_tag (posted_bytes ∙ sym (append-nil (completion_bytes e g))) ∙ phase_back e g [] w ∙ mod-eq_of_lt l

  pub posted_other : (p : ℕ) → 16 * p + 16 ≤ length ring → (p ≡ t → ⊥) → slot_in (posted_in ring t e g) p ≡ slot_in ring p
  unfolding slot_in
  posted_other p l ne = part_out ring (16 * t) (completion_bytes e g) room (16 * p) 16 l (rw (completion_length e g) apart)
    where
      apart : (16 * p + 16 ≤ 16 * t) ⊎ (16 * t + 16 ≤ 16 * p)
      apart = ⊎_elim (λ a. inl (omega arith)) (λ a. inr (omega arith)) (lt_or_ge p t)
