-- What a walk that is refused leaves: both buffers, and zeros beside its number. Assumes nothing.
use Prim.Native.Nat.{ℕ}
use mathlib.Core.List.{List}
use mathlib.Core.Path.{◌≡◌, refl}
use Rattle.le.specs.Memory.{put}
use Rattle.prp.specs.Pages.{byte_counts, split}
use Rattle.prp.specs.Walk.{Walk, refused, found}
use Rattle.prp.specs.Answer.{answer, refusal_of, pages_of, reads_of, addresses_of, numbers}

-- the buffers that a walk w of len bytes at prp1 leaves, as the contracts have them
abbrev pub addresses_left : List ℕ → Walk → List ℕ
addresses_left addresses w = put addresses 0 (numbers 8 (addresses_of w))

abbrev pub counts_left : (page prp1 len : ℕ) → List ℕ → Walk → List ℕ
counts_left page prp1 len counts w = put counts 0 (numbers 4 (byte_counts page prp1 len (pages_of (answer w))))

pub record Left (page prp1 len : ℕ) (a b : List ℕ) (w : Walk) : Type 0 where
  -- "every other number in its answer is 0"
  pub pages : pages_of (answer w) ≡ 0
  pub reads : reads_of (answer w) ≡ 0
  -- "A refusal changes nothing"
  pub addresses : addresses_left a w ≡ a
  pub counts : counts_left page prp1 len b w ≡ b

pub refused_leaves : (page prp1 len : ℕ) (a b : List ℕ) (w : Walk) → (refusal_of (answer w) ≡ 0 → ⊥) → Left page prp1 len a b w
unfolding answer addresses_of numbers put byte_counts split
refused_leaves page prp1 len a b (refused n) h = record { pages = refl; reads = refl; addresses = refl; counts = refl }
refused_leaves page prp1 len a b (found l n) h = absurd (h refl)
