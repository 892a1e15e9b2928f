-- Which refusal the writers and readers of entries answer, exactly when; and which bytes are which field, computed. Assumes nothing.
use Rattle.std.specs.Prelude.{Err}
use Prim.Native.Nat.{ℕ, zero, suc, ◌<◌}
use mathlib.Core.List.{List, [], ◌∷◌, ◌++◌}
use mathlib.Core.Path.{◌≡◌, refl}
use lib.Dec.{ltb}
use lib.ListN.{length, replicate}
use Rattle.rules.proofs.Cases.{settle_number}
use Rattle.rules.proofs.Exactly.{says_lt, Decided, decided}
use Rattle.le.specs.Le.{le, le_at}
use Rattle.entry.specs.declared.completion.Completion.{Completion}
use Rattle.entry.specs.declared.submission.Submission.{Submission}
use Rattle.entry.specs.Completion as completion
use Rattle.entry.specs.Completion.{completion_bytes, completion_at, phase_tag, completion_answer, completion_read}
use Rattle.entry.specs.Submission as submission
use Rattle.entry.specs.Submission.{submission_bytes, submission_at, submission_answer, submission_read}

-- ---- refusals, of a buffer of n bytes

-- "completion writer 15, 21"
pub completion_writer : (n status : ℕ) → Decided ((32767 < status, 15) ∷ (n < 16, 21) ∷ []) (completion.write_refusal n status)
unfolding completion.write_refusal
completion_writer n status =
    decided ((ltb 32767 status, 15) ∷ (ltb n 16, 21) ∷ []) ((32767 < status, 15) ∷ (n < 16, 21) ∷ [])
    (refl, says_lt 32767 status, λ a. (refl, says_lt n 16, λ b. tt))

pub submission_writer : (n : ℕ) → Decided ((n < 64, 21) ∷ []) (submission.write_refusal n)
unfolding submission.write_refusal
submission_writer n = decided ((ltb n 64, 21) ∷ []) ((n < 64, 21) ∷ []) (refl, says_lt n 64, λ a. tt)

-- the number that a reader answers is its refusal
module _ (b : List ℕ) where
  pub completion_number : (completion_answer (completion_read b)).0 ≡ completion.read_refusal (length b)
  unfolding completion_read
  completion_number = settle_number (λ r. (completion_answer r).0) (completion.read_refusal (length b)) Err _ (λ k. refl) refl

  pub submission_number : (submission_answer (submission_read b)).0 ≡ submission.read_refusal (length b)
  unfolding submission_read
  submission_number = settle_number (λ r. (submission_answer r).0) (submission.read_refusal (length b)) Err _ (λ k. refl) refl

  pub completion_reader : Decided ((length b < 16, 21) ∷ []) (completion_answer (completion_read b)).0
  completion_reader =
      rw completion_number
      (decided ((ltb (length b) 16, 21) ∷ []) ((length b < 16, 21) ∷ []) (refl, says_lt (length b) 16, λ a. tt))

  pub submission_reader : Decided ((length b < 64, 21) ∷ []) (submission_answer (submission_read b)).0
  submission_reader =
      rw submission_number
      (decided ((ltb (length b) 64, 21) ∷ []) ((length b < 64, 21) ∷ []) (refl, says_lt (length b) 64, λ a. tt))

-- ---- fields

-- the n bytes from x on, each one more than the last
abbrev rising : ℕ → ℕ → List ℕ
rising x zero = []
rising x (suc n) = x ∷ rising (suc x) n

-- bytes C0h to FFh as a submission entry, field by field; written again, the reserved bytes 8 to 15 are 0
abbrev fields : Submission
fields =
    record {
      opc = 0xc0;
      fuse = 1;
      psdt = 3;
      cid = 0xc3c2;
      nsid = 0xc7c6c5c4;
      mptr = 0xd7d6d5d4d3d2d1d0;
      prp1 = 0xdfdedddcdbdad9d8;
      prp2 = 0xe7e6e5e4e3e2e1e0;
      slba = 0xefeeedecebeae9e8;
      nlb = 0xf1f0;
      cdw12_upper = 0xf3f2;
      cdw13 = 0xf7f6f5f4;
      cdw14 = 0xfbfaf9f8;
      cdw15 = 0xfffefdfc;
    }

pub submission_fields :
    (submission_at (rising 0xc0 64) ≡ fields) × (submission_bytes fields ≡ rising 0xc0 8 ++ replicate 8 0 ++ rising 0xd0 48)
unfolding submission_at submission_bytes le_at le
submission_fields = (refl, refl)

-- bytes F0h to FFh as a completion entry; written again, bytes 4 to 7 are 0
abbrev completed : Completion
completed = completion.completion 0xf3f2f1f0 0xf9f8 0xfbfa 0xfdfc 0x7fff

pub completion_fields :
    (completion_at (rising 0xf0 16) ≡ completed)
    × (phase_tag (rising 0xf0 16) ≡ 0)
    × (completion_bytes completed 0 ≡ rising 0xf0 4 ++ replicate 4 0 ++ rising 0xf8 8)
unfolding completion_at phase_tag completion_bytes le_at le
completion_fields = (refl, refl, refl)
