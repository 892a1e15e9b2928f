-- What the writers of entries leave of their buffers, which reserved bytes they clear, and what stands beside a refusal. Assumes nothing.
use Rattle.std.specs.Prelude.{Result, Ok, Err}
use Prim.Native.Nat.{ℕ, ◌+◌, ◌/◌, ◌%◌, ◌≤◌}
use mathlib.Core.List.{List, [], ◌∷◌}
use mathlib.Core.Logic.{inr}
use mathlib.Core.Path.{◌≡◌, refl}
use native.Mathlib.Omega.{arith}
use borrow.Author.Tests.{ltb-false}
use lib.Dec.{ltb}
use lib.ListN.{length, get_or}
use Rattle.rules.specs.Rules.{settle}
use Rattle.rules.proofs.Cases.{settle_cases}
use Rattle.rules.proofs.Tables.{passed, settle_refused, settle_accepted}
use Rattle.le.specs.Le.{le, le_at}
use Rattle.le.specs.Memory.{put}
use Rattle.le.proofs.Numbers.{le_at_field}
use Rattle.le.proofs.Parts.{put_length, put_out}
use Rattle.entry.specs.declared.completion.Completion.{Completion}
use Rattle.entry.specs.declared.submission.Submission.{Submission}
use Rattle.entry.specs.Completion as completion
use Rattle.entry.specs.Completion.{completion_bytes, completion_answer}
use Rattle.entry.specs.Submission as submission
use Rattle.entry.specs.Submission.{submission_bytes, submission_answer, flags}
use Rattle.entry.proofs.Completions.{completion_length}
use Rattle.entry.proofs.Submissions.{submission_length}

-- ---- what a writer of n bytes leaves of the buffer b, its answer being `number`

pub record Left (b left : List ℕ) (number n : ℕ) : Type 0 where
  -- "A refusal changes nothing"
  pub refused : (number ≡ 0 → ⊥) → left ≡ b
  pub size : length left ≡ length b
  -- "and leave bytes past the entry"
  pub past : (i : ℕ) → n ≤ i → get_or left i 0 ≡ get_or b i 0

left_by : (b bytes : List ℕ) (number n : ℕ) → length bytes ≡ n → (number ≡ 0 → n ≤ length b)
    → Left b (settle number (λ x. b) (put b 0 bytes)) number n
left_by b bytes number n e room =
    record {
      refused = settle_refused number (λ x. b) (put b 0 bytes);
      size =
          settle_cases (λ (l : List ℕ). length l ≡ length b) number (λ x. b) (put b 0 bytes) (λ z. put_length b 0 bytes (fits z))
          (λ z. refl);
      past = λ i h.
          settle_cases (λ (l : List ℕ). get_or l i 0 ≡ get_or b i 0) number (λ x. b) (put b 0 bytes)
          (λ z. put_out b 0 bytes (fits z) i (inr (omega (arith, e, h)))) (λ z. refl);
    }
  where
    fits : number ≡ 0 → 0 + length bytes ≤ length b
    fits z = omega (arith, e, room z)

module _ (b : List ℕ) where
  completion_room : (status : ℕ) → completion.write_refusal (length b) status ≡ 0 → 16 ≤ length b
  unfolding completion.write_refusal
  completion_room status z =
      ltb-false (length b) 16 (passed ((ltb 32767 status, 15) ∷ (ltb (length b) 16, 21) ∷ []) tt z).1.0

  submission_room : submission.write_refusal (length b) ≡ 0 → 64 ≤ length b
  unfolding submission.write_refusal
  submission_room z = ltb-false (length b) 64 (passed ((ltb (length b) 64, 21) ∷ []) tt z).0

  module _ (e : Completion) (phase : ℕ) where
    abbrev completion_left : List ℕ
    completion_left = completion.written b e phase

    pub completion_left_lem : Left b completion_left (completion.write_refusal (length b) e.status) 16
    unfolding completion.written
    completion_left_lem =
        left_by b (completion_bytes e phase) (completion.write_refusal (length b) e.status) 16 (completion_length e phase)
        (completion_room e.status)

    -- "4 to 7 zero", whatever was there
    pub completion_zeros : completion.write_refusal (length b) e.status ≡ 0 → le_at 4 completion_left 4 ≡ 0
    unfolding completion.written completion_bytes put le
    completion_zeros z =
        rw (settle_accepted (completion.write_refusal (length b) e.status) (λ n. b) (put b 0 (completion_bytes e phase)) z)
        (le_at_field 4 0 4 (put b 0 (completion_bytes e phase)) _ refl (omega arith))

  module _ (e : Submission) where
    abbrev submission_left : List ℕ
    submission_left = submission.written b e

    pub submission_left_lem : Left b submission_left (submission.write_refusal (length b)) 64
    unfolding submission.written
    submission_left_lem =
        left_by b (submission_bytes e) (submission.write_refusal (length b)) 64 (submission_length e) submission_room

    module _ (z : submission.write_refusal (length b) ≡ 0) where
      wrote : submission_left ≡ put b 0 (submission_bytes e)
      unfolding submission.written
      wrote = settle_accepted (submission.write_refusal (length b)) (λ n. b) (put b 0 (submission_bytes e)) z

      -- "The writer puts 0 in bytes 8 to 15", whatever was there
      pub submission_zeros : le_at 8 submission_left 8 ≡ 0
      unfolding submission_bytes put le
      submission_zeros = rw wrote (le_at_field 8 0 8 (put b 0 (submission_bytes e)) _ refl (omega arith))

      -- "and in the other bits of byte 1": bits 5 to 2
      pub submission_reserved : le_at 1 submission_left 1 / 4 % 16 ≡ 0
      unfolding submission_bytes put le
      submission_reserved =
          let y : le_at 1 (put b 0 (submission_bytes e)) 1 ≡ flags e = le_at_field 1 (flags e) 1 (put b 0 (submission_bytes e)) _ refl
          (omega arith) in
          rw (wrote, y) (omega arith)

-- ---- "every other number in its answer is 0" beside a refusal

pub completion_refused : (r : Result (Completion × ℕ) ℕ) → ((completion_answer r).0 ≡ 0 → ⊥)
    → ((completion_answer r).1 ≡ completion.completion 0 0 0 0 0) × ((completion_answer r).2 ≡ 0)
completion_refused (Ok (e, phase)) n = absurd (n refl)
completion_refused (Err k) n = (refl, refl)

pub submission_refused : (r : Result Submission ℕ) → ((submission_answer r).0 ≡ 0 → ⊥)
    → (submission_answer r).1
    ≡ record {
      opc = 0;
      fuse = 0;
      psdt = 0;
      cid = 0;
      nsid = 0;
      mptr = 0;
      prp1 = 0;
      prp2 = 0;
      slba = 0;
      nlb = 0;
      cdw12_upper = 0;
      cdw13 = 0;
      cdw14 = 0;
      cdw15 = 0;
    }
submission_refused (Ok e) n = absurd (n refl)
submission_refused (Err k) n = refl
