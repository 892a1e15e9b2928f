-- "every other number in its answer is 0": beside a refusal each export's answer of several numbers is zeros. Assumes nothing.
use Prim.Native.Nat.{ℕ, ◌*◌, ◌≤◌, ◌<◌}
use mathlib.Core.Bool.{not}
use mathlib.Core.List.{List, [], ◌∷◌}
use mathlib.Core.Logic.{⊎_elim}
use mathlib.Core.Path.{◌≡◌, refl, ap}
use lib.Dec.{ltb}
use lib.ListN.{length}
use Rattle.std.specs.Prelude.{Result, Ok, Err}
use Rattle.rules.specs.Rules.{first_match}
use Rattle.rules.proofs.Tests.{lt_or_ge}
use Rattle.rules.proofs.Cases.{settle_cases}
use Rattle.le.specs.Memory.{Memory}
use Rattle.entry.specs.declared.submission.Submission.{Submission}
use Rattle.entry.specs.declared.completion.Completion.{Completion}
use Rattle.prp.specs.declared.Walked.{Walked}
use Rattle.controller.specs.Controller.{Controller}
use Rattle.controller.specs.State.{sq_at, cq_at, outstanding}
use Rattle.controller.specs.Answers.{Answer, refused, done, started, finished}
use Rattle.replay.specs.Replay.{Ended, replay}
use Rattle.replay.proofs.Exactly.{refused_leaves, records_exactly}
use Rattle.trace.specs.Trace.{begun}
use Rattle.rig.specs.declared.state.SqNumbers.{SqNumbers}
use Rattle.rig.specs.declared.state.CqNumbers.{CqNumbers}
use Rattle.rig.specs.declared.state.CommandNumbers.{CommandNumbers}
use Rattle.rig.specs.Answers.{submission_numbers, completion_numbers, waiting_numbers, pages_numbers}
use Rattle.rig.specs.Numbers.{start_numbers, finish_numbers, replay_numbers, sq_numbers, cq_numbers, command_numbers, no_sq_numbers}
use Rattle.rig.specs.Numbers.{no_cq_numbers, no_command_numbers}

-- ---- readers, and the page walk

pub submission_zeros : (r : Result Submission ℕ) → ((submission_numbers r).refusal ≡ 0 → ⊥)
    → submission_numbers r
    ≡ record {
      refusal = (submission_numbers r).refusal;
      fuse = 0;
      psdt = 0;
      mptr = 0;
      prp1 = 0;
      prp2 = 0;
      slba = 0;
      nsid = 0;
      cdw13 = 0;
      cdw14 = 0;
      cdw15 = 0;
      cid = 0;
      nlb = 0;
      cdw12_upper = 0;
      opc = 0;
    }
submission_zeros (Ok e) n = absurd (n refl)
submission_zeros (Err k) n = refl

pub completion_zeros : (r : Result (Completion × ℕ) ℕ) → ((completion_numbers r).refusal ≡ 0 → ⊥)
    → completion_numbers r
    ≡ record { refusal = (completion_numbers r).refusal; result = 0; sqhd = 0; sqid = 0; cid = 0; status = 0; phase = 0 }
completion_zeros (Ok (e, phase)) n = absurd (n refl)
completion_zeros (Err k) n = refl

pub waiting_zeros : (r : Result ℕ ℕ) → ((waiting_numbers r).refusal ≡ 0 → ⊥) → (waiting_numbers r).count ≡ 0
waiting_zeros (Ok k) n = absurd (n refl)
waiting_zeros (Err k) n = refl

pub pages_zeros : (w : Result Walked ℕ) → ((pages_numbers w).refusal ≡ 0 → ⊥)
    → ((pages_numbers w).pages ≡ 0) × ((pages_numbers w).reads ≡ 0)
pages_zeros (Ok w) n = absurd (n refl)
pages_zeros (Err k) n = (refl, refl)

-- ---- calls

pub start_zeros : (a : Answer) → ((start_numbers a).refusal ≡ 0 → ⊥)
    → start_numbers a
    ≡ record { refusal = (start_numbers a).refusal; sq = 0; count = 0; first = 0; second = 0; slot = 0; verdict = 0; number = 0 }
start_zeros (refused k) n = refl
start_zeros done n = refl
start_zeros (started s) n = absurd (n refl)
start_zeros (finished f) n = refl

pub finish_zeros : (a : Answer) → ((finish_numbers a).refusal ≡ 0 → ⊥)
    → finish_numbers a ≡ record { refusal = (finish_numbers a).refusal; slot = 0; number = 0 }
finish_zeros (refused k) n = refl
finish_zeros done n = refl
finish_zeros (started s) n = refl
finish_zeros (finished f) n = absurd (n refl)

pub replay_zeros : (c : Controller) (m : Memory) (trace room : List ℕ)
    → (let a = replay_numbers (replay c m trace room).answer in (a.refusal ≡ 0 → ⊥) → a.records ≡ 0)
replay_zeros c m trace room n =
    ⊎_elim
    (λ (h : length room < 16 * begun (length trace)).
    ap (λ (e : Ended). (replay_numbers e.answer).records) (refused_leaves c m trace room h))
    (λ (h : 16 * begun (length trace) ≤ length room).
    absurd (n (ap (λ a. (replay_numbers a).refusal) (records_exactly c m trace room h))))
    (lt_or_ge (length room) (16 * begun (length trace)))

-- ---- looks

module _ (c : Controller) (id : ℕ) where
  pub sq_zeros : ((sq_numbers c id).refusal ≡ 0 → ⊥)
      → sq_numbers c id
      ≡ record { refusal = (sq_numbers c id).refusal; base = 0; size = 0; head = 0; tail = 0; marked = 0; cq = 0; class = 0 }
  unfolding sq_numbers
  sq_zeros =
      settle_cases
      (λ (x : SqNumbers). (x.refusal ≡ 0 → ⊥)
      → x ≡ record { refusal = x.refusal; base = 0; size = 0; head = 0; tail = 0; marked = 0; cq = 0; class = 0 })
      (first_match ((ltb 15 id, 1) ∷ (not (sq_at c id).ring.exists, 9) ∷ [])) no_sq_numbers _ (λ z n. absurd (n refl)) (λ z n. refl)

  pub cq_zeros : ((cq_numbers c id).refusal ≡ 0 → ⊥)
      → cq_numbers c id ≡ record { refusal = (cq_numbers c id).refusal; base = 0; size = 0; head = 0; tail = 0; phase = 0 }
  unfolding cq_numbers
  cq_zeros =
      settle_cases
      (λ (x : CqNumbers). (x.refusal ≡ 0 → ⊥)
      → x ≡ record { refusal = x.refusal; base = 0; size = 0; head = 0; tail = 0; phase = 0 })
      (first_match ((ltb 15 id, 1) ∷ (not (cq_at c id).ring.exists, 9) ∷ [])) no_cq_numbers _ (λ z n. absurd (n refl)) (λ z n. refl)

  -- of a tag
  pub command_zeros : ((command_numbers c id).refusal ≡ 0 → ⊥)
      → command_numbers c id ≡ record { refusal = (command_numbers c id).refusal; sq = 0; cid = 0; verdict = 0; number = 0 }
  unfolding command_numbers
  command_zeros =
      settle_cases
      (λ (x : CommandNumbers). (x.refusal ≡ 0 → ⊥)
      → x ≡ record { refusal = x.refusal; sq = 0; cid = 0; verdict = 0; number = 0 })
      (first_match ((not (outstanding c.free id), 14) ∷ [])) no_command_numbers _ (λ z n. absurd (n refl)) (λ z n. refl)
