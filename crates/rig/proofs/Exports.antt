-- What an export answers and leaves, from what the contract of its call says. Assumes nothing.
use Prim.Native.Nat.{ℕ, ◌≤◌, ◌<◌}
use mathlib.Core.Bool.{Bool, true, false, not}
use mathlib.Core.List.{List}
use mathlib.Core.Path.{◌≡◌, refl, ap, ◌∙◌}
use mir.Val.{bool_byte as from_bool}
use borrow.Author.Tests.{lt-ltb, le-ltb}
use Rattle.rules.specs.Rules.{settle}
use Rattle.le.specs.Memory.{Memory}
use Rattle.controller.specs.declared.SubmissionQueue.{SubmissionQueue}
use Rattle.controller.specs.declared.CompletionQueue.{CompletionQueue}
use Rattle.controller.specs.declared.Command.{Command}
use Rattle.controller.specs.Controller.{Controller}
use Rattle.controller.specs.State.{sq_at, cq_at, command_at, outstanding}
use Rattle.controller.specs.Answers.{Answer, number_of, Outcome, outcome}
use Rattle.controller.specs.Calls.{of_number}
use Rattle.store.specs.Held.{held, Sound, Holds}
use Rattle.replay.specs.Replay.{Ended, ended}
use Rattle.replay.proofs.Playing.{number_is}
use Rattle.rig.specs.Numbers.{replay_numbers, no_sq_numbers, sq_numbers, no_cq_numbers, cq_numbers}
use Rattle.rig.specs.Numbers.{no_command_numbers, command_numbers, bit_of}

-- ---- calls

module _ {a : Answer} {u : List ℕ} {left : Memory} {o : Outcome} (s : Sound u) (e : outcome a (held u) left ≡ o) where
  pub answered : a ≡ o.answer
  answered = ap (λ (x : Outcome). x.answer) e

  pub left_held : Holds u o.controller
  left_held = record { sound = s; is = ap (λ (x : Outcome). x.controller) e }

  pub left_memory : left ≡ o.memory
  left_memory = ap (λ (x : Outcome). x.memory) e

-- of a call that answers a refusal number
pub numbered : {k n : ℕ} {u : List ℕ} {left : Memory} {o : Outcome} → k ≡ n → Sound u → outcome (of_number n) (held u) left ≡ o
    → (k ≡ number_of o.answer) × Holds u o.controller
numbered {k} {n} is s e = (is ∙ number_is n ∙ ap number_of (answered s e), left_held s e)

-- of a replay
pub replayed : {a : ℕ × ℕ} {u left room : List ℕ} {e : Ended} → Sound u → ended a (held u) left room ≡ e
    → (replay_numbers a ≡ replay_numbers e.answer) × Holds u e.controller × (left ≡ e.memory) × (room ≡ e.room)
replayed s q = (
  ap (λ (x : Ended). replay_numbers x.answer) q,
  record { sound = s; is = ap (λ (x : Ended). x.controller) q },
  ap (λ (x : Ended). x.memory) q,
  ap (λ (x : Ended). x.room) q,
)

-- ---- looks

-- a bit by std's conversion
pub bit_is : (b : Bool) → from_bool b ≡ bit_of b
bit_is true = refl
bit_is false = refl

module _ (c : Controller) (id : ℕ) where
  pub sq_1 : 15 < id → no_sq_numbers 1 ≡ sq_numbers c id
  unfolding sq_numbers settle
  sq_1 h = rw (lt-ltb _ _ h)

  pub cq_1 : 15 < id → no_cq_numbers 1 ≡ cq_numbers c id
  unfolding cq_numbers settle
  cq_1 h = rw (lt-ltb _ _ h)

  module _ (h : id ≤ 15) where
    module _ {q : SubmissionQueue} (e : q ≡ sq_at c id) where
      pub sq_9 : not q.ring.exists ≡ true → no_sq_numbers 9 ≡ sq_numbers c id
      unfolding sq_numbers settle
      sq_9 x = rw (le-ltb _ _ h, ← e, x)

      pub sq_0 : not q.ring.exists ≡ false → {m : ℕ} → m ≡ bit_of q.marked
          → record {
            refusal = 0;
            base = q.ring.base;
            size = q.ring.size;
            head = q.ring.head;
            tail = q.ring.tail;
            marked = m;
            cq = q.cq;
            class = q.class;
          }
          ≡ sq_numbers c id
      unfolding sq_numbers settle
      sq_0 x y = rw (le-ltb _ _ h, ← e, x, y)

    module _ {q : CompletionQueue} (e : q ≡ cq_at c id) where
      pub cq_9 : not q.ring.exists ≡ true → no_cq_numbers 9 ≡ cq_numbers c id
      unfolding cq_numbers settle
      cq_9 x = rw (le-ltb _ _ h, ← e, x)

      pub cq_0 : not q.ring.exists ≡ false
          → record {
            refusal = 0;
            base = q.ring.base;
            size = q.ring.size;
            head = q.ring.head;
            tail = q.ring.tail;
            phase = q.phase;
          }
          ≡ cq_numbers c id
      unfolding cq_numbers settle
      cq_0 x = rw (le-ltb _ _ h, ← e, x)

module _ (c : Controller) (tag : ℕ) {b : Bool} (e : b ≡ outstanding c.free tag) where
  pub command_14 : not b ≡ true → no_command_numbers 14 ≡ command_numbers c tag
  unfolding command_numbers settle
  command_14 x = rw (← e, x)

  pub command_0 : not b ≡ false → {k : Command} → k ≡ command_at c tag
      → record { refusal = 0; sq = k.sq; cid = k.cid; verdict = k.verdict; number = k.number } ≡ command_numbers c tag
  unfolding command_numbers settle
  command_0 x f = rw (← e, x, f)
