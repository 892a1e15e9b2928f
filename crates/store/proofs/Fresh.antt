-- A fresh controller, and the words that calls lead to. Assumes nothing.
use Prim.Native.Nat.{ℕ, zero, suc, ◌+◌, ◌*◌, ◌-◌, ◌<◌, ◌^◌}
use mathlib.Core.Bool.{Bool}
use mathlib.Core.List.{List}
use mathlib.Core.Path.{◌≡◌, refl, ap, ◌∙◌}
use native.Mathlib.Nat.{pos_of_ne-zero}
use native.Mathlib.Omega.{arith}
use lib.Dec.{lit<}
use lib.ListN.{length, replicate, length-replicate}
use borrow.Author.Tests.{lt-ltb}
use Rattle.rules.proofs.Tables.{passed}
use Rattle.rules.proofs.Tests.{clash}
use Rattle.le.specs.Memory.{Memory}
use Rattle.controller.specs.State.{no_sq, no_cq, no_command, fresh_controller, new_controller, with_commands}
use Rattle.controller.specs.Answers.{Answer, outcome}
use Rattle.controller.specs.Calls.{Call, perform}
use Rattle.controller.proofs.Reaches.{by_call, by_new}
use Rattle.arbiter.specs.Arbiter.{fresh}
use Rattle.arbiter.specs.declared.Arbiter.{Arbiter}
use Rattle.store.specs.Held.{word, from, sq_of, cq_of, command_of, table, held, limits, limit_at, Sound, Holds, Reached}
use Rattle.store.proofs.Tables.{table_same}
use Rattle.store.proofs.Stores.{sq_from_lem, cq_from_lem, command_from_lem}

-- no word is too narrow for 0
limit_positive : (k : ℕ) → k < 623 → 0 < limit_at k
unfolding limit_at
limit_positive k l =
    pos_of_ne-zero
    (λ z. clash (lt-ltb k 623 l) (passed (limits k) tt z).1.1.1.1.1.1.1.1.1.1.1.1.1.1.1.1.1.0)

-- words that are all 0
pub record Zeros (w : List ℕ) : Type 0 where
  pub sized : length w ≡ 623
  pub zero : (k : ℕ) → k < 623 → word w k ≡ 0

pub zeros : Zeros (replicate 623 0)
zeros = record { sized = length-replicate {A = ℕ} 623 0; zero = λ k l. zero_at 623 k }
  where
    zero_at : (n k : ℕ) → word (replicate n 0) k ≡ 0
    zero_at zero k = refl
    zero_at (suc n) zero = refl
    zero_at (suc n) (suc k) = zero_at n k

module _ (w : List ℕ) (z : Zeros w) where
  zeros_sqs : table 16 (sq_of w) ≡ replicate 16 no_sq
  unfolding sq_of table
  zeros_sqs = table_same 16 (sq_of w) (λ i. no_sq) (λ j h. sq_from_lem (from w j) (λ o. 0) (λ a l. z.zero (j + 16 * a) (omega arith)))

  zeros_cqs : table 16 (cq_of w) ≡ replicate 16 no_cq
  unfolding cq_of table
  zeros_cqs =
      table_same 16 (cq_of w) (λ i. no_cq) (λ j h. cq_from_lem (from w (j + 128)) (λ o. 0) (λ a l. z.zero (j + 128 + 16 * a) (omega arith)))

  zeros_commands : table 64 (command_of w) ≡ replicate 64 no_command
  unfolding command_of table
  zeros_commands =
      table_same 64 (command_of w) (λ t. no_command)
      (λ t h. command_from_lem (from w (t + 224)) (λ o. 0) (λ a l. z.zero (t + 224 + 64 * a) (omega arith)))

  pub zeros_sound : Sound w
  zeros_sound = record { sized = z.sized; narrow = λ k l. rw (z.zero k l) (limit_positive k l) }

  -- the mask and the arbiter stored, it is a fresh controller
  zeros_fresh : (weighted : Bool) (feature : ℕ)
      → with_commands (held w) (held w).commands (2 ^ 64 - 1) (fresh weighted feature) ≡ fresh_controller weighted feature
  zeros_fresh weighted feature = rw (zeros_sqs, zeros_cqs, zeros_commands, z.zero 622 (lit< tt))

  pub fresh_held : (weighted : Bool) (feature : ℕ) (u v : List ℕ) {a : Arbiter}
      → held u ≡ with_commands (held w) (held w).commands (2 ^ 64 - 1) (held w).arbiter → a ≡ fresh weighted feature
      → held v ≡ with_commands (held u) (held u).commands (held u).free a → held v ≡ fresh_controller weighted feature
  fresh_held weighted feature u v {a} e f g =
      g
      ∙ ap (λ c. with_commands c c.commands c.free a) e
      ∙ ap (λ b. with_commands (held w) (held w).commands (2 ^ 64 - 1) b) f
      ∙ zeros_fresh weighted feature

-- ---- words that calls lead to

pub reached_new : {w : List ℕ} (mechanism word : ℕ) → Holds w (new_controller mechanism word) → Reached w
reached_new mechanism word h = record { sound = h.sound; reachable = rw h.is (by_new mechanism word) }

pub reached_call : {w u : List ℕ} (m : Memory) (call : Call) {a : Answer} {left : Memory} → Reached w → Sound u
    → outcome a (held u) left ≡ perform (held w) m call → Reached u
reached_call m call r s e = record { sound = s; reachable = by_call m call r.reachable e }
