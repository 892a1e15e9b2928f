-- Laws of what a start takes. Assumes nothing.
use Rattle.std.specs.Prelude.{Option, Some, None, Ok}
use Prim.Native.Nat.{ℕ, ◌+◌, ◌≤◌, ◌<◌}
use mathlib.Core.Bool.{Bool, true, false, ◌||◌}
use mathlib.Core.Path.{◌≡◌, refl}
use native.Mathlib.Omega.{arith}
use lib.ListN.{length, set}
use borrow.Author.Tests.{lt-ltb, le-ltb}
use Rattle.rules.specs.Rules.{settle}
use Rattle.bits.specs.Tags.{taken_one, taken_two}
use Rattle.le.specs.Memory.{Memory}
use Rattle.entry.specs.declared.submission.Submission.{Submission}
use Rattle.ring.specs.Slots.{next}
use Rattle.arbiter.specs.Arbiter.{choice}
use Rattle.arbiter.specs.declared.Arbiter.{Arbiter}
use Rattle.controller.specs.declared.SubmissionQueue.{SubmissionQueue}
use Rattle.controller.specs.declared.Started.TheVariants as S
use Rattle.controller.specs.Controller.{Controller}
use Rattle.controller.specs.State.{sq_at, with_sq, with_commands, with_next_number}
use Rattle.controller.specs.Rings.{outside}
use Rattle.controller.specs.Verdict.{verdict_one, verdict_pair}
use Rattle.controller.specs.Valid.{Valid}
use Rattle.controller.specs.Answers.{Outcome, outcome, refusing}
use Rattle.controller.specs.Starting.{candidates, entry_at, is_pair, passed, command, one_taken, pair_taken, used}
use Rattle.controller.specs.Starting.{last_number, take_one, take_pair, take_from, start}
use Rattle.controller.specs.Calls.{of_started}
use Rattle.controller.proofs.Choosing.{chosen}
use Rattle.controller.proofs.Validity.{candidate_here}
use Rattle.controller.proofs.Apart as ring
use Rattle.controller.proofs.Apart.{ring_inside}
use Rattle.starter.specs.Inside.{Inside}

or_same : (b : Bool) → (b || b) ≡ b
or_same true = refl
or_same false = refl

-- ---- what is taken from queue id, with the arbiter a left

module _ (c : Controller) (m : Memory) (id : ℕ) (a : Arbiter) (e : Submission) where
  pub one_refused : taken_one c.free ≡ None → refusing c m 13 ≡ take_one c m id a e
  unfolding take_one
  one_refused q = rw q

  pub one_numberless : {t left : ℕ} → taken_one c.free ≡ Some (t, left) → {n : ℕ} → n ≡ c.next_number → last_number < n
      → refusing c m 32 ≡ take_one c m id a e
  unfolding take_one settle
  one_numberless q i l = rw (q, ← i, lt-ltb _ _ l)

  -- the head moves, then the command is stored, then the tags, the turn and the next number that are left
  pub one_started : {t left : ℕ} → taken_one c.free ≡ Some (t, left)
      → {u : Bool} → u ≡ (used c id e || used c id e) → {v : ℕ} → v ≡ verdict_one id e u
      → {slot : ℕ} → slot ≡ (sq_at c id).ring.head → {n : ℕ} → n ≡ c.next_number → n ≤ last_number
      → (d k l : Controller) → d ≡ with_sq c id (passed (sq_at c id) 1)
      → k ≡ with_commands d (set d.commands t (command id e.cid v 0 0 n)) d.free d.arbiter
      → l ≡ with_next_number (with_commands k k.commands left a) (n + 1)
      → outcome (of_started (Ok (S.One id t slot v n))) l m ≡ take_one c m id a e
  unfolding take_one one_taken settle
  one_started q x y s {n} i b d k l f g w = rw (w, g, f, s, y, x, or_same, q, ← i, le-ltb last_number n b)

module _ (c : Controller) (m : Memory) (id : ℕ) (a : Arbiter) (e f : Submission) where
  pub pair_refused : taken_two c.free ≡ None → refusing c m 13 ≡ take_pair c m id a e f
  unfolding take_pair
  pair_refused q = rw q

  pub pair_numberless : {t u left : ℕ} → taken_two c.free ≡ Some (t, u, left) → {n : ℕ} → n ≡ c.next_number → last_number ≤ n
      → refusing c m 32 ≡ take_pair c m id a e f
  unfolding take_pair settle
  pair_numberless q {n} i l = rw (q, ← i, lt-ltb last_number (n + 1) (omega arith))

  pub pair_started : {t u left : ℕ} → taken_two c.free ≡ Some (t, u, left)
      → {v : ℕ} → v ≡ verdict_pair e f (used c id e) (used c id f)
      → {slot : ℕ} → slot ≡ (sq_at c id).ring.head → {n : ℕ} → n ≡ c.next_number → n < last_number
      → (d j k l : Controller) → d ≡ with_sq c id (passed (sq_at c id) 2)
      → j ≡ with_commands d (set d.commands t (command id e.cid v 0 (u + 1) n)) d.free d.arbiter
      → k ≡ with_commands j (set j.commands u (command id f.cid v (t + 1) 0 (n + 1))) j.free j.arbiter
      → l ≡ with_next_number (with_commands k k.commands left a) (n + 2)
      → outcome (of_started (Ok (S.Pair id t u slot v n))) l m ≡ take_pair c m id a e f
  unfolding take_pair pair_taken settle
  pair_started q y s {n} x b d j k l p g w z = rw (z, w, g, p, s, y, q, ← x, le-ltb last_number (n + 1) (omega arith))

-- by what stands at the head of the queue that was read
module _ (c : Controller) (m : Memory) (id : ℕ) (a : Arbiter) {q : SubmissionQueue} (e : q ≡ sq_at c id) {p : Bool}
    (f : p ≡ is_pair id q.ring m) {x : Submission} (g : x ≡ entry_at m q.ring q.ring.head) {o : Outcome} where
  pub from_one : p ≡ false → o ≡ take_one c m id a x → o ≡ take_from c m (Some (id, a))
  from_one n k = rw (← e, ← f, n, ← g) k

  pub from_pair : p ≡ true → {y : Submission} → y ≡ entry_at m q.ring (next q.ring.size q.ring.head)
      → o ≡ take_pair c m id a x y → o ≡ take_from c m (Some (id, a))
  from_pair n h k = rw (← e, ← f, n, ← g, ← h) k

-- ---- the start

module _ (c : Controller) (m : Memory) where
  pub start_outside : outside c (length m) ≡ true → refusing c m 5 ≡ start c m
  unfolding start settle
  start_outside o = rw o

  pub start_chosen : outside c (length m) ≡ false → {x : Option (ℕ × Arbiter)} → choice c.arbiter (candidates c) ≡ x
      → take_from c m x ≡ start c m
  unfolding start settle
  start_chosen o e = rw (o, e)

-- the queue chosen exists, and its ring is sound and lies in the memory
pub ready : (c : Controller) (n : ℕ) → Valid c → outside c n ≡ false → {id : ℕ} {a : Arbiter}
    → choice c.arbiter (candidates c) ≡ Some (id, a)
    → (id < 16) × Inside n (sq_at c id).ring
ready c n v o {id} e =
    let k = chosen c e in
    let h = candidate_here c id k.1 in
    (k.0, record { ok = v.sq_ok id h; within = ring_inside v o (ring.sq id) h })
