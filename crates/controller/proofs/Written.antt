-- What a posting at the tail of one completion ring leaves of that ring, and of every other. Assumes nothing.
use Prim.Native.Nat.{ℕ, ◌+◌, ◌*◌, ◌≤◌}
use mathlib.Core.Bool.{true, false}
use mathlib.Core.Logic.{inl, inr, ⊎_elim}
use mathlib.Core.Path.{◌≡◌}
use native.Mathlib.Omega.{arith}
use lib.ListN.{length}
use Rattle.le.specs.Memory.{Memory}
use Rattle.le.proofs.Parts.{part_in, part_out}
use Rattle.entry.specs.Completion.{completion_bytes}
use Rattle.entry.specs.declared.completion.Completion.{Completion}
use Rattle.entry.proofs.Completions.{completion_length}
use Rattle.controller.specs.Controller.{Controller}
use Rattle.controller.specs.State.{cq_at, command_at, outstanding}
use Rattle.controller.specs.Rings.{outside}
use Rattle.controller.specs.Finishing.{cq_of, tail_of, posted_memory}
use Rattle.controller.specs.Calls.{Reachable}
use Rattle.controller.specs.Valid.{Valid}
use Rattle.controller.specs.Demand.{ring_of}
use Rattle.controller.proofs.Validity.{valid}
use Rattle.controller.proofs.Apart.{cq, ring_inside, apart}
use Rattle.ring.proofs.Posting.{posted_in}

-- the queue that an outstanding command is posted to exists
pub posts_to : {c : Controller} → Valid c → (tag : ℕ) → outstanding c.free tag ≡ true → (cq_at c (cq_of c tag)).ring.exists ≡ true
posts_to {c} v tag out = v.sq_cq (command_at c tag).sq (v.command_sq tag out)

module _ {c : Controller} (r : Reachable c) (m : Memory) (inside : outside c (length m) ≡ false) (e : Completion)
    (k : ℕ) (here : (cq_at c k).ring.exists ≡ true) where
  abbrev size : length (completion_bytes e (cq_at c k).phase) ≡ 16
  size = completion_length e (cq_at c k).phase

  below : 16 * (cq_at c k).ring.tail + length (completion_bytes e (cq_at c k).phase) ≤ 16 * (cq_at c k).ring.size
  below = omega (arith, size, ((valid r).cq_ok k here).tail_below)

  -- the slot lies in memory
  pub fits : tail_of c k + length (completion_bytes e (cq_at c k).phase) ≤ length m
  fits = omega (arith, below, ring_inside (valid r) inside (cq k) here)

  pub ring_posted : ring_of c k (posted_memory c m k e) ≡ posted_in (ring_of c k m) (cq_at c k).ring.tail e (cq_at c k).phase
  ring_posted =
      let x = (cq_at c k).ring in
      part_in m (completion_bytes e (cq_at c k).phase) x.base (16 * x.size) (16 * x.tail)
      (ring_inside (valid r) inside (cq k) here) below

  pub ring_kept : (q : ℕ) → (k ≡ q → ⊥) → (cq_at c q).ring.exists ≡ true → ring_of c q (posted_memory c m k e) ≡ ring_of c q m
  ring_kept q n there =
      let s = (cq_at c q).ring in
      part_out m (tail_of c k) (completion_bytes e (cq_at c k).phase) fits s.base (16 * s.size)
      (ring_inside (valid r) inside (cq q) there)
      (⊎_elim (λ a. inr (omega (arith, below))) (λ a. inl (omega arith)) (apart r (cq k) (cq q) (λ e. n (cc)) here there))
