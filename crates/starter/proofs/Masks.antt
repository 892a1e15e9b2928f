-- Laws of the masks of candidates. Assumes nothing.
use Prim.Native.Nat.{ℕ, zero, suc, ◌+◌, ◌*◌, ◌/◌, ◌%◌, ◌^◌, ◌≤◌, ◌<◌}
use mathlib.Core.Bool.{Bool, true, false, ◌&&◌}
use mathlib.Core.Path.{◌≡◌, refl}
use native.Mathlib.Numerals.{add-one}
use native.Mathlib.Omega.{arith}
use lib.Dec.{eqb}
use lib.Pow.{pow-add, pow_mono}
use Rattle.rules.specs.Rules.{pick}
use Rattle.bits.specs.Bits.{mask_of}
use Rattle.bits.proofs.Masks.{mask_lt}
use Rattle.arbiter.specs.declared.Candidates.{Candidates}
use Rattle.controller.specs.declared.SubmissionQueue.{SubmissionQueue}
use Rattle.controller.specs.Controller.{Controller}
use Rattle.controller.specs.State.{sq_at}
use Rattle.controller.specs.Starting.{candidate_at, class_at, candidates}
use Rattle.starter.specs.Masks.{stack, stacked}

-- ---- a queue is of one class

module _ (x i : ℕ) where
  -- x in one of four masks
  in_one : (w : Bool) (k : ℕ) → k ≤ 3
      → pick w x 0 ≡ pick (w && eqb k 0) x 0 + pick (w && eqb k 1) x 0 + pick (w && eqb k 2) x 0 + pick (w && eqb k 3) x 0
  in_one false k h = refl
  in_one true zero h = omega arith
  in_one true (suc zero) h = omega arith
  in_one true (suc (suc zero)) h = omega arith
  in_one true (suc (suc (suc zero))) h = omega arith
  in_one true (suc (suc (suc (suc k)))) h = absurd (omega arith)

  -- bit i of the mask of class k, in the stack
  in_stack : (w : Bool) (k : ℕ) → k ≤ 3
      → pick w (2 ^ (16 * k + i)) 0
      ≡ stack (pick (w && eqb k 0) (2 ^ i) 0) (pick (w && eqb k 1) (2 ^ i) 0) (pick (w && eqb k 2) (2 ^ i) 0)
      (pick (w && eqb k 3) (2 ^ i) 0)
  in_stack false k h = refl
  in_stack true zero h = omega (arith, pow-add 2 0 i)
  in_stack true (suc zero) h = omega (arith, pow-add 2 16 i)
  in_stack true (suc (suc zero)) h = omega (arith, pow-add 2 32 i)
  in_stack true (suc (suc (suc zero))) h = omega (arith, pow-add 2 48 i)
  in_stack true (suc (suc (suc (suc k)))) h = absurd (omega arith)

-- ---- four masks, taken apart

digits : (u h m l : ℕ) → u < 65536 → h < 65536 → m < 65536 → l < 65536
    → let s = stack u h m l in
    (s % 65536 ≡ u) × (s / 65536 % 65536 ≡ h) × (s / 4294967296 % 65536 ≡ m) × (s / 281474976710656 ≡ l)
digits u h m l a b c d = (omega arith, omega arith, omega arith, omega arith)

-- s is the stack of a controller's candidates
pub record Apart (c : Controller) (s : ℕ) : Type 0 where
  pub urgent : s % 65536 ≡ mask_of (class_at c 0) 16
  pub high : s / 65536 % 65536 ≡ mask_of (class_at c 1) 16
  pub medium : s / 4294967296 % 65536 ≡ mask_of (class_at c 2) 16
  pub low : s / 281474976710656 ≡ mask_of (class_at c 3) 16
  pub all : s % 65536 + s / 65536 % 65536 + s / 4294967296 % 65536 + s / 281474976710656 ≡ mask_of (candidate_at c) 16
  pub few : s % 65536 + s / 65536 % 65536 + s / 4294967296 % 65536 + s / 281474976710656 < 65536

pub lesser : (a b : ℕ) {n : ℕ} → a + b < n → a < n
lesser a b h = omega arith

pub found : {c : Controller} {s : ℕ} → Apart c s
    → ◌≡◌ {A = Candidates}
    (record {
      all = s % 65536 + s / 65536 % 65536 + s / 4294967296 % 65536 + s / 281474976710656;
      urgent = s % 65536;
      high = s / 65536 % 65536;
      medium = s / 4294967296 % 65536;
      low = s / 281474976710656;
    })
    (candidates c)
unfolding candidates
found p = let a = p.all in let u = p.urgent in let h = p.high in let m = p.medium in let l = p.low in cc

module _ (c : Controller) (h : (i : ℕ) → (sq_at c i).class ≤ 3) where
  -- ---- one queue more

  pub stacked_next : (i : ℕ) {q : SubmissionQueue} → q ≡ sq_at c i → {w : Bool} → w ≡ candidate_at c i
      → stacked c i + pick w (2 ^ (16 * q.class + i)) 0 ≡ stacked c (i + 1)
  unfolding stacked mask_of
  stacked_next i e f = rw (f, e, add-one i) (omega (arith, in_stack 0 i (candidate_at c i) (sq_at c i).class (h i)))

  pub stacked_fits : (n : ℕ) → n ≤ 16 → stacked c n < 2 ^ 64
  unfolding stacked
  stacked_fits n l =
      omega (
        arith,
        pow_mono {i = n} {j = 16} l,
        mask_lt (class_at c 0) n,
        mask_lt (class_at c 1) n,
        mask_lt (class_at c 2) n,
        mask_lt (class_at c 3) n,
      )

  -- ---- all queues

  all_is : (n : ℕ) → mask_of (candidate_at c) n
      ≡ mask_of (class_at c 0) n + mask_of (class_at c 1) n + mask_of (class_at c 2) n + mask_of (class_at c 3) n
  unfolding mask_of
  all_is zero = refl
  all_is (suc n) = omega (arith, in_one (2 ^ n) n (candidate_at c n) (sq_at c n).class (h n), all_is n)

  -- the stack of all, taken apart
  pub apart : {s : ℕ} → s ≡ stacked c 16 → Apart c s
  unfolding stacked
  apart e =
      let p = digits _ _ _ _ (mask_lt (class_at c 0) 16) (mask_lt (class_at c 1) 16) (mask_lt (class_at c 2) 16)
      (mask_lt (class_at c 3) 16) in
      let sum = all_is 16 in
      rw e
      (record {
        urgent = p.0;
        high = p.1;
        medium = p.2;
        low = p.3;
        all = rw (p.0, p.1, p.2, p.3, sum);
        few = rw (p.0, p.1, p.2, p.3, ← sum) (mask_lt (candidate_at c) 16);
      })
