-- Laws of the question whether some number below n passes a test. Assumes nothing.
use Prim.Native.Nat.{ℕ, ◌<◌, ◌≤◌}
use mathlib.Core.Bool.{Bool, true, false}
use mathlib.Core.Logic.{⊎_elim}
use mathlib.Core.Path.{◌≡◌}
use native.Mathlib.Omega.{arith}
use borrow.Author.Tests.{lt-ltb, le-ltb, ltb-true, ltb-false}
use Rattle.rules.proofs.Tests.{lt_or_ge, clash}
use Rattle.rules.proofs.Exactly.{Says}
use Rattle.bits.specs.Bits.{first, some_below}
use Rattle.bits.proofs.First.{first_none, first_hit, first_below}

module _ (n : ℕ) (p : ℕ → Bool) where
  pub some_found : (i : ℕ) → i < n → p i ≡ true → some_below n p ≡ true
  unfolding some_below
  some_found i h e =
      ⊎_elim (λ (l : first p 0 n < n). lt-ltb _ n l)
      (λ (l : n ≤ first p 0 n). absurd (clash e (first_below p 0 n i (omega arith) (omega arith)))) (lt_or_ge (first p 0 n) n)

  pub some_none : ((k : ℕ) → k < n → p k ≡ false) → some_below n p ≡ false
  unfolding some_below
  some_none f = le-ltb _ n (omega (arith, first_none p 0 n (λ j l h. f j (omega arith))))

  -- the number that is found passes
  pub some_which : some_below n p ≡ true → (i : ℕ) × (i < n) × (p i ≡ true)
  unfolding some_below
  some_which e = let h : first p 0 n < n = ltb-true _ n e in (first p 0 n, h, first_hit p 0 n (omega arith))

  pub none_some : some_below n p ≡ false → (k : ℕ) → k < n → p k ≡ false
  unfolding some_below
  none_some e k h = first_below p 0 n k (omega arith) (omega (arith, ltb-false _ n e))

  -- the question in propositions: some number below n is as the test says
  pub says_some : {P : ℕ → Type 0} → ((i : ℕ) → Says (p i) (P i)) → Says (some_below n p) ((i : ℕ) × (i < n) × P i)
  says_some s =
      record {
        yes = λ e. let w = some_which e in (w.0, w.1, (s w.0).yes w.2);
        no = λ e w. (s w.0).no (none_some e w.0 w.1) w.2;
      }
