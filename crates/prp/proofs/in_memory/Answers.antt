-- `prp::in_memory` meets its contract. Assumes nothing.
use borrow.Author.Tests.{le-leb, lt-leb}
use mathlib.Core.Logic.{⊎_elim}
use mathlib.Core.Path.{◌≡◌, sym, ◌∙◌}
use native.Mathlib.Omega.{arith}
use Prim.Native.Nat.{ℕ, ◌+◌, ◌-◌, ◌≤◌}
use lib.Dec.{leb}
use lib.ListN.{length}
use Rattle.rules.proofs.Tests.{lt_or_ge}
use Rattle.prp.specs.Walk.{in_memory}
use Rattle.prp.proofs.in_memory.Goals as goal

-- the test without a sum that could wrap
by_difference : (a n : ℕ) → 8 ≤ n → leb a (n - 8) ≡ leb (a + 8) n
by_difference a n h =
    ⊎_elim (λ l. lt-leb a (n - 8) l ∙ sym (lt-leb (a + 8) n (omega arith)))
    (λ l. le-leb a (n - 8) l ∙ sym (le-leb (a + 8) n (omega arith))) (lt_or_ge (n - 8) a)

pub returns-then-memory-ge8 : goal.returns-then-memory-ge8
unfolding in_memory
returns-then-memory-ge8 c =
    by_difference _ _ c.if-memory-ge8.true

pub returns-else-memory-ge8 : goal.returns-else-memory-ge8
unfolding in_memory
returns-else-memory-ge8 c =
    let n = length c.args.memory.now in
    lt-leb 8 n c.if-memory-ge8.false ∙ sym (lt-leb (c.args.at + 8) n (omega arith))
