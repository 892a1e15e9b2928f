use Prim.Native.Nat.{ℕ, ◌+◌, ◌-◌, ◌≤◌}
use mathlib.Core.Path.{◌≡◌}
use Rattle.ring.specs.Reader.{read_count}
use Rattle.ring.proofs.reader.run.Given as goal

abbrev pub invariant-loop-n : goal.invariant-loop-n
invariant-loop-n l =
    (size : ℕ) → l.slot + l.most ≤ size
    → read_count l.most l.ring size l.slot l.phase ≡ l.n + read_count (l.most - l.n) l.ring size (l.slot + l.n) l.phase
