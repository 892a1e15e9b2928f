-- `entry_at` meets its contract: the entry lies in the memory, so that the reader does not refuse it. Assumes nothing.
use Rattle.std.specs.Prelude.{Ok}
use Prim.Native.Nat.{ℕ, ◌+◌, ◌-◌, ◌*◌, ◌≤◌}
use mathlib.Core.Path.{◌≡◌}
use native.Mathlib.Omega.{arith}
use lib.ListN.{length, take, drop}
use Rattle.rules.specs.Rules.{settle}
use Rattle.le.specs.Memory.{Memory, part}
use Rattle.le.proofs.Parts.{part_length}
use Rattle.entry.specs.Submission.{submission_at, submission_read}
use Rattle.entry.specs.declared.submission.Submission.{Submission}
use Rattle.controller.specs.Starting.{entry_at}
use Rattle.starter.proofs.head.entry_at.Goals as goal

-- what is read between two places of a memory
read :
    (m : Memory) (o : ℕ) {e : Submission} → o + 64 ≤ length m → Ok e ≡ submission_read (take (o + 64 - o) (drop o m))
    → e ≡ submission_at (part m o 64)
unfolding submission_read settle part
read m o {e} h f =
    let between : o + 64 - o ≡ 64 = omega arith in
    let q : Ok e ≡ Ok (submission_at (part m o 64)) = rw (between, part_length m o 64 h) at f in cc

pub returns : goal.returns
unfolding entry_at
returns c =
    let r = c.args.r in
    read _ (r.base + 64 * c.args.p) (omega (arith, c.requires.0, c.requires.1.within)) (rw c.unwrap.ensures at c.read.ensures.value)
