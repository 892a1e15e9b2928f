-- `entry::completion::store` meets its contract. Assumes nothing.
use mathlib.Core.Path.{◌≡◌}
use mathlib.Core.List.{List}
use Prim.Native.Nat.{ℕ, ◌+◌, ◌*◌, ◌%◌, ◌≤◌}
use lib.ListN.{length}
use lib.Seq.{sets}
use Rattle.le.specs.Le.{le}
use Rattle.le.specs.Memory.{put}
use Rattle.le.proofs.Parts.{sets_put}
use Rattle.entry.specs.Completion.{completion_bytes}
use Rattle.entry.specs.declared.completion.Completion.{Completion}
use Rattle.entry.proofs.completion.store.Goals as goal

-- six stores of fields, one after the other, put the entry in
joined : (l : List ℕ) (e : Completion) (phase : ℕ) → 16 ≤ length l
    → sets (sets (sets (sets (sets (sets l 0 (le 4 e.result)) 4 (le 4 0)) 8 (le 2 e.sqhd)) 10 (le 2 e.sqid)) 12 (le 2 e.cid)) 14
    (le 2 (2 * e.status + phase % 2))
    ≡ put l 0 (completion_bytes e phase)
unfolding le completion_bytes
joined l e phase h = sets_put l 0 (completion_bytes e phase) h

pub returns : goal.returns
returns c =
    cc (joined c.args.buf.now c.args.e c.args.phase c.requires.0)
