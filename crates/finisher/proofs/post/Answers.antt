-- `post` meets its contract: the entry has room, and is put into the memory. Assumes nothing.
use Prim.Native.Nat.{ℕ, ◌+◌, ◌*◌, ◌≤◌}
use native.Mathlib.Omega.{arith}
use lib.ListN.{length}
use Rattle.entry.specs.declared.completion.Completion.{Completion}
use Rattle.entry.specs.Completion.{completion}
use Rattle.finisher.proofs.Finishes.{written_ok, written_put}
use Rattle.finisher.proofs.post.Goals as goal
use Rattle.finisher.proofs.post.Goals.{After-write, Start}

-- where the entry goes, and what it says
abbrev place :
    Start → ℕ
place c =
    c.args.q.ring.base + 16 * c.args.q.ring.tail

abbrev entry :
    Start → Completion
entry c =
    let a = c.args in completion a.res a.sqhd a.k.sq a.k.cid a.status

room :
    (c : Start) → place c + 16 ≤ length c.args.memory.now
room c =
    omega (arith, c.requires)

pub unwrap-requires : goal.unwrap-requires
unwrap-requires c =
    let s = (goal.at.unwrap-requires c).Start in written_ok _ (place s) (entry s) (room s) c.requires.2 _ c.write.ensures.value

pub returns : goal.returns
returns c =
    let s = (goal.at.returns c).Start in written_put _ (place s) (entry s) (room s) c.requires.2 _ c.write.ensures.buf_after
