-- `entry::submission::store` meets its contract. Assumes nothing.
use mathlib.Core.Path.{◌≡◌}
use mathlib.Core.List.{List, ◌++◌}
use Prim.Native.Nat.{ℕ, ◌≤◌}
use lib.ListN.{length}
use lib.Seq.{sets}
use Rattle.le.specs.Le.{le}
use Rattle.le.specs.Memory.{put}
use Rattle.le.proofs.Parts.{sets_put}
use Rattle.entry.specs.Submission.{submission_bytes, flags}
use Rattle.entry.specs.declared.submission.Submission.{Submission}
use Rattle.entry.proofs.submission.store.Goals as goal

-- the three groups of stores, one after the other, put the entry in
joined : (l : List ℕ) (e : Submission) → 64 ≤ length l
    → sets
    (sets (sets l 0 (le 1 e.opc ++ le 1 (flags e) ++ le 2 e.cid ++ le 4 e.nsid ++ le 8 0)) 16
    (le 8 e.mptr ++ le 8 e.prp1 ++ le 8 e.prp2 ++ le 8 e.slba))
    48
    (le 2 e.nlb ++ le 2 e.cdw12_upper ++ le 4 e.cdw13 ++ le 4 e.cdw14 ++ le 4 e.cdw15)
    ≡ put l 0 (submission_bytes e)
unfolding le submission_bytes
joined l e h = sets_put l 0 (submission_bytes e) h

pub returns : goal.returns
returns c =
    cc (joined _ c.args.e c.requires)
