-- `put` meets its contract. Assumes nothing.
use native.Mathlib.Omega.{arith}
use Rattle.print.proofs.Parts.{put_copied}
use Rattle.print.proofs.put.Goals as goal

pub returns : goal.returns
returns c =
    put_copied _ _ _ c.copy_from_slice.ensures.after (omega arith) c.requires
