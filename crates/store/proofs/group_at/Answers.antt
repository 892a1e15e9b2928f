-- `group_at` meets its contract. Assumes nothing.
use Rattle.std.proofs.Math.Nat.{add-zero}
use Rattle.store.proofs.group_at.Goals as goal

pub returns : goal.returns
returns c =
    rw (c.dword.ensures, c.remainder_of.ensures, add-zero c.args.p)
