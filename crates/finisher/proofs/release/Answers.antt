-- `release` meets its contract. Assumes nothing.
use native.Mathlib.Omega.{arith}
use lib.Dec.{lit≤}
use borrow.Author.Rules.{rules}
use Rattle.finisher.proofs.Finishes.{status_to}
use Rattle.finisher.proofs.release.Goals as goal

pub overflow_cast-half : goal.overflow_cast-half
overflow_cast-half c =
    rw c.status_of.ensures
    (record { fits = omega (arith, status_to 65535 c.args.k.verdict 9 (search rules) (lit≤ tt)) })
