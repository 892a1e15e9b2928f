-- `word_of` meets its contract. Assumes nothing.
use Prim.Native.Nat.{◌<◌}
use mathlib.Core.Path.{sym}
use native.Mathlib.Omega.{arith}
use borrow.Author.Tests.{lt-ltb}
use borrow.Author.Rules.{rules}
use Rattle.store.proofs.word_of.Goals as goal

pub returns-in-Left : goal.returns-in-Left
returns-in-Left c =
    let h : c.in-Left.n < 4294967296 = search rules in
    (rw (lt-ltb _ _ h) (sym c.in-Left.is), omega arith)
