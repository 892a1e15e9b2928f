-- `prp::Page::size` meets its contract. Assumes nothing.
use mathlib.Core.Path.{◌≡◌}
use native.Mathlib.Omega.{arith}
use Prim.Native.Nat.{◌*◌, ◌^◌, ◌%◌}
use lib.Dec.{lit<}
use lib.Pow.{shl_exact}
use Rattle.prp.specs.Pages.{page_size}
use Rattle.prp.proofs.Touched.{page_low, page_high}
use Rattle.prp.proofs.Page.size.Goals as goal

pub returns : goal.returns
unfolding page_size
returns c =
    let exact : 4096 * 2 ^ c.args.self.number % 2 ^ 64 ≡ page_size c.args.self.number = shl_exact 13 c.args.self.number 64 (lit< tt) (omega arith) in
    (exact, (omega (arith, exact, page_low c.args.self.number), omega (arith, exact, page_high c.args.self.number c.args.self.small)))
