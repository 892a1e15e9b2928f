-- `prp::Page::offset` meets its contract. Assumes nothing.
use mathlib.Core.Path.{refl}
use native.Mathlib.Nat.{mod-lt}
use native.Mathlib.Omega.{arith}
use Prim.Native.Nat.{◌<◌}
use Rattle.prp.specs.Pages.{page_size}
use Rattle.prp.proofs.Touched.{page_low}
use Rattle.prp.proofs.Page.offset.Goals as goal

pub returns : goal.returns
returns c =
    let pos : 0 < page_size c.args.self.number = omega (arith, page_low c.args.self.number) in
    rw c.size.ensures.0 (refl, mod-lt c.args.address pos)
