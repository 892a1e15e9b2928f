-- `prp::Page::entries_from` meets its contract. Assumes nothing.
use native.Mathlib.Omega.{arith}
use Rattle.prp.proofs.Touched.{page_eight}
use Rattle.prp.proofs.Page.entries_from.Goals as goal

pub returns : goal.returns
returns c =
    let a = c.args in
    omega (arith, c.size.ensures.0, c.offset.ensures, page_eight a.self.number a.at, c.requires)
