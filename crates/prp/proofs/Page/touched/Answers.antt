-- `prp::Page::touched` meets its contract. Assumes nothing.
use mathlib.Core.Path.{sym}
use native.Mathlib.Omega.{arith}
use Prim.Native.Nat.{◌+◌, ◌-◌, ◌/◌, ◌<◌}
use Rattle.prp.specs.Pages.{page_size, most_pages}
use Rattle.prp.proofs.Touched.{page_low, page_high, by_offset, touched_most}
use Rattle.prp.proofs.Page.touched.Goals as goal
use Rattle.prp.proofs.Page.touched.Goals.{After-size}

pub overflow_add-result : goal.overflow_add-result
overflow_add-result c =
    omega (arith, page_high c.args.self.number c.args.self.small)

few :
    (c : After-size) → (c.offset.result + c.args.len - 1) / c.size.result < most_pages
few c =
    let a = c.args in
    let p = c.requires in
    rw (c.offset.ensures.0, c.size.ensures.0)
    (touched_most (page_size a.self.number) a.prp1 a.len (page_low a.self.number) p.0 p.1)

pub returns : goal.returns
returns c =
    let a = c.args in
    let e = by_offset (page_size a.self.number) a.prp1 a.len (page_low a.self.number) c.requires.0 in
    (rw (c.offset.ensures.0, c.size.ensures.0) (sym e), (omega arith, omega (arith, few c)))

pub overflow_add-result-2 : goal.overflow_add-result-2
overflow_add-result-2 c =
    omega (arith, few c)
