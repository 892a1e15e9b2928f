-- `in_memory` meets its contract. Assumes nothing.
use mathlib.Core.Path.{◌≡◌}
use Prim.Native.Nat.{◌-◌}
use native.Mathlib.Omega.{arith}
use borrow.Author.Rules.{rules}
use lib.ListN.{length, get_or}
use Rattle.stateless.specs.Leaving.{heard}
use Rattle.stateless.proofs.Lying.{part_used}
use Rattle.stateless.proofs.part.in_memory.Goals as goal

pub returns : goal.returns
returns c =
    let a = c.args in
    let x = c.in_ok-from in
    let p = x.ensures in
    let q : x.to - x.from ≡ get_or a.a.now 1 0 = omega (arith, p.1, p.2) in
    let u : x.to - x.from ≡ length c.on_part.new.part = search rules in
    let e = c.on_part.ensures in (
      (λ d. part_used d a.memory.now a.k a.a.now (heard c.on_part.result) x.from (x.to - x.from) c.on_part.new.part p.0 p.1 q u e.0),
      e.1,
    )
