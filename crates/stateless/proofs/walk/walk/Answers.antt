-- `walk` meets its contract: what the walk leaves in its buffers is put behind its three numbers. Assumes nothing.
use mathlib.Core.Path.{sym}
use Prim.Native.Nat.{◌≤◌}
use native.Mathlib.Omega.{arith}
use lib.Seq.{length-take-le}
use Rattle.rules.specs.Refusal.{by_number}
use Rattle.prp.specs.Pages.{most_pages}
use Rattle.prp.specs.Answer.{pages_of}
use Rattle.print.proofs.Puts.{put_length}
use Rattle.stateless.proofs.Walks.{walk_few, walk_says}
use Rattle.stateless.proofs.walk.walk.Goals as goal
use Rattle.stateless.proofs.walk.walk.Goals.{After-walk-walked}

few :
    (c : After-walk-walked) → pages_of (by_number c.walk-walked.result) ≤ most_pages
few c =
    let a = c.args in
    let p = c.requires in
    walk_few a.memory.now a.a.now a.addresses.now a.counts.now p.0 p.2 p.3 c.walk-walked.ensures.value

pub slice_bounds-walk-end-2 : goal.slice_bounds-walk-end-2
slice_bounds-walk-end-2 c =
    sym (length-take-le _ c.args.addresses.now (omega arith))

pub slice_bounds-walk-end-4 : goal.slice_bounds-walk-end-4
slice_bounds-walk-end-4 c =
    sym (length-take-le _ c.args.counts.now (omega arith))

pub put_walked-requires : goal.put_walked-requires
put_walked-requires c =
    let n = few (goal.at.put_walked-requires c).After-walk-walked in
    (omega (arith, n), omega (arith, n), omega (arith, n))

pub returns : goal.returns
returns c =
    let a = c.args in
    let p = c.requires in
    let e = c.walk-walked.ensures in
    let s = walk_says a.memory.now a.a.now a.addresses.now a.counts.now p.0 p.2 p.3
    (λ i. omega (arith, c.type_inv.memory i)) (omega (arith, p.1)) e.value e.addresses_after e.counts_after c.put_walked.ensures in
    (s.0, s.1, put_length c.put_walked.ensures)
