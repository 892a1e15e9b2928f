-- `put_walked` meets its contract. Assumes nothing.
use mathlib.Core.Path.{◌≡◌, sym, ap, ◌∙◌}
use native.Mathlib.Omega.{arith}
use Rattle.std.specs.Prelude.{Err}
use Rattle.rules.specs.Refusal.{by_number}
use Rattle.prp.specs.Answer.{pages_of}
use Rattle.print.proofs.Puts.{put_length}
use Rattle.stateless.proofs.Walks.{pages_put, refusal_put}
use Rattle.stateless.proofs.walk.put_walked.Goals as goal

pub put_pages-requires : goal.put_pages-requires
put_pages-requires c =
    let p = c.put_three-to.ensures in
    let w = c.in-Ok in
    let n : pages_of (by_number c.args.walked) ≡ w.found.pages = ap (λ x. pages_of (by_number x)) w.is in
    (omega (arith, n, p.ends, put_length p), omega (arith, n), omega (arith, n))

pub returns-in-Ok : goal.returns-in-Ok
returns-in-Ok c =
    let a = c.args in
    pages_put a.addresses.now a.counts.now (ap by_number c.in-Ok.is) c.put_three-to.ensures
    c.put_pages.ensures

pub returns-in-Err : goal.returns-in-Err
returns-in-Err c =
    let a = c.args in
    refusal_put a.addresses.now a.counts.now (ap by_number c.in-Err.is ∙ ap Err (sym c.number.ensures)) c.put_three.ensures
