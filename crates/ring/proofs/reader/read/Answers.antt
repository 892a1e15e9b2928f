use borrow.Author.Rules.{rules}
use mathlib.Core.Path.{sym}
use Rattle.std.proofs.lemmas.Result.{err_from_is_err_and}
use Rattle.rules.proofs.Refusals.{refuses, accepts}
use Rattle.ring.specs.Reader.{ring_read}
use Rattle.ring.proofs.Counts.{accepted}
use Rattle.ring.proofs.reader.read.Goals as goal

pub returns-in_err-readable-clause-value : goal.returns-in_err-readable-clause-value
unfolding ring_read
returns-in_err-readable-clause-value c =
    let p = err_from_is_err_and c.from_residual.result c.from_residual.ensures.1 in
    rw (p.1, p.2) (refuses _ _ c.in_err-readable.ensures)

pub count-requires : goal.count-requires
count-requires c =
    let a = c.args in
    let k = accepted _ a.size a.head (sym c.in_ok-readable.ensures) in
    search rules

pub returns-clause-value : goal.returns-clause-value
unfolding ring_read
returns-clause-value c =
    accepts _ _ c.in_ok-readable.ensures c.count.ensures
