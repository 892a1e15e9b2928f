use Rattle.std.proofs.Common.{◌≡◌, drop}
use Rattle.refusals.specs.Meaning.{meanings, meaning, text_in}
use Rattle.refusals.proofs.Rows.{Table}
use Rattle.refusals.proofs.text_of.Given as goal

abbrev pub invariant-loop-row : goal.invariant-loop-row
invariant-loop-row l = Table l.row-items × (text_in (drop l.row-index meanings) l.n ≡ meaning l.n)
