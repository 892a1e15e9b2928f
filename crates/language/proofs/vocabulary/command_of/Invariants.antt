-- The command is among the rows that are left. Assumes nothing.
use Rattle.language.proofs.Rows.{Standing}
use Rattle.language.proofs.vocabulary.command_of.Given as goal

abbrev pub invariant-loop-row : goal.invariant-loop-row
invariant-loop-row l = Standing l.word l.row-items l.row-index
