-- The command is among the rows that are left. Assumes nothing.
use Rattle.std.proofs.Common.{refl, sym, ◌∙◌, arith}
use Rattle.language.specs.Vocabulary.{named}
use Rattle.language.proofs.Rows.{standing_found, standing_passed, none_standing}
use Rattle.language.proofs.vocabulary.command_of.Goals as goal

pub loop-row-init : goal.loop-row-init
unfolding named
loop-row-init c = record { are = refl; finds = refl }

pub returns-then-is_same : goal.returns-then-is_same
returns-then-is_same c =
    standing_found c.loop-row.invariant c.loop-row-test.true (rw c.as_bytes.ensures.value at (sym c.is_same.ensures ∙ c.if-is_same.true))

pub loop-row-preserved : goal.loop-row-preserved
loop-row-preserved c =
    standing_passed c.loop-row.invariant c.loop-row-test.true (rw c.as_bytes.ensures.value at (sym c.is_same.ensures ∙ c.if-is_same.false))

pub returns : goal.returns
returns c = none_standing c.loop-row.invariant (omega arith)
