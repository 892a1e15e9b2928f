-- `calls_after` meets its contract. Assumes nothing.
use Rattle.std.proofs.Common.{sym, ◌∙◌}
use Rattle.rules.proofs.Tests.{pick_yes, pick_no}
use Rattle.transcript.proofs.summary.calls_after.Goals as goal

pub returns-then-is_of_record : goal.returns-then-is_of_record
returns-then-is_of_record c =
    sym (pick_yes _ _ (sym c.is_of_record.ensures ∙ c.if-is_of_record.true))

pub returns : goal.returns
returns c =
    c.plus_one.ensures ∙ sym (pick_no _ _ (sym c.is_of_record.ensures ∙ c.if-is_of_record.false))
