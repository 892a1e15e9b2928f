-- `record_at` meets its contract: nothing more, a short record, or a whole one. Assumes nothing.
use mathlib.Core.Path.{◌∙◌}
use Rattle.trace.proofs.Wholes.{ended, there, short}
use Rattle.trace.proofs.Exactly.{answered}
use Rattle.trace.proofs.record_at.Goals as goal

-- the clauses by name
named : {A0 A1 : Type 0} → A0 × A1 → record { value : A0; refusal : A1 }
named p = record { value = p.0; refusal = p.1 }

pub returns-then-trace-at : goal.returns-then-trace-at
returns-then-trace-at c =
    named (answered _ _ (ended _ _ c.if-trace-at.true))

pub returns-then-trace-at-lt-RECORD_BYTES : goal.returns-then-trace-at-lt-RECORD_BYTES
returns-then-trace-at-lt-RECORD_BYTES c =
    named (answered _ _ (short _ _ c.if-trace-at.false c.if-trace-at-lt-RECORD_BYTES.true))

pub returns : goal.returns
returns c =
    named (answered _ _ (c.whole_at.ensures ∙ there _ _ c.if-trace-at.false))
