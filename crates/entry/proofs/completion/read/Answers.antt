-- `entry::completion::read` meets its contract. Assumes nothing.
use borrow.Author.Tests.{lt-ltb, le-ltb}
use Rattle.rules.specs.Rules.{settle}
use Rattle.rules.proofs.Tables.{answer_number}
use Rattle.entry.specs.Completion.{completion_at, phase_tag, completion_answer, completion_read}
use Rattle.entry.proofs.Exactly.{completion_number}
use Rattle.entry.proofs.completion.read.Goals as goal

-- the clauses by name
named : {A0 A1 : Type 0} → A0 × A1 → record { value : A0; refusal : A1 }
named p = record { value = p.0; refusal = p.1 }

pub returns-then-buf-lt16 : goal.returns-then-buf-lt16
unfolding completion_read settle
returns-then-buf-lt16 c =
    named (answer_number (λ r. (completion_answer r).0) (completion_number c.args.buf.now) (simp (lt-ltb _ _ c.if-buf-lt16.true)))

pub returns : goal.returns
unfolding completion_read completion_at phase_tag settle
returns c =
    named (answer_number (λ r. (completion_answer r).0) (completion_number c.args.buf.now)
    (simp (le-ltb _ _ c.if-buf-lt16.false) (cc)))
