-- `entry::submission::read` meets its contract. Assumes nothing.
use borrow.Author.Tests.{lt-ltb, le-ltb}
use Rattle.rules.specs.Rules.{settle}
use Rattle.rules.proofs.Tables.{answer_number}
use Rattle.entry.specs.Submission.{submission_at, submission_answer, submission_read}
use Rattle.entry.proofs.Exactly.{submission_number}
use Rattle.entry.proofs.submission.read.Goals as goal

-- the clauses by name
named : {A0 A1 : Type 0} → A0 × A1 → record { value : A0; refusal : A1 }
named p = record { value = p.0; refusal = p.1 }

pub returns-then-buf-lt64 : goal.returns-then-buf-lt64
unfolding submission_read settle
returns-then-buf-lt64 c =
    named (answer_number (λ r. (submission_answer r).0) (submission_number c.args.buf.now) (simp (lt-ltb _ _ c.if-buf-lt64.true)))

pub returns : goal.returns
unfolding submission_read submission_at settle
returns c =
    named (answer_number (λ r. (submission_answer r).0) (submission_number c.args.buf.now)
    (simp (le-ltb _ _ c.if-buf-lt64.false) (cc)))
