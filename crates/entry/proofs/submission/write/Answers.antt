-- `entry::submission::write` meets its contract. Assumes nothing.
use borrow.Author.Tests.{lt-ltb, le-ltb}
use Rattle.rules.specs.Rules.{settle}
use Rattle.entry.specs.Submission.{write_refusal, written}
use Rattle.entry.proofs.submission.write.Goals as goal

pub returns-then-buf-lt64 : goal.returns-then-buf-lt64
unfolding write_refusal written settle
returns-then-buf-lt64 c =
    let e = lt-ltb _ _ c.if-buf-lt64.true in
    record {
      value = simp e;
      buf_after = simp e;
    }

pub returns : goal.returns
unfolding write_refusal written settle
returns c =
    let e = le-ltb _ _ c.if-buf-lt64.false in
    record {
      value = simp e;
      buf_after = simp e c.store.ensures;
    }
