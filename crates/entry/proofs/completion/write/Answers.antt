-- `entry::completion::write` meets its contract. Assumes nothing.
use borrow.Author.Tests.{lt-ltb, le-ltb}
use Rattle.rules.specs.Rules.{settle}
use Rattle.entry.specs.Completion.{write_refusal, written}
use Rattle.entry.proofs.completion.write.Goals as goal

pub returns-then-status-gt32767 : goal.returns-then-status-gt32767
unfolding write_refusal written settle
returns-then-status-gt32767 c =
    let e = lt-ltb _ _ c.if-status-gt32767.true in
    record {
      value = simp e;
      buf_after = simp e;
    }

pub returns-then-buf-lt16 : goal.returns-then-buf-lt16
unfolding write_refusal written settle
returns-then-buf-lt16 c =
    let e = le-ltb _ _ c.if-status-gt32767.false in
    let f = lt-ltb _ _ c.if-buf-lt16.true in
    record {
      value = simp (e, f);
      buf_after = simp (e, f);
    }

pub returns : goal.returns
unfolding write_refusal written settle
returns c =
    let e = le-ltb _ _ c.if-status-gt32767.false in
    let f = le-ltb _ _ c.if-buf-lt16.false in
    record {
      value = simp (e, f);
      buf_after = simp (e, f) c.store.ensures;
    }
