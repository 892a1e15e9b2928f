-- `answer` meets its contract. Assumes nothing.
use mathlib.Core.List.{[]}
use Prim.Native.Nat.{◌≤◌, ◌<◌}
use native.Mathlib.Omega.{arith}
use lib.ListN.{length}
use Rattle.store.specs.Held.{held}
use Rattle.parse.specs.Line.{most_bytes}
use Rattle.parse.proofs.Lines.{words_over, words_next}
use Rattle.language.specs.State.{console}
use Rattle.shell.proofs.Answers.{too_long, by_words_lem, leaves_as, bad_leaves, nothing_leaves}
use Rattle.shell.proofs.answer.Goals as goal
use Rattle.shell.proofs.answer.Goals.{Start}

pub say_bad-requires : goal.say_bad-requires
say_bad-requires c =
    c.requires.0.room

pub returns-then-line-gt-MOST_BYTES : goal.returns-then-line-gt-MOST_BYTES
returns-then-line-gt-MOST_BYTES c =
    let a = c.args in
    let h : most_bytes < length a.line.now = omega arith in
    leaves_as (too_long (console (held a.state.now) a.memory.now a.lent) a.number a.line.now h)
    (bad_leaves a.state.now a.memory.now a.lent c.requires.0.reached c.requires.0.inside [] a.number (c.say_bad.ensures []))

pub returns-then-start-end : goal.returns-then-start-end
returns-then-start-end c =
    let a = c.args in
    let h : length a.line.now ≤ most_bytes = omega arith in
    let e = words_over c.next_word-word.ensures c.if-start-end.true in
    leaves_as (by_words_lem (console (held a.state.now) a.memory.now a.lent) a.number a.line.now h [] e)
    (nothing_leaves a.state.now a.memory.now a.lent c.requires.0.reached c.requires.0.inside a.number a.out.now)

pub execute-requires : goal.execute-requires
execute-requires c =
    let a = c.args in
    let r = c.requires.0 in
    let h : length a.line.now ≤ most_bytes = omega arith in
    record {
      ready = (record { reached = r.reached; sized = r.sized; inside = r.inside; short = h; room = r.room }, c.requires.1);
      start_le_end = (
        omega (arith, c.next_word-word.ensures.ends),
        c.next_word-word.ensures.inside,
      );
    }

pub returns : goal.returns
returns c =
    let a = c.args in
    let h : length a.line.now ≤ most_bytes = omega (
      arith,
      c.if-line-gt-MOST_BYTES.false,
    ) in
    let e = words_next c.next_word-word.ensures c.if-start-end.false in
    leaves_as (by_words_lem (console (held a.state.now) a.memory.now a.lent) a.number a.line.now h _ e) c.execute.ensures
