-- `execute` meets its contract. Assumes nothing.
use mathlib.Core.Path.{◌≡◌, sym, ◌∙◌}
use Prim.Native.Nat.{◌≤◌, ◌-◌}
use native.Mathlib.Omega.{arith}
use borrow.Author.Rules.{rules}
use lib.ListN.{length, take, drop, length-drop}
use Rattle.store.specs.Held.{held}
use Rattle.parse.specs.Line.{words_of}
use Rattle.parse.proofs.Lines.{words_most, word_most}
use Rattle.parse.proofs.Storing.{is_good, is_bad}
use Rattle.parse.proofs.Counts.{total, words_total}
use Rattle.print.proofs.Puts.{put_length}
use Rattle.language.specs.State.{console}
use Rattle.stateless.specs.Leaving.{numbers_most}
use Rattle.shell.proofs.Given.{numbers_are, bytes_are, bytes_inside, fitting}
use Rattle.shell.proofs.Answers.{no_command, bad_arguments, good_arguments, leaves_as, spoke_leaves, bad_leaves}
use Rattle.shell.proofs.execute.Goals as goal
use Rattle.shell.proofs.execute.Goals.{Start}

-- how many numbers there is room for is known
numbers-long :
    (s : Start) → length s.args.numbers.now ≡ numbers_most
numbers-long s =
    search rules

-- what the line has fits into the buffers
words-fit :
    (s : Start)
    → length (words_of (drop s.args.end s.args.line.now)) ≤ length s.args.numbers.now
words-fit s =
    let l = drop s.args.end s.args.line.now in
    omega (arith, words_most l, length-drop s.args.end s.args.line.now, s.requires.ready.0.short, numbers-long s)

bytes_fit :
    (s : Start) → total (words_of (drop s.args.end s.args.line.now)) ≤ length s.args.first.now
bytes_fit s =
    let l = drop s.args.end s.args.line.now in
    omega (arith, words_total l, length-drop s.args.end s.args.line.now, s.requires.ready.0.short, s.requires.ready.1.first)

pub say_bad-requires : goal.say_bad-requires
say_bad-requires c =
    c.requires.ready.0.room

pub returns-in_default : goal.returns-in_default
returns-in_default c =
    let a = c.args in
    let w = take (a.end - a.start) (drop a.start a.line.now) in
    leaves_as (no_command (console (held a.state.now) a.memory.now a.lent) a.number w (words_of (drop a.end a.line.now))
    (sym c.command_of.ensures ∙ c.in_default.is))
    (bad_leaves a.state.now a.memory.now a.lent c.requires.ready.0.reached c.requires.ready.0.inside w a.number
    (c.say_bad.ensures w))

pub read-requires : goal.read-requires
read-requires c = (
  c.requires.start_le_end.1,
  omega (arith, c.form_of-form.ensures.few, numbers-long (goal.at.read-requires c).Start),
  omega (arith, c.requires.ready.0.short, numbers-long (goal.at.read-requires c).Start),
  omega (arith, c.requires.ready.0.short, c.requires.ready.1.first),
)

pub say_bad-requires-in_default-read : goal.say_bad-requires-in_default-read
say_bad-requires-in_default-read c =
    c.requires.ready.0.room

pub returns-in_default-read : goal.returns-in_default-read
returns-in_default-read c =
    let a = c.args in
    let w = take (a.end - a.start) (drop a.start a.line.now) in
    let x = rw (
      c.form_of-form.ensures.largest,
      c.form_of-form.ensures.rest,
    ) at (rw c.in_default-read.is at c.read.ensures) in
    leaves_as (bad_arguments (console (held a.state.now) a.memory.now a.lent) a.number w (words_of (drop a.end a.line.now))
    c.in-Some.command (sym c.command_of.ensures ∙ c.in-Some.is) (is_bad _ _ x.answers).0)
    (bad_leaves a.state.now a.memory.now a.lent c.requires.ready.0.reached c.requires.ready.0.inside w a.number
    (c.say_bad-in_default-read.ensures w))

pub slice_bounds-obey-count : goal.slice_bounds-obey-count
slice_bounds-obey-count c =
    omega (
      arith,
      c.requires.start_le_end.0,
    )

pub slice_bounds-obey-start : goal.slice_bounds-obey-start
slice_bounds-obey-start c =
    omega (
      arith,
      c.requires.start_le_end.0,
    )

pub slice_bounds-obey-end : goal.slice_bounds-obey-end
slice_bounds-obey-end c =
    omega (
      arith,
      c.requires.start_le_end.1,
    )

pub obey-requires : goal.obey-requires
obey-requires c =
    let a = c.args in
    let x = rw (
      c.form_of-form.ensures.largest,
      c.form_of-form.ensures.rest,
    ) at (rw c.in-Ok.is at c.read.ensures) in
    let k = c.in-Some.command in
    let ws = words_of (drop a.end a.line.now) in
    let r = c.requires.ready.0 in
    record {
      ready = (
        record {
          reached = r.reached;
          sized = r.sized;
          inside = r.inside;
          short = omega (arith, word_most a.line.now a.start a.end, r.short, c.requires.start_le_end.1);
          room = r.room;
        },
        fitting k ws x (words-fit (goal.at.obey-requires c).Start) (bytes_fit (goal.at.obey-requires c).Start),
      );
      numbers_len = (
        omega (
          arith,
          put_length x.numbers,
          numbers-long (goal.at.obey-requires c).Start,
        ),
        omega (arith, put_length x.bytes, c.requires.ready.1.first),
        c.requires.ready.1.second,
        bytes_inside k ws x (words-fit (goal.at.obey-requires c).Start) (bytes_fit (goal.at.obey-requires c).Start),
      );
    }

pub returns : goal.returns
returns c =
    let a = c.args in
    let x = rw (
      c.form_of-form.ensures.largest,
      c.form_of-form.ensures.rest,
    ) at (rw c.in-Ok.is at c.read.ensures) in
    let k = c.in-Some.command in
    let ws = words_of (drop a.end a.line.now) in
    let w = take (a.end - a.start) (drop a.start a.line.now) in
    leaves_as (good_arguments (console (held a.state.now) a.memory.now a.lent) a.number w ws k
    (sym c.command_of.ensures ∙ c.in-Some.is) (is_good _ _ x.answers).0 _ _
    (numbers_are k ws x (words-fit (goal.at.returns c).Start) (bytes_fit (goal.at.returns c).Start))
    (bytes_are k ws x (words-fit (goal.at.returns c).Start) (bytes_fit (goal.at.returns c).Start)))
    (spoke_leaves w a.number c.obey.ensures)
