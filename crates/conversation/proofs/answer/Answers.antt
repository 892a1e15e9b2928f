-- There is room for the line and its answer, which are shown as the form wants. Assumes nothing.
use Rattle.std.proofs.Common.{◌≡◌, ℕ, ◌+◌, length, ap, arith}
use Rattle.form.specs.Shown.{mark}
use Rattle.form.proofs.Joined.{above_most}
use Rattle.conversation.proofs.Answering.{room_left, room_answer, rooms, shows}
use Rattle.conversation.proofs.answer.Goals as goal

pub put_line-to-requires : goal.put_line-to-requires
put_line-to-requires c = omega (arith, above_most c.args.form c.args.line.now, c.requires.line_in_bounds)

pub overflow_add-start : goal.overflow_add-start
overflow_add-start c =
    let e : c.put_line-to.result + c.indent.result ≡ c.put_line-to.result + length (mark c.args.form) =
    ap (λ (k : ℕ). c.put_line-to.result + k) c.indent.ensures in
    omega (arith, room_left c.args.form c.args.line.now _ c.put_line-to.ensures e c.requires.line_in_bounds)

pub slice_bounds-answer-count : goal.slice_bounds-answer-count
slice_bounds-answer-count c =
    let e : c.put_line-to.result + c.indent.result ≡ c.put_line-to.result + length (mark c.args.form) =
    ap (λ (k : ℕ). c.put_line-to.result + k) c.indent.ensures in
    omega (arith, room_left c.args.form c.args.line.now _ c.put_line-to.ensures e c.requires.line_in_bounds)

pub slice_bounds-answer-start : goal.slice_bounds-answer-start
slice_bounds-answer-start c =
    let e : c.put_line-to.result + c.indent.result ≡ c.put_line-to.result + length (mark c.args.form) =
    ap (λ (k : ℕ). c.put_line-to.result + k) c.indent.ensures in
    omega (arith, room_left c.args.form c.args.line.now _ c.put_line-to.ensures e c.requires.line_in_bounds)

pub answer-answered-requires : goal.answer-answered-requires
answer-answered-requires c =
    let e : c.put_line-to.result + c.indent.result ≡ c.put_line-to.result + length (mark c.args.form) =
    ap (λ (k : ℕ). c.put_line-to.result + k) c.indent.ensures in
    let r = c.requires.ready.0 in
    let l = room_answer c.args.form c.args.line.now _ c.put_line-to.ensures e c.requires.line_in_bounds in
    (record { reached = r.reached; sized = r.sized; inside = r.inside; short = r.short; room = l }, c.requires.ready.1)

pub put_aside-requires : goal.put_aside-requires
put_aside-requires c =
    let e : c.put_line-to.result + c.indent.result ≡ c.put_line-to.result + length (mark c.args.form) =
    ap (λ (k : ℕ). c.put_line-to.result + k) c.indent.ensures in
    rooms c.args.form c.args.line.now _ c.put_line-to.ensures e c.requires.line_in_bounds c.answer-answered.ensures

pub returns : goal.returns
returns c =
    let e : c.put_line-to.result + c.indent.result ≡ c.put_line-to.result + length (mark c.args.form) =
    ap (λ (k : ℕ). c.put_line-to.result + k) c.indent.ensures in
    shows c.args.form c.args.line.now _ c.put_line-to.ensures e c.requires.line_in_bounds c.answer-answered.ensures c.put_aside.ensures
