-- `store` meets its contract. Assumes nothing.
use Prim.Native.Nat.{◌≤◌, ◌-◌}
use native.Mathlib.Omega.{arith}
use lib.ListN.{length, drop, take}
use Rattle.std.proofs.lemmas.Result.{err_from_is_err_and}
use Rattle.print.proofs.Puts.{put_length}
use Rattle.parse.specs.Values.{bytes_of}
use Rattle.parse.proofs.Lines.{word_most}
use Rattle.parse.proofs.Storing.{begun, left_as, finished, stored_more, stored_last, is_good}
use Rattle.parse.proofs.Reading.{each_over, each_next, bytes_most}
use Rattle.parse.proofs.bytes.store.Goals as goal

pub loop-at-init : goal.loop-at-init
loop-at-init c =
    (omega arith, omega arith, begun _ _ _)

pub returns-then-start-stop : goal.returns-then-start-stop
returns-then-start-stop c =
    finished (left_as c.loop-at.invariant.2 (each_over c.next_word-w.ensures bytes_of c.if-start-stop.true))

pub store_word-requires : goal.store_word-requires
store_word-requires c =
    let l = c.loop-at in
    omega (arith, put_length l.invariant.2.put, c.requires, c.next_word-w.ensures)

pub returns-in_err-end : goal.returns-in_err-end
returns-in_err-end c =
    let n = each_next c.next_word-w.ensures c.if-start-stop.false bytes_of in
    let p = err_from_is_err_and c.from_residual.result c.from_residual.ensures.1 in
    rw (p.1, p.2) (stored_last _ _ (left_as c.loop-at.invariant.2 n) c.in_err-end.ensures)

pub loop-at-preserved : goal.loop-at-preserved
loop-at-preserved c =
    let loop = c.loop-at in
    let w = c.next_word-w in
    let n = each_next w.ensures c.if-start-stop.false bytes_of in
    let word = take (w.result.end - w.result.start) (drop w.result.start c.args.line.now) in
    let b = bytes_most word in
    let l : length word ≤ w.result.end - w.result.start = word_most c.args.line.now w.result.start w.result.end in
    let t = c.in_ok-end.ensures in
    let e = is_good _ _ t.answers in
    let more = stored_more _ _ (left_as loop.invariant.2 n) t in
    (w.ensures.inside, omega (arith, b, l, e.1, loop.invariant.1, w.ensures.starts, w.ensures.ends), more)
