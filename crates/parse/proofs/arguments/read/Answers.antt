-- `read` meets its contract. Assumes nothing.
use mathlib.Core.Path.{sym, ap, ◌∙◌}
use native.Mathlib.Omega.{arith}
use borrow.Author.Tests.{eq-eqb, ne_eqb}
use lib.ListN.{length, drop, length-drop}
use Rattle.print.proofs.Puts.{put_length}
use Rattle.parse.specs.Line.{words_of}
use Rattle.parse.proofs.Lines.{words_most}
use Rattle.parse.proofs.Reading.{none_left}
use Rattle.parse.proofs.Givens.{read_bad, read_nothing, read_numbers, read_bytes, fixed_count}
use Rattle.parse.proofs.arguments.read.Goals as goal

pub returns-in-Err : goal.returns-in-Err
returns-in-Err c =
    read_bad _ _ _ _ _ (rw c.in-Err.is at c.store_fixed.ensures)

pub next_word-w-requires : goal.next_word-w-requires
next_word-w-requires c =
    let f = rw c.in-Ok.is at c.store_fixed.ensures in
    f.behind.0

pub returns-then-w : goal.returns-then-w
returns-then-w c =
    let f = rw c.in-Ok.is at c.store_fixed.ensures in
    let w = c.next_word-w in
    let e = ne_eqb w.result.start w.result.end c.if-w.true in
    read_nothing _ _ _ _ f _ _ c.in-Nothing.is (sym e ∙ none_left w.ensures)

pub returns-else-w : goal.returns-else-w
returns-else-w c =
    let f = rw c.in-Ok.is at c.store_fixed.ensures in
    let w = c.next_word-w in
    let e = eq-eqb w.result.start w.result.end c.if-w.false in
    read_nothing _ _ _ _ f _ _ c.in-Nothing.is (sym e ∙ none_left w.ensures)

pub store_numbers-requires : goal.store_numbers-requires
store_numbers-requires c =
    let f = rw c.in-Ok.is at c.store_fixed.ensures in
    let ws = words_of (drop c.args.at c.args.line.now) in
    let n = fixed_count c.args.largest.now ws (sym f.judged) in
    let l = ap length f.behind.1 ∙ length-drop (length c.args.largest.now) ws in
    let d = length-drop c.args.at c.args.line.now in
    let m = words_most (drop c.args.at c.args.line.now) in
    (f.behind.0, omega (arith, n.0, n.1, l, d, m, put_length f.put, c.requires))

pub returns-in-Ok-store_numbers : goal.returns-in-Ok-store_numbers
returns-in-Ok-store_numbers c =
    let f = rw c.in-Ok.is at c.store_fixed.ensures in
    read_numbers _ _ _ _ f _ _ c.in-Numbers.is (rw c.in-Ok-store_numbers.is at c.store_numbers.ensures)

pub returns-in-Err-store_numbers : goal.returns-in-Err-store_numbers
returns-in-Err-store_numbers c =
    let f = rw c.in-Ok.is at c.store_fixed.ensures in
    read_numbers _ _ _ _ f _ _ c.in-Numbers.is (rw c.in-Err-store_numbers.is at c.store_numbers.ensures)

pub store-requires : goal.store-requires
store-requires c =
    let f = rw c.in-Ok.is at c.store_fixed.ensures in
    (f.behind.0, c.requires.3)

pub returns-in-Ok-store : goal.returns-in-Ok-store
returns-in-Ok-store c =
    let f = rw c.in-Ok.is at c.store_fixed.ensures in
    read_bytes _ _ _ _ f _ c.in-Bytes.is (rw c.in-Ok-store.is at c.store.ensures)

pub returns-in-Err-store : goal.returns-in-Err-store
returns-in-Err-store c =
    let f = rw c.in-Ok.is at c.store_fixed.ensures in
    read_bytes _ _ _ _ f _ c.in-Bytes.is (rw c.in-Err-store.is at c.store.ensures)
