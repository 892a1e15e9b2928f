-- `Tally::count` meets its contract. Assumes nothing.
use Rattle.std.proofs.Common.{◌≡◌, suc, ◌≤◌, length, arith, rules}
use Rattle.refusals.specs.Meaning.{meanings, largest}
use Rattle.transcript.proofs.Counts.{count_done, count_above, count_number}
use Rattle.transcript.proofs.summary.Tally.count.Goals as goal

pub returns-then-refusal-eq0 : goal.returns-then-refusal-eq0
returns-then-refusal-eq0 c =
    let a = c.args in
    count_done a.self.now a.refusal c.plus_one-self.ensures c.calls_after-self.ensures c.if-refusal-eq0.true

pub returns-then-i-ge-NUMBERS : goal.returns-then-i-ge-NUMBERS
unfolding largest meanings
returns-then-i-ge-NUMBERS c =
    let a = c.args in
    let l : length a.self.now.numbers ≡ suc largest = search rules in
    let h : length a.self.now.numbers ≤ a.refusal = omega arith in
    count_above a.self.now a.refusal c.plus_one-self.ensures c.calls_after-self.ensures c.if-refusal-eq0.false c.plus_one-self-2.ensures h

pub returns : goal.returns
returns c =
    let a = c.args in
    count_number a.self.now a.refusal c.plus_one-self.ensures c.calls_after-self.ensures c.if-refusal-eq0.false c.plus_one-self-2.ensures
    c.plus_one.ensures
