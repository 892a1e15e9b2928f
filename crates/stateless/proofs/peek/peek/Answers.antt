-- `peek` meets its contract. Assumes nothing.
use mathlib.Core.Path.{◌≡◌, sym, ap}
use mathlib.Core.List.{[]}
use Prim.Native.Nat.{◌≤◌, ◌-◌, ◌+◌}
use native.Mathlib.Omega.{arith}
use lib.ListN.{length, take, drop, get_or}
use Rattle.le.proofs.Parts.{part_length}
use Rattle.stateless.proofs.Lying.{peek_outside, peek_inside, as_part}
use Rattle.stateless.proofs.Sentences.{sentence_fits, printed_as}
use Rattle.stateless.proofs.peek.peek.Goals as goal

pub returns-in_default : goal.returns-in_default
returns-in_default c =
    let a = c.args in
    printed_as (sym (peek_outside a.memory.now (get_or a.a.now 0 0) (get_or a.a.now 1 0) c.in_default.ensures)) (c.say_bad.ensures a.word.now)

pub say-requires : goal.say-requires
say-requires c =
    let a = c.args in
    let x = c.in-Some in
    let p = x.ensures in
    let n = get_or a.a.now 1 0 in
    let h : x.from + n ≤ length a.memory.now = omega (arith, p.1, p.3) in
    let q : x.to - x.from ≡ n = omega (arith, p.1, p.2) in
    let e = as_part a.memory.now x.from n (x.to - x.from) q in
    sentence_fits a.word.now [] (take (x.to - x.from) (drop x.from a.memory.now)) (length a.out.now) c.requires.1
    (omega (arith, ap length e, part_length a.memory.now x.from n h, c.requires.0.1.0)) c.requires.2

pub returns : goal.returns
returns c =
    let a = c.args in
    let x = c.in-Some in
    let p = x.ensures in
    let q : x.to - x.from ≡ get_or a.a.now 1 0 = omega (arith, p.1, p.2) in
    printed_as (sym (peek_inside a.memory.now (get_or a.a.now 0 0) (get_or a.a.now 1 0) x.from (x.to - x.from) p.0 p.1 q))
    (c.say.ensures a.number)
