-- `say_reply` meets its contract. Assumes nothing.
use mathlib.Core.Path.{◌≡◌, sym}
use mathlib.Core.List.{[]}
use Prim.Native.Nat.{◌≤◌}
use native.Mathlib.Omega.{arith}
use borrow.Author.Rules.{rules}
use lib.ListN.{length, take}
use lib.Seq.{length-take-le}
use Rattle.std.specs.Prelude.{Some}
use Rattle.stateless.specs.declared.reply.Reply as short
use Rattle.stateless.proofs.Sentences.{sentence_fits, printed_as, heard_firsts}
use Rattle.stateless.proofs.speak.say_reply.Goals as goal
use Rattle.stateless.proofs.speak.say_reply.Goals.{Start}

pub returns-in_default-clause-printed : goal.returns-in_default-clause-printed
returns-in_default-clause-printed c =
    rw c.in_default.is (c.say_bad.ensures c.args.word.now)

-- the array's length is known
fits :
    (s : Start) (r : short.Reply) → s.args.reply ≡ Some r → (r.count ≤ 16) × (r.count ≤ length r.numbers)
fits s r e =
    let h : length r.numbers ≡ 16 = search rules in
    let few : r.count ≤ 16 = rw e at s.requires.0 in
    (few, omega (arith, h, few))

pub slice_bounds-numbers-end : goal.slice_bounds-numbers-end
slice_bounds-numbers-end c =
    (fits (goal.at.slice_bounds-numbers-end c).Start c.in-Some.reply c.in-Some.is).1

pub slice_bounds-say-end : goal.slice_bounds-say-end
slice_bounds-say-end c =
    sym (length-take-le _ _ (fits (goal.at.slice_bounds-say-end c).Start c.in-Some.reply c.in-Some.is).1)

pub say-requires : goal.say-requires
say-requires c =
    let r = c.in-Some.reply in
    let f = fits (goal.at.say-requires c).Start r c.in-Some.is in
    sentence_fits c.args.word.now (take r.count r.numbers) [] (length c.args.out.now) c.requires.1
    (omega (arith, length-take-le r.count r.numbers f.1, f.0)) c.requires.2

pub returns-clause-printed : goal.returns-clause-printed
returns-clause-printed c =
    let r = c.in-Some.reply in
    rw c.in-Some.is
    (printed_as (heard_firsts r (fits (goal.at.returns-clause-printed c).Start r c.in-Some.is).1) (c.say.ensures c.args.number))

pub returns-clause-good : goal.returns-clause-good
returns-clause-good c =
    let r = c.in-Some.reply in
    rw c.in-Some.is
    (λ n. printed_as (heard_firsts r (fits (goal.at.returns-clause-good c).Start r c.in-Some.is).1) (c.say.ensures n))
