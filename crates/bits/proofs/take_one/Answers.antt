-- `bits::take_one` meets its contract, by the laws of `Tags`. Assumes nothing.
use native.Mathlib.Nat.{pos_of_ne-zero}
use Rattle.bits.proofs.First.{first_trailing}
use Rattle.bits.proofs.Tags.{lowest_taken, one_some, one_none, one_answered}
use Rattle.bits.proofs.take_one.Goals as goal

-- the clauses by name
named : {A0 A1 : Type 0} → A0 × A1 → record { value : A0; refusal : A1 }
named p = record { value = p.0; refusal = p.1 }

pub returns-then-mask-eq0 : goal.returns-then-mask-eq0
returns-then-mask-eq0 c =
    let h = c.ranges.mask.fits in
    named (one_answered _ h (one_none _ h c.if-mask-eq0.true))

pub clear-requires : goal.clear-requires
clear-requires c =
    let m = c.args.mask in
    let o = lowest_taken m c.ranges.mask.fits (pos_of_ne-zero c.if-mask-eq0.false) in
    rw (← first_trailing 64 m) (o.low, o.free)

pub returns : goal.returns
returns c =
    let m = c.args.mask in
    let h = c.ranges.mask.fits in
    named (rw (c.clear.ensures, ← first_trailing 64 m) (one_answered m h (one_some m h (pos_of_ne-zero c.if-mask-eq0.false))))
