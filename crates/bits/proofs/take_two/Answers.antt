-- `bits::take_two` meets its contract, by the laws of `Tags`. Assumes nothing.
use Prim.Native.Nat.{◌≤◌}
use native.Mathlib.Omega.{arith}
use Rattle.bits.specs.Tags.{free_count}
use Rattle.bits.proofs.First.{first_trailing, count_ones}
use Rattle.bits.proofs.Tags.{rest, lowest_two, two_some, two_none, two_answered}
use Rattle.bits.proofs.take_two.Goals as goal
use Rattle.bits.proofs.take_two.Goals.{Else-mask-lt2}

-- the clauses by name
named : {A0 A1 : Type 0} → A0 × A1 → record { value : A0; refusal : A1 }
named p = record { value = p.0; refusal = p.1 }

pub returns-then-mask-lt2 : goal.returns-then-mask-lt2
returns-then-mask-lt2 c =
    let h = c.ranges.mask.fits in
    named (two_answered _ h (two_none _ h (omega (arith, count_ones 64 _ h))))

-- where the test for fewer fails, two are free
two :
    (c : Else-mask-lt2) → 2 ≤ free_count c.args.mask
two c =
    omega (arith, count_ones 64 _ c.ranges.mask.fits)

pub clear-rest-requires : goal.clear-rest-requires
clear-rest-requires c =
    let m = c.args.mask in
    let w = lowest_two m c.ranges.mask.fits (two c) in
    rw (← first_trailing 64 m) (w.first.low, w.first.free)

pub clear-requires : goal.clear-requires
clear-requires c =
    let m = c.args.mask in
    let w = lowest_two m c.ranges.mask.fits (two (goal.at.clear-requires c).Else-mask-lt2) in
    rw (c.clear-rest.ensures, ← first_trailing 64 m, ← first_trailing 64 (rest m)) (w.second.low, w.second.free)

pub returns : goal.returns
returns c =
    let m = c.args.mask in
    let h = c.ranges.mask.fits in
    named (rw (c.clear.ensures, c.clear-rest.ensures, ← first_trailing 64 m, ← first_trailing 64 (rest m))
    (two_answered m h (two_some m h (two (goal.at.returns c).Else-mask-lt2))))
