-- `in_use` meets its contract. The invariant: the tags in `left` are still to be looked at. Assumes nothing.
use Prim.Native.Nat.{◌-◌, ◌<◌, ◌^◌}
use mathlib.Core.Path.{sym}
use native.Mathlib.Omega.{arith}
use lib.Count.{count_trailing_zeros}
use lib.Pow.{pow_pos}
use borrow.Author.Rules.{rules}
use Rattle.bits.proofs.Bits.{shl_one, sub_fits}
use Rattle.bits.proofs.Tags.{OneTaken}
use Rattle.starter.proofs.Verdicts.{all_to_see, lowest_to_see, one_found, one_seen, none_to_see}
use Rattle.starter.proofs.verdict.in_use.Goals as goal
use Rattle.starter.proofs.verdict.in_use.Goals.{In-loop-left}

pub loop-left-init : goal.loop-left-init
loop-left-init c =
    let h : c.free_of-left.result < 2 ^ 64 = search rules in
    rw c.free_of-left.ensures (all_to_see _ _ _ _ _ (rw c.free_of-left.ensures at h))

-- the tag that a turn looks at
tag :
    (c : In-loop-left)
    → let left = c.loop-left.left in OneTaken left (count_trailing_zeros 64 left) (left - 2 ^ count_trailing_zeros 64 left)
tag c =
    lowest_to_see _ _ _ _ _ c.loop-left.invariant c.loop-left-test.true

pub overflow_cast-t : goal.overflow_cast-t
overflow_cast-t c =
    omega (arith, (tag c).low)

pub command_at-k-requires : goal.command_at-k-requires
command_at-k-requires c =
    (tag c).low

pub returns-then-k-sq : goal.returns-then-k-sq
returns-then-k-sq c =
    one_found _ _ _ _ _ c.loop-left.invariant (tag (goal.at.returns-then-k-sq c).In-loop-left)
    (rw (sym c.command_at-k.ensures) c.if-k-sq.true)

pub overflow_cast-left : goal.overflow_cast-left
overflow_cast-left c =
    omega (arith, (tag (goal.at.overflow_cast-left c).In-loop-left).low)

pub overflow_shl-left : goal.overflow_shl-left
overflow_shl-left c =
    omega (arith, (tag (goal.at.overflow_shl-left c).In-loop-left).low)

pub overflow_sub-left-in-loop-left : goal.overflow_sub-left-in-loop-left
overflow_sub-left-in-loop-left c =
    let t = tag (goal.at.overflow_sub-left-in-loop-left c).In-loop-left in rw (shl_one 64 _ t.low) (sub_fits _ _ t.free)

pub loop-left-smaller : goal.loop-left-smaller
loop-left-smaller c =
    rw (shl_one 64 _ (tag (goal.at.loop-left-smaller c).In-loop-left).low)
    (omega (
      arith,
      sub_fits _ _ (tag (goal.at.loop-left-smaller c).In-loop-left).free,
      pow_pos
          (count_trailing_zeros 64 c.loop-left.left),
    ))

pub loop-left-preserved : goal.loop-left-preserved
loop-left-preserved c =
    rw (shl_one 64 _ (tag (goal.at.loop-left-preserved c).In-loop-left).low)
    (one_seen _ _ _ _ _ c.loop-left.invariant (tag (goal.at.loop-left-preserved c).In-loop-left)
    (rw (sym c.command_at-k.ensures) c.if-k-sq.false))

pub returns : goal.returns
returns c =
    none_to_see _ _ _ _ _ c.loop-left.invariant c.loop-left-test.false
