-- `masks_of` meets its contract. The invariant: `masks` are those of the queues below `i`. Assumes nothing.
use Prim.Native.Nat.{◌+◌, ◌*◌, ◌^◌, ◌≤◌, ◌<◌}
use mathlib.Core.Bool.{Bool, true, false}
use mathlib.Core.Path.{◌≡◌, refl}
use native.Mathlib.Omega.{arith}
use Rattle.rules.specs.Rules.{pick}
use Rattle.bits.specs.Bits.{mask_of}
use Rattle.bits.proofs.Bits.{shl_one}
use Rattle.controller.proofs.Validity.{valid}
use Rattle.store.specs.Held.{held}
use Rattle.starter.specs.Masks.{stacked}
use Rattle.starter.proofs.Masks.{stacked_next, stacked_fits}
use Rattle.starter.proofs.candidates.masks_of.Goals as goal
use Rattle.starter.proofs.candidates.masks_of.Goals.{After-sq_at-q, After-is_candidate, then-is_candidate, else-is_candidate}

pub loop-i-init : goal.loop-i-init
unfolding stacked mask_of
loop-i-init c =
    refl

-- ---- a turn

-- the queue's class is one of four, so that its bit has a place
low :
    (c : After-sq_at-q) → 16 * c.sq_at-q.result.class + c.loop-i.i < 64
low c =
    let h : c.sq_at-q.result.class ≤ 3 = rw c.sq_at-q.ensures ((valid c.requires.reachable).sq_class c.loop-i.i) in
    omega (arith, c.loop-i-test.true)

next :
    (c : After-is_candidate) (w : Bool) → c.is_candidate.result ≡ w
    → c.loop-i.masks + pick w (2 ^ (16 * c.sq_at-q.result.class + c.loop-i.i)) 0 ≡ stacked (held c.args.state.now) (c.loop-i.i + 1)
next c w e =
    rw (← e, c.loop-i.invariant)
    (stacked_next (held c.args.state.now) (valid c.requires.reachable).sq_class c.loop-i.i c.sq_at-q.ensures
    (c.is_candidate.ensures _ _ c.sq_at-q.ensures))

-- ---- the needs
pub overflow_shl-masks : goal.overflow_shl-masks
overflow_shl-masks c =
    low (goal.at.overflow_shl-masks c).After-sq_at-q

pub overflow_add-masks : goal.overflow_add-masks
overflow_add-masks c =
    let s = goal.at.overflow_add-masks c in
    rw (shl_one 64 _ (low s.After-sq_at-q), next s.After-is_candidate true c.if-is_candidate.true)
    (record { fits = stacked_fits _ (valid c.requires.reachable).sq_class _ (omega (arith, c.loop-i-test.true)) })

pub loop-i-preserved : goal.loop-i-preserved
loop-i-preserved c =
    let s = goal.at.loop-i-preserved c in
    elim c.if-is_candidate.branch [
      | then-is_candidate w ↦ rw (w.masks-is, shl_one 64 _ (low s.After-sq_at-q)) (next s.After-is_candidate true w.if-is_candidate.true)
      | else-is_candidate w ↦ rw w.masks-is (omega (arith, next s.After-is_candidate false w.if-is_candidate.false))
    ]
