-- `poke` meets its contract. Assumes nothing.
use mathlib.Core.Path.{refl}
use Prim.Native.Nat.{◌≤◌, ◌-◌, ◌/◌, ◌<◌}
use native.Mathlib.Omega.{arith}
use lib.ListN.{length}
use Rattle.stateless.proofs.Pokes.{values_length, values_over, values_fit, poke_begins_out, poke_ends_out, poke_put}
use Rattle.stateless.proofs.poke.poke.Goals as goal

pub returns-then-n-place : goal.returns-then-n-place
returns-then-n-place c =
    let a = c.args in
    let h : length a.memory.now < a.place = omega arith in
    ((λ d. poke_begins_out d a.memory.now a.width a.place a.values.now _ refl h), tt)

pub returns-then-memory-at : goal.returns-then-memory-at
returns-then-memory-at c =
    let a = c.args in
    let h : a.place ≤ length a.memory.now = omega arith in
    let j : (length a.memory.now - a.place) / a.width < length a.values.now = c.if-memory-at.true in (
      (λ d. poke_ends_out d a.memory.now a.width a.place a.values.now _ refl h (values_over _ a.width
          _ c.requires j)),
      tt,
    )

pub put_values-requires : goal.put_values-requires
put_values-requires c =
    let a = c.args in
    let j : length a.values.now ≤ (length a.memory.now - a.place) / a.width = c.if-memory-at.false in
    omega (
      arith,
      values_length a.width a.values.now,
      values_fit (length a.memory.now - a.place) a.width (length a.values.now) c.requires j,
    )

pub returns : goal.returns
returns c =
    let a = c.args in
    let h : a.place ≤ length a.memory.now = omega arith in
    let j : length a.values.now ≤ (length a.memory.now - a.place) / a.width = c.if-memory-at.false in
    let f = values_fit (length a.memory.now - a.place) a.width (length a.values.now) c.requires j in (
      (λ d. poke_put d a.memory.now a.width a.place a.values.now _ c.told.ensures.says.is h f c.put_values.ensures),
      c.told.ensures.says.few,
    )
