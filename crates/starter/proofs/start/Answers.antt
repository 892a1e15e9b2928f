-- `start` meets its contract. Assumes nothing.
use Rattle.std.specs.Prelude.{Some, None}
use Prim.Native.Nat.{◌<◌}
use mathlib.Core.Path.{◌≡◌, sym, ◌∙◌}
use native.Mathlib.Omega.{arith}
use lib.ListN.{length}
use Rattle.arbiter.specs.Arbiter.{choice}
use Rattle.controller.specs.State.{sq_at}
use Rattle.controller.specs.Starting.{candidates, take_from, start}
use Rattle.controller.proofs.Validity.{valid}
use Rattle.store.specs.Held.{held}
use Rattle.starter.specs.Inside.{Inside}
use Rattle.starter.proofs.Takings.{start_outside, start_chosen, from_one, from_pair, ready}
use Rattle.starter.proofs.start.Goals as goal
use Rattle.starter.proofs.start.Goals.{In-Some}

-- the queue that the arbiter names
chosen :
    (c : In-Some) → let d = held c.args.state.now in choice d.arbiter (candidates d) ≡ Some (c.in-Some.id, c.in-Some.next)
chosen c =
    rw (← c.candidates_of-found.ensures, ← c.arbiter_of-arbiter.ensures) (sym c.choose.ensures.value ∙ c.in-Some.is)

-- it exists, and its ring is sound and lies in the memory
known :
    (c : In-Some) → (c.in-Some.id < 16) × Inside (length c.args.memory.now) (sq_at (held c.args.state.now) c.in-Some.id).ring
known c =
    ready _ _ (valid c.requires.reachable) (sym c.rings_outside.ensures ∙ c.if-rings_outside.false) (chosen c)

-- what is taken from it is what the start takes
taken :
    (c : In-Some)
    → let d = held c.args.state.now in
    take_from d c.args.memory.now (Some (c.in-Some.id, c.in-Some.next)) ≡ start d c.args.memory.now
taken c =
    start_chosen (held c.args.state.now) _ (sym c.rings_outside.ensures ∙ c.if-rings_outside.false) (chosen c)

-- ---- the needs
pub returns-then-rings_outside : goal.returns-then-rings_outside
returns-then-rings_outside c =
    (c.requires.sound, start_outside (held c.args.state.now) _ (sym c.rings_outside.ensures ∙ c.if-rings_outside.true))

pub returns-in_default : goal.returns-in_default
returns-in_default c =
    let e = sym c.choose.ensures.value ∙ c.in_default.is in (
      c.requires.sound,
      start_chosen (held c.args.state.now) _ (sym c.rings_outside.ensures ∙ c.if-rings_outside.false) {x = None}
          (rw (← c.candidates_of-found.ensures, ← c.arbiter_of-arbiter.ensures) e),
    )

pub overflow_cast-sq : goal.overflow_cast-sq
overflow_cast-sq c =
    omega (arith, (known (goal.at.overflow_cast-sq c).In-Some).0)

pub sq_at-q-requires : goal.sq_at-q-requires
sq_at-q-requires c =
    (known (goal.at.sq_at-q-requires c).In-Some).0

pub first_entry-first-requires : goal.first_entry-first-requires
first_entry-first-requires c =
    rw c.sq_at-q.ensures (known (goal.at.first_entry-first-requires c).In-Some).1

pub is_pair-requires : goal.is_pair-requires
is_pair-requires c =
    rw c.sq_at-q.ensures (known (goal.at.is_pair-requires c).In-Some).1

pub second_entry-requires : goal.second_entry-requires
second_entry-requires c =
    rw c.sq_at-q.ensures (known (goal.at.second_entry-requires c).In-Some).1

pub take_pair-requires : goal.take_pair-requires
take_pair-requires c =
    let k = known (goal.at.take_pair-requires c).In-Some in
    (k.0, c.requires.sound, k.1.ok)

pub returns-then-is_pair : goal.returns-then-is_pair
returns-then-is_pair c =
    let t = c.take_pair.ensures in (
      t.0,
      from_pair (held c.args.state.now) _ _ _ c.sq_at-q.ensures c.is_pair.ensures c.first_entry-first.ensures c.if-is_pair.true
          c.second_entry.ensures (t.1 _)
          ∙ taken (goal.at.returns-then-is_pair c).In-Some,
    )

pub take_one-requires : goal.take_one-requires
take_one-requires c =
    let k = known (goal.at.take_one-requires c).In-Some in
    (k.0, c.requires.sound, k.1.ok)

pub returns : goal.returns
returns c =
    let t = c.take_one.ensures in (
      t.0,
      from_one (held c.args.state.now) _ _ _ c.sq_at-q.ensures c.is_pair.ensures c.first_entry-first.ensures c.if-is_pair.false (t.1 _)
          ∙ taken (goal.at.returns c).In-Some,
    )
