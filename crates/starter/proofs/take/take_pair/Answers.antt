-- `take_pair` meets its contract: the two lowest free tags and the next two numbers, or too few are left. Assumes nothing.
use Rattle.std.specs.Prelude.{Some}
use Prim.Native.Nat.{◌<◌}
use mathlib.Core.Path.{◌≡◌, sym, ap, ◌∙◌}
use native.Mathlib.Omega.{arith}
use borrow.Author.Rules.{rules}
use Rattle.bits.specs.Tags.{taken_two}
use Rattle.bits.proofs.Tags.{two_taken}
use Rattle.controller.specs.Starting.{used}
use Rattle.store.specs.Held.{held}
use Rattle.starter.proofs.Takings.{pair_refused, pair_numberless, pair_started}
use Rattle.starter.proofs.take.take_pair.Goals as goal
use Rattle.starter.proofs.take.take_pair.Goals.{In-Some}

-- the tags that are taken
taken :
    (c : In-Some) → taken_two (held c.args.state.now).free ≡ Some (c.in-Some.first, c.in-Some.second, c.in-Some.left)
taken c =
    sym (c.take_two.ensures.value ∙ ap taken_two c.free_of.ensures) ∙ c.in-Some.is

low :
    (c : In-Some) → (c.in-Some.first < 64) × (c.in-Some.second < 64)
low c =
    let w = two_taken _ (search rules) (sym c.take_two.ensures.value ∙ c.in-Some.is) in
    (w.first.low, w.second.low)

-- ---- the needs
pub returns-in_default : goal.returns-in_default
returns-in_default c = (
  c.requires.1,
  λ m. pair_refused (held c.args.state.now) m _ _ _ _
      (sym (c.take_two.ensures.value ∙ ap taken_two c.free_of.ensures) ∙ c.in_default.is),
)

pub returns-then-number-ge-LAST_NUMBER : goal.returns-then-number-ge-LAST_NUMBER
returns-then-number-ge-LAST_NUMBER c = (
  c.requires.1,
  λ m.
      pair_numberless (held c.args.state.now) m _ _ _ _ (taken (goal.at.returns-then-number-ge-LAST_NUMBER c).In-Some)
      c.next_number-number.ensures c.if-number-ge-LAST_NUMBER.true,
)

pub overflow_cast-t : goal.overflow_cast-t
overflow_cast-t c =
    omega (arith, (low (goal.at.overflow_cast-t c).In-Some).0)

pub overflow_cast-u : goal.overflow_cast-u
overflow_cast-u c =
    omega (arith, (low (goal.at.overflow_cast-u c).In-Some).1)

pub overflow_add-u : goal.overflow_add-u
overflow_add-u c =
    let w = low (goal.at.overflow_add-u c).In-Some in omega arith

pub put_command-requires : goal.put_command-requires
put_command-requires c =
    ((low (goal.at.put_command-requires c).In-Some).0, c.pass-slot.ensures.1.sound)

pub overflow_add-t : goal.overflow_add-t
overflow_add-t c =
    let w = low (goal.at.overflow_add-t c).In-Some in omega arith

pub put_command-requires-2 : goal.put_command-requires-2
put_command-requires-2 c =
    ((low (goal.at.put_command-requires-2 c).In-Some).1, c.put_command.ensures.sound)

pub returns : goal.returns
returns c =
    let a = c.args in
    let d = held a.state.now in (
      c.leave.ensures.sound,
      λ m.
          pair_started d m _ _ _ _ (taken (goal.at.returns c).In-Some)
          (c.verdict_pair-verdict.ensures (used d a.id a.e) (used d a.id a.f) c.in_use.ensures) c.pass-slot.ensures.0
          c.next_number-number.ensures c.if-number-ge-LAST_NUMBER.false
          (held c.pass-slot.new.state) (held c.put_command.new.s) (held c.put_command-2.new.s) _
          c.pass-slot.ensures.1.is (rw c.command.ensures at c.put_command.ensures.is) (rw c.command-2.ensures at c.put_command-2.ensures.is)
          c.leave.ensures.is,
    )
