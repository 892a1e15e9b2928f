-- `take_one` meets its contract: the lowest free tag and the next number, or none is left. Assumes nothing.
use Rattle.std.specs.Prelude.{Some}
use Prim.Native.Nat.{◌<◌}
use mathlib.Core.Path.{◌≡◌, sym, ap, ◌∙◌}
use native.Mathlib.Omega.{arith}
use borrow.Author.Rules.{rules}
use Rattle.bits.specs.Tags.{taken_one}
use Rattle.bits.proofs.Tags.{one_taken_lem}
use Rattle.store.specs.Held.{held}
use Rattle.starter.proofs.Takings.{one_refused, one_numberless, one_started}
use Rattle.starter.proofs.take.take_one.Goals as goal
use Rattle.starter.proofs.take.take_one.Goals.{In-Some}

-- the tag that is taken
taken :
    (c : In-Some) → taken_one (held c.args.state.now).free ≡ Some (c.in-Some.tag, c.in-Some.left)
taken c =
    sym (c.take_one.ensures.value ∙ ap taken_one c.free_of.ensures) ∙ c.in-Some.is

low :
    (c : In-Some) → c.in-Some.tag < 64
low c =
    (one_taken_lem _ (search rules) (sym c.take_one.ensures.value ∙ c.in-Some.is)).low

-- ---- the needs
pub returns-in_default : goal.returns-in_default
returns-in_default c =
    let sound = c.requires.1 in (
      sound,
      λ m. one_refused (held c.args.state.now) m _ _ _
          (sym (c.take_one.ensures.value ∙ ap taken_one c.free_of.ensures) ∙ c.in_default.is),
    )

pub returns-then-number-gt-LAST_NUMBER : goal.returns-then-number-gt-LAST_NUMBER
returns-then-number-gt-LAST_NUMBER c = (
  c.requires.1,
  λ m.
      one_numberless (held c.args.state.now) m _ _ _ (taken (goal.at.returns-then-number-gt-LAST_NUMBER c).In-Some)
      c.next_number-number.ensures c.if-number-gt-LAST_NUMBER.true,
)

pub overflow_cast-t : goal.overflow_cast-t
overflow_cast-t c =
    omega (arith, low (goal.at.overflow_cast-t c).In-Some)

pub put_command-requires : goal.put_command-requires
put_command-requires c =
    (low (goal.at.put_command-requires c).In-Some, c.pass-slot.ensures.1.sound)

pub returns : goal.returns
returns c = (
  c.leave.ensures.sound,
  λ m.
      one_started (held c.args.state.now) m _ _ _ (taken (goal.at.returns c).In-Some) c.in_use.ensures
      c.verdict_one-verdict.ensures c.pass-slot.ensures.0 c.next_number-number.ensures c.if-number-gt-LAST_NUMBER.false
      (held c.pass-slot.new.state) (held c.put_command.new.s) _
      c.pass-slot.ensures.1.is (rw c.command.ensures at c.put_command.ensures.is) c.leave.ensures.is,
)
