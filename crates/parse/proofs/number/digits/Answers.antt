-- `digits` meets its contract. Assumes nothing.
use mathlib.Core.Path.{◌≡◌, sym, ap, ◌∙◌}
use Prim.Native.Nat.{◌*◌, ◌≤◌, ◌+◌, ◌^◌}
use native.Mathlib.Omega.{arith}
use lib.ListN.{get_or, drop}
use Rattle.parse.specs.Numeral.{digit, number_on}
use Rattle.parse.proofs.Numerals.{number_end, number_bad_digit, number_too_large, number_more, digit_good, digit_bad}
use Rattle.parse.proofs.number.digits.Goals as goal

pub returns-in_err-digit : goal.returns-in_err-digit
returns-in_err-digit c =
    let a = c.args in
    let l = c.loop-b in
    let d = digit_bad a.base (get_or a.word.now l.b-index 0) c.requires.1 c.in_err-digit.ensures.value in
    c.from_residual.ensures ∙ sym (number_bad_digit a.base l.value a.word.now l.b-index c.loop-b-test.true d) ∙ l.invariant.1

pub returns-in_err-shifted : goal.returns-in_err-shifted
returns-in_err-shifted c =
    let a = c.args in
    let l = c.loop-b in
    let k : 2 ^ 64 ≤ l.value * a.base + digit (get_or a.word.now l.b-index 0) = omega (arith, c.in_err-shifted.ensures) in
    c.from_residual-in_err-shifted.ensures
    ∙ sym (number_too_large a.base l.value a.word.now l.b-index c.loop-b-test.true (omega arith) k) ∙ l.invariant.1

pub returns-in_err-value : goal.returns-in_err-value
returns-in_err-value c =
    let a = c.args in
    let l = c.loop-b in
    let v = c.in_ok-digit.ensures.value in
    let d = digit_good a.base (get_or a.word.now l.b-index 0) c.requires.1 v.0 in
    let k : 2 ^ 64 ≤ l.value * a.base + digit (get_or a.word.now l.b-index 0) =
    omega (arith, d, v.1, c.in_ok-shifted.ensures, c.in_err-value.ensures) in
    c.from_residual-in_err-value.ensures
    ∙ sym (number_too_large a.base l.value a.word.now l.b-index c.loop-b-test.true (omega arith) k) ∙ l.invariant.1

pub loop-b-preserved : goal.loop-b-preserved
loop-b-preserved c =
    let a = c.args in
    let l = c.loop-b in
    let v = c.in_ok-digit.ensures.value in
    let d = digit_good a.base (get_or a.word.now l.b-index 0) c.requires.1 v.0 in
    let e : c.in_ok-value.value ≡ l.value * a.base + digit (get_or a.word.now l.b-index 0) =
    omega (arith, d, v.1, c.in_ok-shifted.ensures, c.in_ok-value.ensures) in (
      omega (arith, c.in_ok-value.ensures),
      ap (λ x. number_on a.base x (drop (l.b-index + 1) a.word.now)) e
          ∙ sym (number_more a.base l.value a.word.now l.b-index c.loop-b-test.true (omega (arith, d, v.0))) ∙ l.invariant.1,
    )

pub returns : goal.returns
returns c =
    let l = c.loop-b in
    sym (number_end c.args.base l.value c.args.word.now l.b-index c.loop-b-test.false l.invariant.0) ∙ l.invariant.1
