-- `byte_of` meets its contract. Assumes nothing.
use mathlib.Core.Path.{sym, ap, ◌∙◌}
use native.Mathlib.Omega.{arith}
use Rattle.std.specs.Prelude.{Some}
use Rattle.parse.proofs.Numerals.{digit_good, digit_bad}
use Rattle.parse.proofs.Reading.{byte_high, byte_low, byte_both}
use Rattle.parse.proofs.bytes.byte_of.Goals as goal

pub returns-in_err-h : goal.returns-in_err-h
returns-in_err-h c =
    let h = digit_bad 16 c.args.high (omega arith) c.in_err-h.ensures.value in
    c.from_residual.ensures ∙ sym (byte_high c.args.high c.args.low h)

pub returns-in_err-l : goal.returns-in_err-l
returns-in_err-l c =
    let v = c.in_ok-h.ensures.value in
    let h = digit_good 16 c.args.high (omega arith) v.0 in
    let l = digit_bad 16 c.args.low (omega arith) c.in_err-l.ensures.value in
    c.from_residual-in_err-l.ensures ∙ sym (byte_low c.args.high c.args.low (omega (arith, h, v.0)) l)

pub returns : goal.returns
returns c =
    let v = c.in_ok-h.ensures.value in
    let w = c.in_ok-l.ensures.value in
    let h = digit_good 16 c.args.high (omega arith) v.0 in
    let l = digit_good 16 c.args.low (omega arith) w.0 in
    ap Some (omega (arith, h, l, v.1, w.1)) ∙ sym (byte_both c.args.high c.args.low (omega (arith, h, v.0)) (omega (arith, l, w.0)))
