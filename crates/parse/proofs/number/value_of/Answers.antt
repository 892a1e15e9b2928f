-- `value_of` meets its contract. Assumes nothing.
use mathlib.Core.Path.{◌≡◌, sym, ap, ◌∙◌}
use Prim.Native.Nat.{◌-◌, ◌≤◌}
use native.Mathlib.Nat.{le_of_eq}
use native.Mathlib.Omega.{arith}
use borrow.Author.Rules.{rules}
use lib.ListN.{length, drop, length-drop}
use lib.Seq.{take_all}
use Rattle.parse.specs.Numeral.{number_on}
use Rattle.parse.proofs.Numerals.{hex_long, value_none, value_hex, value_decimal}
use Rattle.parse.proofs.number.value_of.Goals as goal
use Rattle.parse.proofs.number.value_of.Goals.{Then-is_hex}

pub returns-then-word-eq0 : goal.returns-then-word-eq0
returns-then-word-eq0 c =
    let w = c.args.word.now in
    let h : length w ≡ 0 = omega arith in
    sym (value_none w h)

long :
    (c : Then-is_hex) → 3 ≤ length c.args.word.now
long c =
    hex_long c.args.word.now (sym c.is_hex.ensures ∙ c.if-is_hex.true)

pub returns-then-is_hex : goal.returns-then-is_hex
returns-then-is_hex c =
    let w = c.args.word.now in
    let i = c.is_hex in
    c.digits.ensures ∙ ap (λ x. number_on 16 0 x) (take_all (length w - 2) (drop 2 w) (le_of_eq (length-drop 2 w)))
    ∙ sym (value_hex w (λ e. omega arith) (sym i.ensures ∙ c.if-is_hex.true))

pub returns : goal.returns
returns c =
    let w = c.args.word.now in
    let i = c.is_hex in
    c.digits-2.ensures ∙ sym (value_decimal w (λ e. omega arith) (sym i.ensures ∙ c.if-is_hex.false))

pub slice_bounds-digits-count : goal.slice_bounds-digits-count
slice_bounds-digits-count c =
    omega (arith, long c)

pub slice_bounds-digits-start : goal.slice_bounds-digits-start
slice_bounds-digits-start c =
    let h = long c in search rules

pub slice_bounds-digits-end : goal.slice_bounds-digits-end
slice_bounds-digits-end c =
    let h = long c in search rules
