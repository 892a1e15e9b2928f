-- `store_word` meets its contract. Assumes nothing.
use mathlib.Core.Path.{sym, ◌∙◌}
use native.Mathlib.Omega.{arith}
use lib.ListN.{length-drop}
use Rattle.le.proofs.Parts.{rest_part}
use Rattle.parse.proofs.Storing.{begun, left_as, finished, failed, missing, one_more, one_bad}
use Rattle.parse.proofs.Reading.{bytes_over, bytes_odd, bytes_next}
use Rattle.parse.proofs.bytes.store_word.Goals as goal

pub loop-rest-init : goal.loop-rest-init
loop-rest-init c =
    (omega arith, begun _ _ _)

pub returns-in_err-b : goal.returns-in_err-b
returns-in_err-b c =
    let l = c.loop-rest in
    let n = bytes_next l.rest.now c.in-len2-up.len_at_least in
    let m = missing _ _ _ _ c.in_err-b.ensures.value c.from_residual.ensures.1 in
    rw m.1 (one_bad _ _ (left_as l.invariant.1 n) (sym c.byte_of.ensures ∙ m.0))

pub loop-rest-preserved : goal.loop-rest-preserved
loop-rest-preserved c =
    let l = c.loop-rest in
    let n = bytes_next l.rest.now c.in-len2-up.len_at_least in
    let more = one_more _ _ (left_as l.invariant.1 n) _ (sym c.byte_of.ensures ∙ c.in_ok-b.ensures.ok_part) in
    (rw (rest_part 2 l.rest.now) (omega (arith, length-drop 2 l.rest.now)), more)

pub returns-then-rest-ne0 : goal.returns-then-rest-ne0
returns-then-rest-ne0 c =
    let l = c.loop-rest in
    failed (left_as l.invariant.1 (bytes_odd l.rest.now c.if-rest-ne0.true c.in_default.len_below))

pub returns : goal.returns
returns c =
    let l = c.loop-rest in
    finished (left_as l.invariant.1 (bytes_over l.rest.now c.if-rest-ne0.false))
