-- `wanted_at` meets its contract. Assumes nothing.
use mathlib.Core.Path.{◌≡◌}
use Prim.Native.Nat.{◌+◌, ◌≤◌}
use native.Mathlib.Omega.{arith}
use lib.ListN.{length}
use Rattle.parse.specs.Line.{before}
use Rattle.form.proofs.Shows.{wanted_there, wanted_none}
use Rattle.form.proofs.wanted_at.Goals as goal

pub returns-then-line-comment-lt2 : goal.returns-then-line-comment-lt2
returns-then-line-comment-lt2 c =
    let l = c.args.line.now in
    let i = c.find-comment.result in
    let e : i ≡ before 35 l = omega (arith, c.find-comment.ensures.0) in
    let h : length l ≤ i + 2 = omega arith in
    (omega arith, wanted_none l i e h)

pub returns : goal.returns
returns c =
    let l = c.args.line.now in
    let i = c.find-comment.result in
    let e : i ≡ before 35 l = omega (arith, c.find-comment.ensures.0) in
    (omega arith, wanted_there l i e)
