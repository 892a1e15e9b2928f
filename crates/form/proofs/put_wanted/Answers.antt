-- `put_wanted` meets its contract. Assumes nothing.
use mathlib.Core.Path.{◌∙◌}
use native.Mathlib.Omega.{arith}
use Rattle.le.proofs.Parts.{rest_part}
use Rattle.print.proofs.Puts.{put_length}
use Rattle.form.proofs.Shows.{room_wanted, put_compared}
use Rattle.form.proofs.put_wanted.Goals as goal

pub put-bar-requires : goal.put-bar-requires
put-bar-requires c =
    let i = rest_part c.wanted_at-from.result c.args.line.now ∙ c.wanted_at-from.ensures.1 in
    let r =
    room_wanted c.args.out.now c.args.line.now _ _ c.requires.0 c.requires.1 _ _ i c.is_same-same.ensures c.requires.2 in
    omega (arith, r)

pub put-to-requires : goal.put-to-requires
put-to-requires c =
    let i = rest_part c.wanted_at-from.result c.args.line.now ∙ c.wanted_at-from.ensures.1 in
    let r =
    room_wanted c.args.out.now c.args.line.now _ _ c.requires.0 c.requires.1 _ _ i c.is_same-same.ensures c.requires.2 in
    omega (arith, r, c.put-bar.ensures.ends, put_length c.put-bar.ensures)

pub put_verdict-requires : goal.put_verdict-requires
put_verdict-requires c =
    let i = rest_part c.wanted_at-from.result c.args.line.now ∙ c.wanted_at-from.ensures.1 in
    let r =
    room_wanted c.args.out.now c.args.line.now _ _ c.requires.0 c.requires.1 _ _ i c.is_same-same.ensures c.requires.2 in
    let p = c.put-bar.ensures in
    let q = c.put-to.ensures in
    omega (arith, r, p.ends, put_length p, q.ends, put_length q)

pub returns : goal.returns
returns c =
    let i = rest_part c.wanted_at-from.result c.args.line.now ∙ c.wanted_at-from.ensures.1 in
    put_compared _ _ _ _ c.requires.0 c.requires.1 _ _ i c.is_same-same.ensures c.put-bar.ensures c.put-to.ensures
    c.put_verdict.ensures
