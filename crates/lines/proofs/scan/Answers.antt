-- `scan` meets its contract. Assumes nothing.
use Rattle.std.proofs.Common.{Bool, sym, ap, arith, length-take-le}
use Rattle.rules.specs.Rules.{pick}
use Rattle.lines.specs.declared.Found.TheVariants.{Nothing, End}
use Rattle.lines.proofs.Stepped.{chunk_length, held_inside, scanned_line, scanned_rest}
use Rattle.lines.proofs.scan.Goals as goal

pub slice_bounds-gather-end : goal.slice_bounds-gather-end
slice_bounds-gather-end c =
    sym (chunk_length _ _ c.requires.0 c.requires.1)

pub gather-part-requires : goal.gather-part-requires
gather-part-requires c =
    let l = chunk_length _ c.args.chunk.now c.requires.0 c.requires.1 in
    (omega (arith, c.requires.0.place, l), c.requires.0.line, omega (arith, c.requires.2))

pub slice_bounds-without_cr-end : goal.slice_bounds-without_cr-end
slice_bounds-without_cr-end c =
    let g = c.gather-part.ensures in
    held_inside _ c.args.chunk.now c.requires.0 c.requires.1 _ _ c.requires.2 _ _ g.0 g.1 g.2

pub slice_bounds-without_cr-end-then-end-count : goal.slice_bounds-without_cr-end-then-end-count
slice_bounds-without_cr-end-then-end-count c =
    let g = c.gather-part.ensures in
    sym (length-take-le _ _ (held_inside _ c.args.chunk.now c.requires.0 c.requires.1 _ _ c.requires.2 _ _ g.0 g.1 g.2))

pub returns-then-end-count : goal.returns-then-end-count
returns-then-end-count c =
    let g = c.gather-part.ensures in
    scanned_line _ _ c.requires.0 c.requires.1 _ _ c.requires.2 _ _ g.0 g.1 g.2 c.if-end-count.true
    c.without_cr.ensures c.with_line.ensures

pub returns-then-lines : goal.returns-then-lines
returns-then-lines c =
    let g = c.gather-part.ensures in
    scanned_rest _ _ c.requires.0 c.requires.1 _ _ c.requires.2 _ _ g.0 g.1 g.2 Nothing c.if-end-count.false
    (ap (λ (b : Bool). pick b Nothing End) c.if-lines.true) c.without_line.ensures

pub returns : goal.returns
returns c =
    let g = c.gather-part.ensures in
    scanned_rest _ _ c.requires.0 c.requires.1 _ _ c.requires.2 _ _ g.0 g.1 g.2 End c.if-end-count.false
    (ap (λ (b : Bool). pick b Nothing End) c.if-lines.false) c.without_line-2.ensures
