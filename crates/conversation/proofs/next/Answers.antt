-- A step by which no line ends, and one by which a line is answered. Assumes nothing.
use Rattle.std.proofs.Common.{refl, sym, length-take-le}
use Rattle.conversation.specs.declared.Event.TheVariants.{Nothing, End, Failed}
use Rattle.conversation.proofs.Stepping.{line_inside, talks_none, talks_line}
use Rattle.conversation.proofs.next.Goals as goal

pub returns-in-Nothing : goal.returns-in-Nothing
returns-in-Nothing g c =
    let p = c.requires.kept in
    talks_none _ _ p.0 p.1 p.2 c.read-step.ensures _ Nothing c.in-Nothing.is refl tt c.without_line.ensures

pub returns-in-End : goal.returns-in-End
returns-in-End g c =
    let p = c.requires.kept in
    talks_none _ _ p.0 p.1 p.2 c.read-step.ensures _ End c.in-End.is refl tt c.without_line-in-End.ensures

pub returns-in-Failed : goal.returns-in-Failed
returns-in-Failed g c =
    let p = c.requires.kept in
    talks_none _ _ p.0 p.1 p.2 c.read-step.ensures _ (Failed c.in-Failed.error) c.in-Failed.is refl tt c.without_line-in-Failed.ensures

pub slice_bounds-answer-end : goal.slice_bounds-answer-end
slice_bounds-answer-end g c =
    let p = c.requires.kept in
    line_inside _ _ p.0 p.1 p.2 c.read-step.ensures c.in-Line.is

pub slice_bounds-answer-end-2 : goal.slice_bounds-answer-end-2
slice_bounds-answer-end-2 g c =
    let p = c.requires.kept in
    sym (length-take-le _ _ (line_inside _ _ p.0 p.1 p.2 c.read-step.ensures c.in-Line.is))

pub returns : goal.returns
returns g c =
    let p = c.requires.kept in
    talks_line _ _ p.0 p.1 p.2 c.read-step.ensures _ c.in-Line.length c.answer-shown.result c.in-Line.is c.answer-shown.ensures
