-- `say_first` meets its contract. Assumes nothing.
use mathlib.Core.Path.{sym}
use mathlib.Core.List.{[]}
use native.Mathlib.Omega.{arith}
use lib.ListN.{length, take}
use lib.Seq.{length-take-le}
use Rattle.stateless.proofs.Sentences.{sentence_fits}
use Rattle.shell.proofs.obey.say_first.Goals as goal

pub slice_bounds-say-end : goal.slice_bounds-say-end
slice_bounds-say-end c =
    sym (length-take-le c.args.count c.args.a.now c.requires.1)

pub say-requires : goal.say-requires
say-requires c =
    let a = c.args in
    sentence_fits a.word.now (take a.count a.a.now) [] (length a.out.now) c.requires.2
    (omega (
      arith,
      length-take-le a.count a.a.now c.requires.1,
      c.requires.0,
    )) c.requires.3

pub returns : goal.returns
returns c =
    c.say.ensures
