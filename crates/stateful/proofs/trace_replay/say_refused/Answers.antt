-- `say_refused` meets its contract. Assumes nothing.
use mathlib.Core.List.{[], ◌∷◌}
use native.Mathlib.Omega.{arith}
use lib.ListN.{length}
use Rattle.stateless.proofs.Sentences.{sentence_fits}
use Rattle.stateful.proofs.trace_replay.say_refused.Goals as goal

pub say-requires : goal.say-requires
say-requires c =
    sentence_fits c.args.word.now (c.number.result ∷ 0 ∷ []) [] (length c.args.out.now) c.requires.0 (omega arith) c.requires.1

pub returns : goal.returns
returns c =
    rw (c.number.ensures, c.number-2.ensures) at c.say.ensures
