-- `say_records` meets its contract. Assumes nothing.
use mathlib.Core.List.{[], ◌∷◌}
use native.Mathlib.Omega.{arith}
use lib.ListN.{length}
use Rattle.stateless.proofs.Sentences.{sentence_fits}
use Rattle.stateful.proofs.trace_replay.say_records.Goals as goal
use Rattle.stateful.proofs.trace_replay.say_records.Goals.{Start}

pub say-requires : goal.say-requires
say-requires c =
    sentence_fits c.args.word.now (0 ∷ c.args.records ∷ []) c.args.answers.now (length c.args.out.now) c.requires.1
    (omega arith) c.requires.2

pub returns : goal.returns
returns c =
    c.say.ensures
