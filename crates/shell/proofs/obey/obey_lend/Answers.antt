-- `obey_lend` meets its contract. Assumes nothing.
use mathlib.Core.Path.{refl, sym, ap}
use native.Mathlib.Omega.{arith}
use Rattle.language.specs.Replies.{told}
use Rattle.stateless.proofs.Sentences.{printed_as, firsts_are}
use Rattle.shell.proofs.obey.obey_lend.Goals as goal

pub say_first-requires : goal.say_first-requires
say_first-requires c = (
  omega arith,
  c.requires.2,
  c.requires.0.short,
  c.requires.0.room,
)

pub returns : goal.returns
returns c =
    let a = c.args in
    λ n. record {
      printed = printed_as (ap told (sym (firsts_are 1 a.a.now c.requires.2))) (c.say_first.ensures n);
      controller = refl;
      memory = refl;
      reached = c.requires.0.reached;
      inside = c.requires.1.0;
    }
