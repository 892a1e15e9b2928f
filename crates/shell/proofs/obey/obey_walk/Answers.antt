-- `obey_walk` meets its contract. Assumes nothing.
use mathlib.Core.Path.{refl, sym}
use Prim.Native.Nat.{◌≤◌}
use native.Mathlib.Omega.{arith}
use lib.ListN.{length}
use lib.Seq.{length-take-le}
use Rattle.store.specs.Held.{held}
use Rattle.language.specs.Replies.{reply}
use Rattle.language.specs.Commands.{walked}
use Rattle.stateless.specs.Leaving.{firsts}
use Rattle.stateless.proofs.Sentences.{printed_as}
use Rattle.shell.proofs.Spoken.{lent_spoke, memory_stays}
use Rattle.shell.proofs.obey.obey_walk.Goals as goal
use Rattle.shell.proofs.obey.obey_walk.Goals.{Start}

-- what is lent lies in the memory
inside :
    (s : Start) → s.args.lent ≤ length s.args.memory.now
inside s =
    omega (arith, s.requires.0.sized, s.requires.0.inside)

pub slice_bounds-walk-end : goal.slice_bounds-walk-end
slice_bounds-walk-end c =
    sym (length-take-le _ _ (inside (goal.at.slice_bounds-walk-end c).Start))

pub walk-count-requires : goal.walk-count-requires
walk-count-requires c = (
  c.requires.1,
  c.requires.2,
  c.requires.3,
  c.requires.4,
)

pub say_first-requires : goal.say_first-requires
say_first-requires c = (
  c.walk-count.ensures.1,
  omega (
    arith,
    c.walk-count.ensures.1,
    c.walk-count.ensures.2,
    c.requires.2,
  ),
  c.requires.0.short,
  c.requires.0.room,
)

pub returns : goal.returns
returns c =
    let a = c.args in
    λ n. lent_spoke (held a.state.now) a.memory.now a.lent (λ d m. reply (walked m (firsts 6 0 a.a.now)) d m) refl
    (printed_as c.walk-count.ensures.0 (c.say_first.ensures n)) c.requires.0.reached c.requires.0.inside
    (memory_stays a.lent a.memory.now)
