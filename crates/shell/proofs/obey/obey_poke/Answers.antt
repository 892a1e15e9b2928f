-- `obey_poke` meets its contract. Assumes nothing.
use mathlib.Core.Path.{refl, sym, ◌∙◌}
use Prim.Native.Nat.{◌≤◌}
use native.Mathlib.Omega.{arith}
use lib.ListN.{length, take, drop, get_or}
use lib.Seq.{length-take-le}
use Rattle.store.specs.Held.{held}
use Rattle.language.specs.Commands.{poked}
use Rattle.shell.proofs.Spoken.{lent_spoke, values_behind, place_of}
use Rattle.shell.proofs.obey.obey_poke.Goals as goal
use Rattle.shell.proofs.obey.obey_poke.Goals.{Start}

-- what is lent lies in the memory
inside :
    (s : Start) → s.args.lent ≤ length s.args.memory.now
inside s =
    omega (arith, s.requires.0.sized, s.requires.0.inside)

pub slice_bounds-poke-end : goal.slice_bounds-poke-end
slice_bounds-poke-end c =
    inside (goal.at.slice_bounds-poke-end c).Start

pub slice_bounds-poke-end-2 : goal.slice_bounds-poke-end-2
slice_bounds-poke-end-2 c =
    sym (length-take-le _ _ (inside (goal.at.slice_bounds-poke-end-2 c).Start))

pub say_reply-requires : goal.say_reply-requires
say_reply-requires c = (
  c.poke-reply.ensures.1,
  c.requires.0.short,
  c.requires.0.room,
)

pub returns : goal.returns
returns c =
    let a = c.args in
    lent_spoke (held a.state.now) a.memory.now a.lent
    (λ d m. poked d m a.width (get_or (take a.count a.a.now) 0 0) (drop 1 (take a.count a.a.now)))
    (c.poke-reply.ensures.0 (held a.state.now)
    ∙ rw (
      place_of a.count a.a.now c.requires.2,
      values_behind a.count a.a.now c.requires.2,
    )) c.say_reply.ensures.printed
    c.requires.0.reached c.requires.0.inside refl
