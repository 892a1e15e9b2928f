-- `obey_on_part` meets its contract. Assumes nothing.
use mathlib.Core.Path.{refl, sym}
use Prim.Native.Nat.{◌≤◌}
use native.Mathlib.Omega.{arith}
use lib.ListN.{length}
use lib.Seq.{length-take-le}
use Rattle.language.specs.Vocabulary.{on_part_form}
use Rattle.language.specs.Commands.{parts_used}
use Rattle.stateless.specs.Leaving.{firsts}
use Rattle.store.specs.Held.{held}
use Rattle.shell.proofs.Spoken.{lent_spoke}
use Rattle.shell.proofs.obey.obey_on_part.Goals as goal
use Rattle.shell.proofs.obey.obey_on_part.Goals.{Start}

-- what is lent lies in the memory
inside :
    (s : Start) → s.args.lent ≤ length s.args.memory.now
inside s =
    omega (arith, s.requires.0.sized, s.requires.0.inside)

pub slice_bounds-in_memory-end : goal.slice_bounds-in_memory-end
slice_bounds-in_memory-end c =
    inside (goal.at.slice_bounds-in_memory-end c).Start

pub slice_bounds-in_memory-end-2 : goal.slice_bounds-in_memory-end-2
slice_bounds-in_memory-end-2 c =
    sym (length-take-le _ _ (inside (goal.at.slice_bounds-in_memory-end-2 c).Start))

pub say_reply-requires : goal.say_reply-requires
say_reply-requires c = (
  c.in_memory-reply.ensures.1,
  c.requires.0.short,
  c.requires.0.room,
)

pub returns : goal.returns
returns c =
    let a = c.args in
    lent_spoke (held a.state.now) a.memory.now a.lent
    (λ d m. parts_used d m a.k (firsts (length (on_part_form a.k)) 0 a.a.now))
    (c.in_memory-reply.ensures.0 (held a.state.now)) c.say_reply.ensures.printed
    c.requires.0.reached c.requires.0.inside refl
