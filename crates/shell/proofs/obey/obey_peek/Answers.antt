-- `obey_peek` meets its contract. Assumes nothing.
use mathlib.Core.Path.{refl, sym}
use Prim.Native.Nat.{◌≤◌}
use native.Mathlib.Omega.{arith}
use lib.ListN.{length, get_or}
use lib.Seq.{length-take-le}
use Rattle.language.specs.Replies.{reply}
use Rattle.language.specs.Commands.{peeked}
use Rattle.store.specs.Held.{held}
use Rattle.stateless.proofs.Sentences.{printed_lent}
use Rattle.shell.proofs.Spoken.{lent_spoke, memory_stays}
use Rattle.shell.proofs.obey.obey_peek.Goals as goal
use Rattle.shell.proofs.obey.obey_peek.Goals.{Start}

-- what is lent lies in the memory
inside :
    (s : Start) → s.args.lent ≤ length s.args.memory.now
inside s =
    omega (arith, s.requires.0.sized, s.requires.0.inside)

pub slice_bounds-peek-end : goal.slice_bounds-peek-end
slice_bounds-peek-end c =
    sym (length-take-le _ _ (inside (goal.at.slice_bounds-peek-end c).Start))

pub peek-requires : goal.peek-requires
peek-requires c = (
  c.requires.1,
  c.requires.0.short,
  c.requires.0.room,
)

pub returns : goal.returns
returns c =
    let a = c.args in
    lent_spoke (held a.state.now) a.memory.now a.lent (λ d m. reply (peeked m (get_or a.a.now 0 0) (get_or a.a.now 1 0))
    d m) refl
    (printed_lent (length-take-le a.lent a.memory.now (inside (goal.at.returns c).Start)) c.peek.ensures) c.requires.0.reached
    c.requires.0.inside
    (memory_stays a.lent a.memory.now)
