-- `obey_call` meets its contract. Assumes nothing.
use mathlib.Core.Path.{refl, sym}
use Prim.Native.Nat.{◌≤◌}
use native.Mathlib.Omega.{arith}
use lib.ListN.{length}
use lib.Seq.{length-take-le}
use Rattle.language.specs.Vocabulary.{call_form}
use Rattle.language.specs.Commands.{calls_made}
use Rattle.stateless.specs.Leaving.{firsts}
use Rattle.store.specs.Held.{held}
use Rattle.shell.proofs.Spoken.{lent_spoke}
use Rattle.shell.proofs.obey.obey_call.Goals as goal
use Rattle.shell.proofs.obey.obey_call.Goals.{Start}

-- what is lent lies in the memory
inside :
    (s : Start) → s.args.lent ≤ length s.args.memory.now
inside s =
    omega (arith, s.requires.0.sized, s.requires.0.inside)

pub slice_bounds-call-end : goal.slice_bounds-call-end
slice_bounds-call-end c =
    inside (goal.at.slice_bounds-call-end c).Start

pub slice_bounds-call-end-2 : goal.slice_bounds-call-end-2
slice_bounds-call-end-2 c =
    sym (length-take-le _ _ (inside (goal.at.slice_bounds-call-end-2 c).Start))

pub say_reply-requires : goal.say_reply-requires
say_reply-requires c = (
  c.call-reply.ensures.2,
  c.requires.0.short,
  c.requires.0.room,
)

pub returns : goal.returns
returns c =
    let a = c.args in
    lent_spoke (held a.state.now) a.memory.now a.lent
    (λ d m. calls_made d m a.k (firsts (length (call_form a.k)) 0 a.a.now)) c.call-reply.ensures.0
    c.say_reply.ensures.printed c.call-reply.ensures.1
    c.requires.0.inside refl
