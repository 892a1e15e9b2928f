-- `obey_replay` meets its contract. Assumes nothing.
use mathlib.Core.Path.{◌≡◌, refl, sym, ap, ◌∙◌}
use Prim.Native.Nat.{◌≤◌}
use native.Mathlib.Omega.{arith}
use lib.ListN.{length, take, get_or}
use lib.Seq.{length-take-le}
use Rattle.store.specs.Held.{held}
use Rattle.language.specs.Commands.{replayed}
use Rattle.stateless.proofs.Sentences.{printed_lent}
use Rattle.shell.proofs.Spoken.{lent_spoke}
use Rattle.stateful.proofs.Replays.{reply_of}
use Rattle.shell.proofs.obey.obey_replay.Goals as goal
use Rattle.shell.proofs.obey.obey_replay.Goals.{Start}

-- what is lent lies in the memory, and the room in its buffer
inside :
    (s : Start) → s.args.lent ≤ length s.args.memory.now
inside s =
    omega (arith, s.requires.0.sized, s.requires.0.inside)

room :
    (s : Start) → get_or s.args.a.now 0 0 ≤ length s.args.answers.now
room s =
    omega (arith, s.requires.1.0, s.requires.2)

pub slice_bounds-replay_trace-end : goal.slice_bounds-replay_trace-end
slice_bounds-replay_trace-end c =
    inside (goal.at.slice_bounds-replay_trace-end c).Start

pub slice_bounds-replay_trace-end-2 : goal.slice_bounds-replay_trace-end-2
slice_bounds-replay_trace-end-2 c =
    sym (length-take-le _ _ (inside (goal.at.slice_bounds-replay_trace-end-2 c).Start))

pub slice_bounds-replay_trace-end-3 : goal.slice_bounds-replay_trace-end-3
slice_bounds-replay_trace-end-3 c =
    room (goal.at.slice_bounds-replay_trace-end-3 c).Start

pub slice_bounds-replay_trace-end-4 : goal.slice_bounds-replay_trace-end-4
slice_bounds-replay_trace-end-4 c =
    sym (length-take-le _ _ (room (goal.at.slice_bounds-replay_trace-end-4 c).Start))

pub replay_trace-requires : goal.replay_trace-requires
replay_trace-requires c =
    let l = length-take-le (get_or c.args.a.now 0 0)
    c.args.answers.now (room (goal.at.replay_trace-requires c).Start) in (
      c.requires.0.reached,
      omega (
        arith,
        l,
        c.requires.1.0,
      ),
      c.requires.0.short,
      c.requires.0.room,
    )

pub returns : goal.returns
returns c =
    let a = c.args in
    let l = length-take-le (get_or a.a.now 0 0) a.answers.now (room (goal.at.returns c).Start) in
    let e = c.replay_trace.ensures in
    let f : replayed (held a.state.now) (take a.lent a.memory.now) (length (take (get_or a.a.now 0 0) a.answers.now))
    a.trace.now
    ≡ replayed (held a.state.now) (take a.lent a.memory.now) (get_or a.a.now 0 0) a.trace.now =
    ap (λ k. replayed (held a.state.now) (take a.lent a.memory.now) k a.trace.now) l in
    λ n. lent_spoke (held a.state.now) a.memory.now a.lent (λ d m. replayed d m (get_or a.a.now 0 0) a.trace.now)
    (reply_of e.1 e.2 ∙ f) (printed_lent (length-take-le a.lent a.memory.now (inside (goal.at.returns c).Start)) (e.0 n))
    e.3 c.requires.0.inside refl
