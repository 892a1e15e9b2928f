-- `obey` meets its contract: each command by its own function. Assumes nothing.
use mathlib.Core.Path.{refl, sym}
use native.Mathlib.Omega.{arith}
use lib.Seq.{length-take-le}
use Rattle.language.specs.Line.{obeyed}
use Rattle.shell.proofs.obey.obey.Goals as goal

pub obey_call-requires : goal.obey_call-requires
obey_call-requires c = (
  c.requires.ready.0,
  rw c.in-Call.is at c.requires.ready.1.narrow,
)

pub obey_on_part-requires : goal.obey_on_part-requires
obey_on_part-requires c = (
  c.requires.ready.0,
  rw c.in-OnPart.is at c.requires.ready.1.narrow,
)

pub obey_look-requires : goal.obey_look-requires
obey_look-requires c = (
  c.requires.ready.0,
  rw c.in-Look.is at c.requires.ready.1.narrow,
)

pub obey_lend-requires : goal.obey_lend-requires
obey_lend-requires c = (
  c.requires.ready.0,
  rw c.in-Lend.is at c.requires.ready.1.narrow,
  omega (
    arith,
    c.requires.numbers_len.0,
  ),
)

pub obey_poke-requires : goal.obey_poke-requires
obey_poke-requires c =
    let e = rw c.in-Poke.is at c.requires.ready.1.enough in (
      c.requires.ready.0,
      omega arith,
      omega (arith, e),
      c.requires.ready.1.held,
    )

pub obey_poke-requires-in-Poke64 : goal.obey_poke-requires-in-Poke64
obey_poke-requires-in-Poke64 c =
    let e = rw c.in-Poke64.is at c.requires.ready.1.enough in (
      c.requires.ready.0,
      omega arith,
      omega (arith, e),
      c.requires.ready.1.held,
    )

pub obey_peek-requires : goal.obey_peek-requires
obey_peek-requires c = (
  c.requires.ready.0,
  rw c.in-Peek.is at c.requires.ready.1.narrow,
)

pub obey_walk-requires : goal.obey_walk-requires
obey_walk-requires c = (
  c.requires.ready.0,
  rw c.in-Walk.is at c.requires.ready.1.narrow,
  c.requires.numbers_len.0,
  c.requires.numbers_len.1,
  c.requires.numbers_len.2,
)

pub slice_bounds-obey_replay-end-in-Replay : goal.slice_bounds-obey_replay-end-in-Replay
slice_bounds-obey_replay-end-in-Replay c =
    sym (length-take-le _ _ c.requires.numbers_len.3)

pub obey_replay-requires : goal.obey_replay-requires
obey_replay-requires c = (
  c.requires.ready.0,
  rw c.in-Replay.is at c.requires.ready.1.narrow,
  omega (
    arith,
    c.requires.numbers_len.2,
  ),
)

pub returns-in-Call : goal.returns-in-Call
unfolding obeyed
returns-in-Call c =
    let f = rw c.in-Call.is at c.requires.ready.1.fixed in
    rw (c.in-Call.is, f refl) c.obey_call.ensures

pub returns-in-OnPart : goal.returns-in-OnPart
unfolding obeyed
returns-in-OnPart c =
    let f = rw c.in-OnPart.is at c.requires.ready.1.fixed in
    rw (c.in-OnPart.is, f refl) c.obey_on_part.ensures

pub returns-in-Look : goal.returns-in-Look
unfolding obeyed
returns-in-Look c =
    let f = rw c.in-Look.is at c.requires.ready.1.fixed in
    rw (c.in-Look.is, f refl) c.obey_look.ensures

pub returns-in-Lend : goal.returns-in-Lend
unfolding obeyed
returns-in-Lend c =
    let f = rw c.in-Lend.is at c.requires.ready.1.fixed in
    rw (c.in-Lend.is, f refl) (c.obey_lend.ensures c.args.number)

pub returns-in-Poke : goal.returns-in-Poke
unfolding obeyed
returns-in-Poke c =
    rw c.in-Poke.is c.obey_poke.ensures

pub returns-in-Poke64 : goal.returns-in-Poke64
unfolding obeyed
returns-in-Poke64 c =
    rw c.in-Poke64.is c.obey_poke-in-Poke64.ensures

pub returns-in-Peek : goal.returns-in-Peek
unfolding obeyed
returns-in-Peek c =
    let f = rw c.in-Peek.is at c.requires.ready.1.fixed in
    rw (c.in-Peek.is, f refl) c.obey_peek.ensures

pub returns-in-Walk : goal.returns-in-Walk
unfolding obeyed
returns-in-Walk c =
    let f = rw c.in-Walk.is at c.requires.ready.1.fixed in
    rw (
      c.in-Walk.is,
      f refl,
    ) (c.obey_walk.ensures c.args.number)

pub returns-in-Replay : goal.returns-in-Replay
unfolding obeyed
returns-in-Replay c =
    let f = rw c.in-Replay.is at c.requires.ready.1.fixed in
    rw (
      c.in-Replay.is,
      f refl,
    ) (c.obey_replay.ensures c.args.number)
