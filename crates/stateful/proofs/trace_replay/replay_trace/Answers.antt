-- `replay_trace` meets its contract. Assumes nothing.
use mathlib.Core.Path.{◌≡◌, sym, ap}
use Prim.Native.Nat.{◌*◌}
use native.Mathlib.Omega.{arith}
use borrow.Author.Rules.{rules}
use lib.ListN.{length}
use lib.Seq.{length-take-le}
use Rattle.replay.proofs.Reaches.{reached_replay}
use Rattle.language.specs.Replies.{Reply}
use Rattle.stateless.proofs.Sentences.{printed_as}
use Rattle.stateful.proofs.Replays.{replay_records, replay_refused, records_inside}
use Rattle.stateful.proofs.trace_replay.replay_trace.Goals as goal

pub overflow_mul-end : goal.overflow_mul-end
overflow_mul-end c =
    let i = records_inside _ _ _ _ _ _ _ _ (rw c.in-Ok.is at c.replay.ensures.1) in
    omega (arith, i)

pub slice_bounds-say_records-end : goal.slice_bounds-say_records-end
slice_bounds-say_records-end c =
    records_inside _ _ _ _ _ _ _ _ (rw c.in-Ok.is at c.replay.ensures.1)

pub slice_bounds-say_records-end-in-Ok : goal.slice_bounds-say_records-end-in-Ok
slice_bounds-say_records-end-in-Ok c =
    sym (length-take-le _ _ (records_inside _ _ _ _ _ _ _ _ (rw c.in-Ok.is at
    c.replay.ensures.1)))

pub say_records-requires : goal.say_records-requires
say_records-requires c =
    let i = records_inside _ _ _ _ _ _ _ _ (rw c.in-Ok.is at c.replay.ensures.1) in
    let n : length c.replay.new.answers ≡ length c.args.answers.now = search rules in (
      omega (
        arith,
        i,
        n,
        length-take-le (16 * c.in-Ok.n) c.replay.new.answers i,
        c.requires.1,
      ),
      c.requires.2,
      c.requires.3,
    )

pub returns-in-Ok : goal.returns-in-Ok
returns-in-Ok c =
    let e = replay_records _ _ _ _ _ _ _ _ (rw c.in-Ok.is at c.replay.ensures.1) in (
      (λ n. printed_as (ap (λ (x : Reply). x.says) (sym e)) (c.say_records.ensures n)),
      ap (λ (x : Reply). x.controller) (sym e),
      ap (λ (x : Reply). x.memory) (sym e),
      reached_replay _ _ _ c.requires.0 c.replay.ensures.0 c.replay.ensures.1,
    )

pub returns-in-Err : goal.returns-in-Err
returns-in-Err c =
    let e = replay_refused _ _ _ _ _ _ _ _ (rw c.in-Err.is at c.replay.ensures.1) in (
      (λ n. printed_as (ap (λ (x : Reply). x.says) (sym e)) (c.say_refused.ensures n)),
      ap (λ (x : Reply). x.controller) (sym e),
      ap (λ (x : Reply). x.memory) (sym e),
      reached_replay _ _ _ c.requires.0 c.replay.ensures.0 c.replay.ensures.1,
    )
