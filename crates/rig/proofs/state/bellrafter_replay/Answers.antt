-- `bellrafter_replay` meets its contract. Assumes nothing.
use mathlib.Core.Path.{ap, sym, ◌∙◌}
use Rattle.rules.specs.Refusal.{by_number}
use Rattle.replay.specs.Replay.{replay_answer}
use Rattle.rig.specs.Numbers.{replay_numbers}
use Rattle.rig.proofs.Exports.{replayed}
use Rattle.rig.proofs.state.bellrafter_replay.Goals as goal

pub returns-in-Ok : goal.returns-in-Ok
returns-in-Ok c =
    let q = c.replay.ensures in
    let p = replayed q.0 q.1 in
    (ap (λ x. replay_numbers (replay_answer (by_number x))) (sym c.in-Ok.is) ∙ p.0, p.1, p.2, p.3)

pub returns-in-Err : goal.returns-in-Err
returns-in-Err c =
    let q = c.replay.ensures in
    let p = replayed q.0 q.1 in
    (rw c.number.ensures (ap (λ x. replay_numbers (replay_answer (by_number x))) (sym c.in-Err.is) ∙ p.0), p.1, p.2, p.3)
