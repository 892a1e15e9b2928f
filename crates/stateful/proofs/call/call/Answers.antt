-- `call` meets its contract. Assumes nothing.
use mathlib.Core.List.{[]}
use native.Mathlib.Omega.{arith}
use Rattle.rules.specs.Refusal.{by_number}
use Rattle.controller.specs.Calls as calls
use Rattle.controller.specs.Calls.{of_started, of_finished}
use Rattle.store.proofs.Fresh.{reached_new, reached_call}
use Rattle.language.specs.Commands.{calls_made, start_numbers, finish_numbers}
use Rattle.stateful.proofs.Made.{call_made, calling_made}
use Rattle.stateful.proofs.call.call.Goals as goal

pub overflow_cast-a : goal.overflow_cast-a
overflow_cast-a c =
    let n = rw c.in-Controller.is at c.requires.1 in
    omega (arith, n.1.0)

pub overflow_cast-a-in-Finish : goal.overflow_cast-a-in-Finish
overflow_cast-a-in-Finish c =
    let n = rw c.in-Finish.is at c.requires.1 in
    omega (arith, n.1.1.0)

pub returns-in-Controller : goal.returns-in-Controller
unfolding calls_made
returns-in-Controller c =
    let e = c.reset.ensures in (
      rw (c.in-Controller.is, c.changed.ensures, c.code.ensures, ← e.0, ← e.1.is),
      reached_new _ _ e.1,
      rw c.changed.ensures (omega arith),
    )

pub returns-in-CreateCq : goal.returns-in-CreateCq
unfolding calls_made
returns-in-CreateCq c =
    let e = c.create_cq.ensures in (
      rw c.in-CreateCq.is (call_made _ _ _ _ (calls.create_cq _ _ _) _ c.code-in-CreateCq.ensures c.changed-in-CreateCq.ensures e.1),
      reached_call _ (calls.create_cq _ _ _) c.requires.0
          e.0 e.1,
      rw c.changed-in-CreateCq.ensures (omega arith),
    )

pub returns-in-CreateSq : goal.returns-in-CreateSq
unfolding calls_made
returns-in-CreateSq c =
    let e = c.create_sq.ensures in (
      rw c.in-CreateSq.is (call_made _ _ _ _
          (calls.create_sq _ _ _ _ _) _ c.code-in-CreateSq.ensures c.changed-in-CreateSq.ensures e.1),
      reached_call _ (calls.create_sq _ _ _ _ _) c.requires.0 e.0 e.1,
      rw c.changed-in-CreateSq.ensures (omega arith),
    )

pub returns-in-DeleteCq : goal.returns-in-DeleteCq
unfolding calls_made
returns-in-DeleteCq c =
    let e = c.delete_cq.ensures in (
      rw c.in-DeleteCq.is (call_made _ _ _ _ (calls.delete_cq _) _ c.code-in-DeleteCq.ensures c.changed-in-DeleteCq.ensures (e.1 _)),
      reached_call [] (calls.delete_cq _) c.requires.0 e.0 (e.1 []),
      rw c.changed-in-DeleteCq.ensures (omega arith),
    )

pub returns-in-DeleteSq : goal.returns-in-DeleteSq
unfolding calls_made
returns-in-DeleteSq c =
    let e = c.delete_sq.ensures in (
      rw c.in-DeleteSq.is (call_made _ _ _ _ (calls.delete_sq _) _ c.code-in-DeleteSq.ensures c.changed-in-DeleteSq.ensures (e.1 _)),
      reached_call [] (calls.delete_sq _) c.requires.0 e.0 (e.1 []),
      rw c.changed-in-DeleteSq.ensures (omega arith),
    )

pub returns-in-Tail : goal.returns-in-Tail
unfolding calls_made
returns-in-Tail c =
    let e = c.tail_write.ensures in (
      rw c.in-Tail.is (call_made _ _ _ _ (calls.tail_write _ _) _ c.code-in-Tail.ensures c.changed-in-Tail.ensures (e.1 _)),
      reached_call [] (calls.tail_write _ _) c.requires.0 e.0 (e.1 []),
      rw c.changed-in-Tail.ensures (omega arith),
    )

pub returns-in-Head : goal.returns-in-Head
unfolding calls_made
returns-in-Head c =
    let e = c.head_write.ensures in (
      rw c.in-Head.is (call_made _ _ _ _ (calls.head_write _ _) _ c.code-in-Head.ensures c.changed-in-Head.ensures (e.1 _)),
      reached_call [] (calls.head_write _ _) c.requires.0 e.0 (e.1 []),
      rw c.changed-in-Head.ensures (omega arith),
    )

pub returns-in-Start : goal.returns-in-Start
unfolding calls_made
returns-in-Start c =
    let e = c.start.ensures in (
      rw c.in-Start.is (calling_made start_numbers (of_started (by_number c.start.result)) _
          _ _ _ calls.start c.started.result c.started.ensures.is e.1),
      reached_call _ calls.start c.requires.0 e.0 e.1,
      c.started.ensures.few,
    )

pub returns-in-Finish : goal.returns-in-Finish
unfolding calls_made
returns-in-Finish c =
    let e = c.finish.ensures in (
      rw c.in-Finish.is
          (calling_made finish_numbers (of_finished (by_number c.finish.result)) _ _ _ _ (calls.finish _ _ _)
          c.finished.result c.finished.ensures.is e.1),
      reached_call _ (calls.finish _ _ _) c.requires.0 e.0 e.1,
      c.finished.ensures.few,
    )
