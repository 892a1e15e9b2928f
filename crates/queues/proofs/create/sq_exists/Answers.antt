-- `sq_exists` meets its contract: past the last queue nothing exists. Assumes nothing.
use Prim.Native.Nat.{◌≤◌}
use mathlib.Core.Path.{sym, ap}
use native.Mathlib.Omega.{arith}
use lib.ListN.{length, get_or-eq_default}
use Rattle.std.proofs.lemmas.Bool.{lt-leb}
use Rattle.controller.specs.State.{no_sq}
use Rattle.store.specs.Held.{held}
use Rattle.store.proofs.Stores.{sqs_16}
use Rattle.queues.proofs.create.sq_exists.Goals as goal

pub returns-else-id-le-LAST_QUEUE : goal.returns-else-id-le-LAST_QUEUE
returns-else-id-le-LAST_QUEUE c =
    let a = c.args in
    let h : length (held a.state.now).sqs ≤ a.id = omega (arith, sqs_16 a.state.now) in
    rw (lt-leb a.id 15 c.if-id-le-LAST_QUEUE.false) (sym (ap (λ q. q.ring.exists) (get_or-eq_default (held a.state.now).sqs no_sq h)))
