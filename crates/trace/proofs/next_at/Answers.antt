-- `next_at` meets its contract: the smaller of 16 bytes on and the trace's end. Assumes nothing.
use native.Mathlib.Omega.{arith}
use Rattle.trace.specs.Trace.{next_at}
use Rattle.trace.proofs.next_at.Goals as goal

pub returns-then-trace-at : goal.returns-then-trace-at
unfolding next_at
returns-then-trace-at c =
    omega arith

pub returns-then-trace-at-lt-RECORD_BYTES : goal.returns-then-trace-at-lt-RECORD_BYTES
unfolding next_at
returns-then-trace-at-lt-RECORD_BYTES c =
    omega arith

pub returns : goal.returns
unfolding next_at
returns c =
    omega arith
