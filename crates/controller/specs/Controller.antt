-- The state of one controller, as the definitions speak of it.
use Rattle.std.specs.Prelude.{ℕ, List}
use Rattle.arbiter.specs.declared.Arbiter.{Arbiter}
use Rattle.controller.specs.declared.SubmissionQueue.{SubmissionQueue}
use Rattle.controller.specs.declared.CompletionQueue.{CompletionQueue}
use Rattle.controller.specs.declared.Command.{Command}

-- Queues by id, commands by tag. Bit t of `free` is set where tag t is free; the commands at free tags mean nothing. `next_number` is the
-- start number of the next command that is taken.
pub record Controller : Type 0 where
  pub sqs : List SubmissionQueue
  pub cqs : List CompletionQueue
  pub commands : List Command
  pub free : ℕ
  pub arbiter : Arbiter
  pub next_number : ℕ
