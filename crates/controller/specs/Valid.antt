-- What holds of every controller that came from a fresh one by calls.
use Rattle.std.specs.Prelude.{ℕ, ◌%◌, ◌≤◌, ◌<◌, ◌^◌, true, ◌≡◌, length}
use Rattle.controller.specs.declared.Ring.{Ring}
use Rattle.controller.specs.declared.Command.{Command}
use Rattle.controller.specs.Controller.{Controller}
use Rattle.controller.specs.State.{sq_at, cq_at, command_at, outstanding}

-- 2 to 1,024 entries, a head and a tail below that, and a base that is a multiple of 4,096
pub record RingOk (r : Ring) : Type 0 where
  pub low : 2 ≤ r.size
  pub high : r.size ≤ 1024
  pub head_below : r.head < r.size
  pub tail_below : r.tail < r.size
  pub aligned : r.base % 4096 ≡ 0

-- `first` and `second` are tags plus 1, and 0 for none
pub record CommandOk (k : Command) : Type 0 where
  pub sq_low : k.sq < 16
  pub verdict_low : k.verdict ≤ 32767
  pub first_low : k.first ≤ 64
  pub second_low : k.second ≤ 64

pub record Valid (c : Controller) : Type 0 where
  pub sqs_16 : length c.sqs ≡ 16
  pub cqs_16 : length c.cqs ≡ 16
  pub commands_64 : length c.commands ≡ 64
  pub free_64 : c.free < 2 ^ 64
  pub sq_ok : (i : ℕ) → (sq_at c i).ring.exists ≡ true → RingOk (sq_at c i).ring
  pub cq_ok : (i : ℕ) → (cq_at c i).ring.exists ≡ true → RingOk (cq_at c i).ring
  pub sq_cq : (i : ℕ) → (sq_at c i).ring.exists ≡ true → (cq_at c (sq_at c i).cq).ring.exists ≡ true
  pub sq_cq_low : (i : ℕ) → (sq_at c i).cq < 16
  pub sq_class : (i : ℕ) → (sq_at c i).class ≤ 3
  pub cq_phase : (i : ℕ) → (cq_at c i).phase ≤ 1
  pub command_ok : (t : ℕ) → CommandOk (command_at c t)
  pub command_sq : (t : ℕ) → outstanding c.free t ≡ true → (sq_at c (command_at c t).sq).ring.exists ≡ true
