-- What is known of a ring that is read.
use Rattle.std.specs.Prelude.{ℕ, ◌+◌, ◌*◌, ◌≤◌}
use Rattle.controller.specs.declared.Ring.{Ring}
use Rattle.controller.specs.Valid.{RingOk}

-- a sound ring that lies wholly in n bytes
pub record Inside (n : ℕ) (r : Ring) : Type 0 where
  pub ok : RingOk r
  pub within : r.base + 64 * r.size ≤ n
