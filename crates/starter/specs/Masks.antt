-- The candidates of each class in one number.
use Rattle.std.specs.Prelude.{ℕ, ◌+◌, ◌*◌}
use Rattle.bits.specs.Bits.{mask_of}
use Rattle.controller.specs.Controller.{Controller}
use Rattle.controller.specs.Starting.{class_at}

-- four masks of 16 bits, one above another
abbrev pub stack : ℕ → ℕ → ℕ → ℕ → ℕ
stack urgent high medium low = urgent + 65536 * (high + 65536 * (medium + 65536 * low))

-- those of the candidates of classes 0 to 3 among the queues below n
unfoldable pub stacked : Controller → ℕ → ℕ
stacked c n = stack (mask_of (class_at c 0) n) (mask_of (class_at c 1) n) (mask_of (class_at c 2) n) (mask_of (class_at c 3) n)
