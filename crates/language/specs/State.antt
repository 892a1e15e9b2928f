-- The console's state.
use Rattle.std.specs.Prelude.{ℕ, ◌++◌, take, drop, replicate}
use Rattle.le.specs.Memory.{Memory}
use Rattle.controller.specs.Controller.{Controller}
use Rattle.controller.specs.State.{new_controller}
use Rattle.language.specs.Vocabulary.{memory_bytes}

-- one controller, a memory, and how many of its first bytes are lent to the calls
pub record Console : Type 0 where
  pub controller : Controller
  pub memory : Memory
  pub lent : ℕ

abbrev pub console : Controller → Memory → ℕ → Console
console c m n = record { controller = c; memory = m; lent = n }

-- "A memory of 1,048,576 bytes, at first all zero, of which a first part is lent to the calls: at first all of it. One controller: at
-- first that of `controller 0 0`."
unfoldable pub fresh_console : Console
fresh_console = console (new_controller 0 0) (replicate memory_bytes 0) memory_bytes

-- the part that is lent
abbrev pub lent_memory : Console → Memory
lent_memory s = take s.lent s.memory

-- a controller and the part that is lent in the place of those there; the rest of the memory stays
abbrev pub leaving : Console → Controller → Memory → Console
leaving s c m = console c (m ++ drop s.lent s.memory) s.lent
