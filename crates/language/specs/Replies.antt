-- What commands say.
use Rattle.std.specs.Prelude.{ℕ, Bool, true, false, List, [], ◌++◌, get_or}
use Rattle.le.specs.Memory.{Memory}
use Rattle.controller.specs.Controller.{Controller}
use Rattle.print.specs.Text.{numbers, hex_word, line_end, bad_line}

-- what stands behind a command's word: numbers, and bytes; beside them the number by which a change that was asked for, of the controller
-- or of an entry, was refused, 0 for none. Or the line is a bad one
pub data Said : Type 0 where
  say : (refusal : ℕ) (numbers bytes : List ℕ) → Said
  bad : Said

-- numbers, of which nothing was asked but to tell them
abbrev pub told : List ℕ → Said
told ns = say 0 ns []

-- those of a change: the first is its refusal
abbrev pub changed : List ℕ → Said
changed ns = say (get_or ns 0 0) ns []

abbrev pub is_good : Said → Bool
is_good (say refusal ns bs) = true
is_good bad = false

abbrev pub refusal_of : Said → ℕ
refusal_of (say refusal ns bs) = refusal
refusal_of bad = 0

-- "the command's word, then numbers in decimal, one space between, LF", bytes in hexadecimal behind them where there are some
abbrev pub sentence : List ℕ → List ℕ → List ℕ → List ℕ
sentence word ns bs = word ++ (numbers ns ++ (hex_word bs ++ line_end))

-- the answer to line n, given its word
abbrev pub texted : List ℕ → ℕ → Said → List ℕ
texted word n (say refusal ns bs) = sentence word ns bs
texted word n bad = bad_line n

-- what a command comes to, with the controller and the lent memory that it leaves
pub record Reply : Type 0 where
  pub says : Said
  pub controller : Controller
  pub memory : Memory

abbrev pub reply : Said → Controller → Memory → Reply
reply s c m = record { says = s; controller = c; memory = m }
