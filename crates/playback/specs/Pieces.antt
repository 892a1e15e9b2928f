-- The pieces of a trace, as they are read.
use Rattle.std.specs.Prelude.{ℕ, ◌+◌, ◌-◌, ◌%◌, ◌^◌, is_some}
use Rattle.rules.specs.Rules.{pick}
use Rattle.stream.specs.declared.Filled.{Filled}

-- how many bytes of what was read are replayed: where an error stopped it, whole records only
abbrev pub taken_of : Filled → ℕ
taken_of f = pick (is_some f.error) (f.count - f.count % 16) f.count

-- the number of the record that comes after n and m more, in 64 bits
abbrev pub number_after : ℕ → ℕ → ℕ
number_after n m = (n + m + 1) % 2 ^ 64
