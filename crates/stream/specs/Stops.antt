-- Which errors end a call.
use Rattle.std.specs.Prelude.{ℕ, ◌^◌, ◌<◌, ◌≡◌, ◌||◌, Bool, eqb, ℤ, pos, negsuc}
use Rattle.stream.specs.declared.Errno.{Errno}

-- the number of an error, 0 for none
abbrev pub number_of : ℤ → ℕ
number_of (pos n) = n
number_of (negsuc n) = 0

-- no error; or 4, EINTR, or 11, EAGAIN, for which a call is made again
abbrev pub passes : ℕ → Bool
passes n = eqb n 0 || eqb n 4 || eqb n 11

-- an error that may stop a run: never 4, EINTR
abbrev pub Stops : Errno → Type 0
Stops e = (0 < e.number) × (e.number < 2 ^ 31) × (e.number ≡ 4 → ⊥)
