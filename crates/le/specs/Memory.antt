-- A part of a memory, and a memory with bytes put in.
use Rattle.std.specs.Prelude.{ℕ, ◌+◌, ◌<◌, List, ◌++◌, length, take, drop, get_or}

-- "Memory is one lent byte slice, and an address is an offset in it."
abbrev pub Memory : Type 0
Memory = List ℕ

-- the n bytes from place on
unfoldable pub part : List ℕ → ℕ → ℕ → List ℕ
part m place n = take n (drop place m)

-- the memory with the bytes b in place of those from place on
unfoldable pub put : List ℕ → ℕ → List ℕ → List ℕ
put m place b = take place m ++ (b ++ drop (place + length b) m)

-- every element is a byte, as the code's type says
abbrev pub Bytes : List ℕ → Type 0
Bytes m = (i : ℕ) → get_or m i 0 < 256
