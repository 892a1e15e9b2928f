-- What is printed: texts, as lists of bytes.
use Rattle.std.specs.Prelude.{ℕ, zero, suc, ◌+◌, ◌/◌, ◌%◌, List, [], ◌∷◌, ◌++◌, ltb, get_or}
use Prim.Native.Char.{code}
use Prim.Native.String as s
use Rattle.rules.specs.Rules.{pick}

-- the bytes of a literal
abbrev pub bytes : s.String → List ℕ
bytes s.[] = []
bytes (s.◌∷◌ x xs) = code x ∷ bytes xs

-- the last digits of n in decimal, at most k of them, without leading zeros
unfoldable pub decimal_in : ℕ → ℕ → List ℕ
decimal_in zero n = []
decimal_in (suc k) n = pick (ltb n 10) ((48 + n) ∷ []) (decimal_in k (n / 10) ++ ((48 + n % 10) ∷ []))

-- a number in decimal: none below 2^64 has more than 20 digits
abbrev pub decimal : ℕ → List ℕ
decimal n = decimal_in 20 n

-- a space and a number
abbrev pub next : ℕ → List ℕ
next n = 32 ∷ decimal n

-- the texts of values, one behind the other
unfoldable pub each : (ℕ → List ℕ) → List ℕ → List ℕ
each f [] = []
each f (x ∷ xs) = f x ++ each f xs

-- numbers, a space before each
abbrev pub numbers : List ℕ → List ℕ
numbers ns = each next ns

unfoldable pub hex_digit : ℕ → ℕ
hex_digit n = get_or (bytes "0123456789abcdef") n 0

abbrev pub hex_byte : ℕ → List ℕ
hex_byte b = hex_digit (b / 16) ∷ hex_digit (b % 16) ∷ []

-- bytes in hexadecimal, two lowercase digits each
abbrev pub hex : List ℕ → List ℕ
hex bs = each hex_byte bs

-- a space and bytes in hexadecimal; nothing where there are none
abbrev pub hex_word : List ℕ → List ℕ
hex_word [] = []
hex_word (b ∷ bs) = 32 ∷ hex (b ∷ bs)

-- the end of a line
abbrev pub line_end : List ℕ
line_end = 10 ∷ []

-- "A bad line is answered `? LINE`"
abbrev pub bad_line : ℕ → List ℕ
bad_line n = bytes "?" ++ (next n ++ line_end)
