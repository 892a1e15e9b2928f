-- The number that a word writes.
use Rattle.std.specs.Prelude.{ℕ, ◌+◌, ◌-◌, ◌*◌, ◌^◌, Bool, true, ◌&&◌, List, [], ◌∷◌, ltb, leb, eqb, length, drop, get_or, Option, Some, None}
use Rattle.rules.specs.Rules.{pick}

abbrev within : ℕ → ℕ → ℕ → Bool
within a b n = leb a n && leb n b

-- what a digit stands for: 0 to 9, a to f, A to F; 16 where the byte is no digit
unfoldable pub digit : ℕ → ℕ
digit b = pick (within 48 57 b) (b - 48) (pick (within 97 102 b) (b - 97 + 10) (pick (within 65 70 b) (b - 65 + 10) 16))

-- every byte is a digit of the base
unfoldable pub digits_of : ℕ → List ℕ → Bool
digits_of base [] = true
digits_of base (b ∷ bs) = ltb (digit b) base && digits_of base bs

-- the value of digits, v being that of those before them
unfoldable pub value_on : ℕ → ℕ → List ℕ → ℕ
value_on base v [] = v
value_on base v (b ∷ bs) = value_on base (v * base + digit b) bs

-- the number, where they are digits and it is below 2^64
unfoldable pub number_on : ℕ → ℕ → List ℕ → Option ℕ
number_on base v bs = pick (digits_of base bs && ltb (value_on base v bs) (2 ^ 64)) (Some (value_on base v bs)) None

-- `0x` and something behind it
abbrev pub is_hex : List ℕ → Bool
is_hex w = ltb 2 (length w) && eqb (get_or w 0 0) 48 && eqb (get_or w 1 0) 120

-- "A number is decimal digits, or `0x` and hexadecimal digits of either case. Leading zeros are fine. No sign, no `_`, no `0X`."
unfoldable pub number_in : List ℕ → Option ℕ
number_in w = pick (eqb (length w) 0) None (pick (is_hex w) (number_on 16 0 (drop 2 w)) (number_on 10 0 w))

-- a number that is not above a largest
abbrev pub up_to : ℕ → Option ℕ → Option ℕ
up_to m (Some n) = pick (ltb m n) None (Some n)
up_to m None = None
