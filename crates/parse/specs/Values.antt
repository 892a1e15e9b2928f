-- Values that are read from words, one after another, up to the first that is bad.
use Rattle.std.specs.Prelude.{ℕ, ◌+◌, ◌*◌, Bool, true, false, ◌&&◌, List, [], ◌∷◌, ◌++◌, ◌≡◌, ltb, length, Option, Some, None}
use Rattle.std.specs.Prelude.{Result, Ok, Err}
use Rattle.rules.specs.Rules.{pick}
use Rattle.print.specs.Put.{Put}
use Rattle.parse.specs.Numeral.{digit, number_in, up_to}

-- the values before the first that is bad, and whether none is
pub record Values : Type 0 where
  pub good : Bool
  pub list : List ℕ

abbrev pub all : List ℕ → Values
all vs = record { good = true; list = vs }

abbrev pub bad : Values
bad = record { good = false; list = [] }

-- values and others behind them, which are read where the first are good
unfoldable pub and_then : Values → Values → Values
and_then a b = pick a.good (record { good = b.good; list = a.list ++ b.list }) a

-- the values of words, one word after another
unfoldable pub of_each : (List ℕ → Values) → List (List ℕ) → Values
of_each f [] = all []
of_each f (w ∷ ws) = and_then (f w) (of_each f ws)

abbrev pub single : Option ℕ → Values
single (Some n) = all (n ∷ [])
single None = bad

-- the number of a word, up to a largest
abbrev pub number_up_to : ℕ → List ℕ → Values
number_up_to m w = single (up_to m (number_in w))

-- a number for each largest value; further words are left
unfoldable pub fixed_in : List ℕ → List (List ℕ) → Values
fixed_in [] ws = all []
fixed_in (m ∷ ms) [] = bad
fixed_in (m ∷ ms) (w ∷ ws) = and_then (number_up_to m w) (fixed_in ms ws)

-- any number of numbers up to a largest
abbrev pub numbers_in : ℕ → List (List ℕ) → Values
numbers_in m ws = of_each (number_up_to m) ws

-- the byte that two digits write
abbrev pub byte_of : ℕ → ℕ → Option ℕ
byte_of high low = pick (ltb (digit high) 16 && ltb (digit low) 16) (Some (16 * digit high + digit low)) None

-- the bytes of a word: "two hexadecimal digits of either case for each byte, without `0x`"
unfoldable pub bytes_of : List ℕ → Values
bytes_of [] = all []
bytes_of (b ∷ []) = bad
bytes_of (high ∷ low ∷ w) = and_then (single (byte_of high low)) (bytes_of w)

-- the bytes of words, joined
abbrev pub bytes_in : List (List ℕ) → Values
bytes_in ws = of_each bytes_of ws

-- what the code leaves of them in a buffer, from a place on, and its answer: the place after the last, and whether none is bad
pub record Stored (v : Values) (before : List ℕ) (place : ℕ) (after : List ℕ) (answer : Result ℕ ℕ) : Type 0 where
  pub put : Put before place v.list after (place + length v.list)
  pub answers : answer ≡ pick v.good (Ok (place + length v.list)) (Err (place + length v.list))
