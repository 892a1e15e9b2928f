-- What the words after a command give.
use Rattle.std.specs.Prelude.{ℕ, Bool, true, false, List, [], ◌∷◌, ◌++◌, ◌≡◌, ◌≤◌, length, drop, Result, Ok, Err, is_ok, IfOk, IfErr}
use Rattle.rules.specs.Rules.{pick}
use Rattle.print.specs.Put.{Put}
use Rattle.parse.specs.Line.{words_of}
use Rattle.parse.specs.Values.{fixed_in, numbers_in, bytes_in}
use Rattle.parse.specs.declared.arguments.Rest.{Rest}
use Rattle.parse.specs.declared.arguments.Rest.TheVariants.{Nothing, Numbers, Bytes}
use Rattle.parse.specs.declared.arguments.Arguments as code

-- numbers and bytes; they are those before the first bad word where there is one
pub record Given : Type 0 where
  pub good : Bool
  pub numbers : List ℕ
  pub bytes : List ℕ

abbrev pub given : Bool → List ℕ → List ℕ → Given
given g ns bs = record { good = g; numbers = ns; bytes = bs }

abbrev pub is_empty : List (List ℕ) → Bool
is_empty [] = true
is_empty (w ∷ ws) = false

-- the words behind the fixed numbers ns
abbrev pub rest_in : Rest → List ℕ → List (List ℕ) → Given
rest_in Nothing ns ws = given (is_empty ws) ns []
rest_in (Numbers m) ns ws = given (numbers_in m ws).good (ns ++ (numbers_in m ws).list) []
rest_in Bytes ns ws = given (bytes_in ws).good ns (bytes_in ws).list

-- "a word too few or too many; a bad number or one above its range; a word of a trace that is not bytes"
unfoldable pub arguments_in : List ℕ → Rest → List (List ℕ) → Given
arguments_in largest rest ws =
    let f = fixed_in largest ws in
    pick f.good (rest_in rest f.list (drop (length largest) ws)) (given false f.list [])

-- what the code leaves of fixed numbers in a buffer, and the place in the line after their words where none is bad or missing; else how
-- many they are
pub record Fixed (largest line : List ℕ) (place : ℕ) (before after : List ℕ) (answer : Result ℕ ℕ) : Type 0 where
  pub put :
      let f = fixed_in largest (words_of (drop place line)) in
      Put before 0 f.list after (length f.list)
  pub judged : is_ok answer ≡ (fixed_in largest (words_of (drop place line))).good
  pub behind : IfOk answer
      (λ end. (end ≤ length line) × (words_of (drop end line) ≡ drop (length largest) (words_of (drop place line))))
  pub stored : IfErr answer (λ count. count ≡ length (fixed_in largest (words_of (drop place line))).list)

-- what the code leaves of numbers and bytes in a buffer for each, and its answer: how many they are, and whether no word was bad, missing
-- or left
pub record Read (g : Given) (answer : Result code.Arguments code.Arguments) (numbers₀ numbers₁ bytes₀ bytes₁ : List ℕ) : Type 0 where
  pub numbers : Put numbers₀ 0 g.numbers numbers₁ (length g.numbers)
  pub bytes : Put bytes₀ 0 g.bytes bytes₁ (length g.bytes)
  pub answers :
      let c : code.Arguments = record { numbers = length g.numbers; bytes = length g.bytes } in
      answer ≡ pick g.good (Ok c) (Err c)
