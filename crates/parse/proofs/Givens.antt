-- Laws of what the words after a command give: the code's answer is the definition's, and how many and how large they are. Assumes
-- nothing.
use mathlib.Core.Bool.{Bool, true, false, true≢false}
use mathlib.Core.Logic.{⊎_elim}
use mathlib.Core.List.{List, [], ◌∷◌, ◌++◌}
use mathlib.Core.Path.{◌≡◌, refl, sym, ap, subst, ◌∙◌}
use Prim.Native.Nat.{ℕ, zero, suc, ◌+◌, ◌≤◌, ◌<◌}
use native.Mathlib.Nat.{zero-add}
use native.Mathlib.Omega.{arith}
use borrow.Author.Tests.{lt-ltb, le-ltb}
use lib.ListN.{length, drop, get_or, length-append}
use Rattle.rules.specs.Rules.{pick}
use Rattle.rules.proofs.Cases.{pick_cases}
use Rattle.rules.proofs.Tests.{lt_or_ge}
use Rattle.print.proofs.Puts.{put_none, put_then}
use Rattle.parse.specs.Line.{words_of}
use Rattle.parse.specs.Numeral.{number_in, up_to}
use Rattle.parse.specs.Values.{Values, and_then, single, of_each, fixed_in, numbers_in, byte_of, bytes_of, bytes_in, Stored}
use Rattle.parse.specs.Arguments.{Given, given, is_empty, rest_in, arguments_in, Fixed, Read}
use Rattle.std.specs.Prelude.{Option, Some, None, Result, Ok, Err}
use Rattle.parse.specs.declared.arguments.Rest.{Rest}
use Rattle.parse.specs.declared.arguments.Rest.TheVariants.{Nothing, Numbers, Bytes}
use Rattle.parse.specs.declared.arguments.Arguments as code
use Rattle.parse.proofs.Storing.{put_to, is_good, is_bad}
use Rattle.parse.proofs.Reading.{byte_small}

-- ---- how many numbers there are

record One (x : Option ℕ) (v : Values) : Type 0 where
  pub number : ℕ
  pub list : (and_then (single x) v).list ≡ number ∷ v.list
  pub good : v.good ≡ true

-- a number that is good, and good ones behind it
one_good : (x : Option ℕ) (v : Values) → (and_then (single x) v).good ≡ true → One x v
unfolding and_then
one_good (Some n) v e = record { number = n; list = refl; good = e }
one_good None v e = absurd (true≢false (sym e))

-- as many numbers as the form has, and as many words at least
pub fixed_count : (ms : List ℕ) (ws : List (List ℕ)) → (fixed_in ms ws).good ≡ true
    → (length (fixed_in ms ws).list ≡ length ms) × (length ms ≤ length ws)
unfolding fixed_in
fixed_count [] ws e = (refl, omega arith)
fixed_count (m ∷ ms) [] e = absurd (true≢false (sym e))
fixed_count (m ∷ ms) (w ∷ ws) e =
    let o = one_good (up_to m (number_in w)) (fixed_in ms ws) e in
    let r = fixed_count ms ws o.good in
    (omega (arith, ap length o.list, r.0), omega (arith, r.1))

-- ---- the code's answer

module _ {largest line n₀ n₁ : List ℕ} {place : ℕ} where
  pub fixed_bad : {count : ℕ} → Stored (fixed_in largest (words_of (drop place line))) n₀ 0 n₁ (Err count)
      → Fixed largest line place n₀ n₁ (Err count)
  fixed_bad s =
      let b = is_bad _ _ s.answers in
      record { put = put_to s.put (omega arith); judged = sym b.0; behind = tt; stored = omega (arith, b.1) }

  pub fixed_good : {count end : ℕ} → Stored (fixed_in largest (words_of (drop place line))) n₀ 0 n₁ (Ok count) → end ≤ length line
      → words_of (drop end line) ≡ drop (length largest) (words_of (drop place line)) → Fixed largest line place n₀ n₁ (Ok end)
  fixed_good s h k = record { put = put_to s.put (omega arith); judged = sym (is_good _ _ s.answers).0; behind = (h, k); stored = tt }

abbrev pub no_bytes : ℕ → code.Arguments
no_bytes n = record { numbers = n; bytes = 0 }

abbrev pub answer_of : (ℕ → code.Arguments) → Result ℕ ℕ → Result code.Arguments code.Arguments
answer_of f (Ok n) = Ok (f n)
answer_of f (Err n) = Err (f n)

answer_picked : (f : ℕ → code.Arguments) (g : Bool) (n : ℕ) → answer_of f (pick g (Ok n) (Err n)) ≡ pick g (Ok (f n)) (Err (f n))
answer_picked f true n = refl
answer_picked f false n = refl

read_as : {g h : Given} {r : Result code.Arguments code.Arguments} {n₀ n₁ b₀ b₁ : List ℕ} → h ≡ g → Read g r n₀ n₁ b₀ b₁
    → Read h r n₀ n₁ b₀ b₁
read_as {r = r} {n₀ = n₀} {n₁ = n₁} {b₀ = b₀} {b₁ = b₁} e x = subst (λ (y : Given). Read y r n₀ n₁ b₀ b₁) (sym e) x

module _ (largest : List ℕ) (rest : Rest) (ws : List (List ℕ)) where
  given_bad : (fixed_in largest ws).good ≡ false → arguments_in largest rest ws ≡ given false (fixed_in largest ws).list []
  unfolding arguments_in
  given_bad e = rw e

  given_rest : (fixed_in largest ws).good ≡ true
      → arguments_in largest rest ws ≡ rest_in rest (fixed_in largest ws).list (drop (length largest) ws)
  unfolding arguments_in
  given_rest e = rw e

-- the fixed numbers are stored
module _ (largest line : List ℕ) (place : ℕ) where
  abbrev ws : List (List ℕ)
  ws = words_of (drop place line)

  module _ {n₀ n₁ : List ℕ} (b₀ : List ℕ) where
    pub read_bad : (rest : Rest) {count : ℕ} → Fixed largest line place n₀ n₁ (Err count)
        → Read (arguments_in largest rest ws) (Err (no_bytes count)) n₀ n₁ b₀ b₀
    read_bad rest s =
        read_as (given_bad largest rest ws (sym s.judged))
        (record { numbers = s.put; bytes = put_none b₀ 0; answers = ap (λ n. Err (no_bytes n)) s.stored })

    module _ {end : ℕ} (s : Fixed largest line place n₀ n₁ (Ok end)) where
      of_rest : (rest rest₁ : Rest) → rest ≡ rest₁
          → arguments_in largest rest ws ≡ rest_in rest₁ (fixed_in largest ws).list (drop (length largest) ws)
      of_rest rest rest₁ e =
          given_rest largest rest ws (sym s.judged)
          ∙ ap (λ (x : Rest). rest_in x (fixed_in largest ws).list (drop (length largest) ws)) e

      count : length (fixed_in largest ws).list ≡ length largest
      count = (fixed_count largest ws (sym s.judged)).0

      pub read_nothing : (rest : Rest) (t : Bool) → rest ≡ Nothing → t ≡ is_empty (words_of (drop end line))
          → Read (arguments_in largest rest ws) (pick t (Ok (no_bytes (length largest))) (Err (no_bytes (length largest)))) n₀ n₁ b₀ b₀
      read_nothing rest t e k =
          read_as (of_rest rest Nothing e)
          (record {
            numbers = s.put;
            bytes = put_none b₀ 0;
            answers =
                rw (count, k, s.behind.1) refl;
          })

      pub read_numbers : (rest : Rest) (m : ℕ) {n₂ : List ℕ} {r : Result ℕ ℕ} → rest ≡ Numbers m
          → Stored (numbers_in m (words_of (drop end line))) n₁ (length largest) n₂ r
          → Read (arguments_in largest rest ws) (answer_of no_bytes r) n₀ n₂ b₀ b₀
      read_numbers rest m {n₂} {r} e t₀ =
          let t = rw s.behind.1 at t₀ in
          let l : length largest + length (numbers_in m (drop (length largest) ws)).list
          ≡ length ((fixed_in largest ws).list ++ (numbers_in m (drop (length largest) ws)).list) =
          rw length-append (omega (arith, count)) in
          read_as (of_rest rest (Numbers m) e)
          (record {
            numbers = put_to (put_then (put_to s.put count) t.put) l;
            bytes = put_none b₀ 0;
            answers =
                ap (answer_of no_bytes) t.answers ∙ answer_picked no_bytes _ _
                ∙ ap (λ n. pick (numbers_in m (drop (length largest) ws)).good (Ok (no_bytes n)) (Err (no_bytes n))) l;
          })

      pub read_bytes : (rest : Rest) {b₁ : List ℕ} {r : Result ℕ ℕ} → rest ≡ Bytes
          → Stored (bytes_in (words_of (drop end line))) b₀ 0 b₁ r
          → Read (arguments_in largest rest ws) (answer_of (λ n. record { numbers = length largest; bytes = n }) r) n₀ n₁ b₀ b₁
      read_bytes rest {b₁} {r} e t₀ =
          let t = rw s.behind.1 at t₀ in
          read_as (of_rest rest Bytes e)
          (record {
            numbers = s.put;
            bytes = put_to t.put (omega arith);
            answers =
                ap (answer_of (λ n. record { numbers = length largest; bytes = n })) t.answers
                ∙ answer_picked (λ n. record { numbers = length largest; bytes = n }) _ _
                ∙ rw (count, zero-add (length (bytes_in (drop (length largest) ws)).list)) refl;
          })

-- ---- how large they are

up_to_most : (m n : ℕ) (x : Option ℕ) → up_to m x ≡ Some n → n ≤ m
up_to_most m n (Some k) e =
    ⊎_elim
    (λ (h : m < k).
    let f : None ≡ Some n = sym (rw (lt-ltb m k h)) ∙ e in
    let z : ◌≡◌ {A = ℕ} 0 1 = cc in
    absurd (omega arith))
    (λ (h : k ≤ m).
    let f : Some k ≡ Some n = sym (rw (le-ltb m k h)) ∙ e in
    let g : k ≡ n = cc in
    omega arith)
    (lt_or_ge m k)
up_to_most m n None e = let z : ◌≡◌ {A = ℕ} 0 1 = cc in absurd (omega arith)

one_within : (b : ℕ → ℕ) (x : Option ℕ) (v : Values) → ((n : ℕ) → x ≡ Some n → n ≤ b 0) → ((j : ℕ) → get_or v.list j 0 ≤ b (suc j))
    → (i : ℕ) → get_or (and_then (single x) v).list i 0 ≤ b i
unfolding and_then
one_within b (Some n) v h k zero = h n refl
one_within b (Some n) v h k (suc i) = k i
one_within b None v h k i = omega arith

-- "one above its range" is bad: each number read is at most its largest value
pub fixed_within : (ms : List ℕ) (ws : List (List ℕ)) (i : ℕ) → get_or (fixed_in ms ws).list i 0 ≤ get_or ms i 0
unfolding fixed_in
fixed_within [] ws i = omega arith
fixed_within (m ∷ ms) [] i = omega arith
fixed_within (m ∷ ms) (w ∷ ws) i =
    one_within (λ j. get_or (m ∷ ms) j 0) (up_to m (number_in w)) (fixed_in ms ws) (λ n. up_to_most m n (number_in w))
    (fixed_within ms ws) i

pub numbers_within : (m : ℕ) (ws : List (List ℕ)) (i : ℕ) → get_or (numbers_in m ws).list i 0 ≤ m
unfolding of_each
numbers_within m [] i = omega arith
numbers_within m (w ∷ ws) i =
    one_within (λ j. m) (up_to m (number_in w)) (numbers_in m ws) (λ n. up_to_most m n (number_in w)) (numbers_within m ws) i

bytes_of_small : (w : List ℕ) (i : ℕ) → get_or (bytes_of w).list i 0 ≤ 255
unfolding bytes_of
bytes_of_small [] i = omega arith
bytes_of_small (b ∷ []) i = omega arith
bytes_of_small (high ∷ low ∷ w) i =
    one_within (λ j. 255) (byte_of high low) (bytes_of w) (λ n e. omega (arith, byte_small high low n e)) (bytes_of_small w) i

append_small : (a b : List ℕ) → ((i : ℕ) → get_or a i 0 ≤ 255) → ((i : ℕ) → get_or b i 0 ≤ 255) → (i : ℕ) → get_or (a ++ b) i 0 ≤ 255
append_small [] b h k i = k i
append_small (x ∷ a) b h k zero = h 0
append_small (x ∷ a) b h k (suc i) = append_small a b (λ j. h (suc j)) k i

pub bytes_small : (ws : List (List ℕ)) (i : ℕ) → get_or (bytes_in ws).list i 0 ≤ 255
unfolding of_each and_then
bytes_small [] i = omega arith
bytes_small (w ∷ ws) i =
    pick_cases (λ (v : Values). get_or v.list i 0 ≤ 255) (bytes_of w).good
    (record { good = (bytes_in ws).good; list = (bytes_of w).list ++ (bytes_in ws).list }) (bytes_of w)
    (λ e. append_small (bytes_of w).list (bytes_in ws).list (bytes_of_small w) (bytes_small ws) i) (λ e. bytes_of_small w i)
