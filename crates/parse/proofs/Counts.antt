-- Laws of how many values words give, where all are good. Assumes nothing.
use mathlib.Core.Bool.{true, false, true≢false}
use mathlib.Core.List.{List, [], ◌∷◌, ◌++◌}
use mathlib.Core.Path.{◌≡◌, refl, sym}
use Prim.Native.Nat.{ℕ, zero, suc, ◌+◌, ◌≤◌, ◌<◌}
use native.Mathlib.Omega.{arith}
use lib.ListN.{length, drop, get_or, length-append, length-drop, get_or-append}
use Rattle.rules.specs.Rules.{pick}
use Rattle.rules.proofs.Cases.{pick_cases}
use Rattle.parse.specs.Line.{is_blank, in_word, ended, words_on, words_of}
use Rattle.parse.specs.Numeral.{number_in, up_to}
use Rattle.parse.specs.Values.{Values, and_then, single, of_each, number_up_to, fixed_in, numbers_in, bytes_of, bytes_in}
use Rattle.parse.specs.Arguments.{Given, given, rest_in, arguments_in}
use Rattle.std.specs.Prelude.{Option, Some, None}
use Rattle.parse.specs.declared.arguments.Rest.{Rest}
use Rattle.parse.specs.declared.arguments.Rest.TheVariants.{Nothing, Numbers, Bytes}
use Rattle.parse.proofs.Reading.{bytes_most}
use Rattle.parse.proofs.Givens.{fixed_count, fixed_within}

-- ---- the bytes of words

abbrev pub total : List (List ℕ) → ℕ
total [] = 0
total (w ∷ ws) = length w + total ws

total_append : (a b : List (List ℕ)) → total (a ++ b) ≡ total a + total b
total_append [] b = omega arith
total_append (w ∷ a) b = omega (arith, total_append a b)

total_ended : (w : List ℕ) → total (ended w) ≡ length w
total_ended [] = refl
total_ended (b ∷ w) = omega arith

words_on_total : (w l : List ℕ) → total (words_on w l) ≤ length w + length l
unfolding words_on
words_on_total w [] = omega (arith, total_ended w)
words_on_total w (b ∷ bs) =
    pick_cases (λ (x : List (List ℕ)). total x ≤ length w + length (b ∷ bs)) (in_word b) (words_on (w ++ (b ∷ [])) bs)
    (ended w ++ pick (is_blank b) (words_on [] bs) [])
    (λ e. omega (arith, words_on_total (w ++ (b ∷ [])) bs, length-append w (b ∷ [])))
    (λ e.
    pick_cases (λ (x : List (List ℕ)). total (ended w ++ x) ≤ length w + length (b ∷ bs)) (is_blank b) (words_on [] bs) []
    (λ f. omega (arith, total_append (ended w) (words_on [] bs), total_ended w, words_on_total [] bs))
    (λ f. omega (arith, total_append (ended w) [], total_ended w)))

-- the words of a line are no longer than it
pub words_total : (l : List ℕ) → total (words_of l) ≤ length l
words_total l = omega (arith, words_on_total [] l)

-- ---- how many values there are

then_most : (a b : Values) → length (and_then a b).list ≤ length a.list + length b.list
unfolding and_then
then_most a b =
    pick_cases (λ (v : Values). length v.list ≤ length a.list + length b.list) a.good
    (record { good = b.good; list = a.list ++ b.list }) a (λ e. omega (arith, length-append a.list b.list)) (λ e. omega arith)

single_most : (x : Option ℕ) → length (single x).list ≤ 1
single_most (Some n) = omega arith
single_most None = omega arith

numbers_few : (m : ℕ) (ws : List (List ℕ)) → length (numbers_in m ws).list ≤ length ws
unfolding of_each
numbers_few m [] = omega arith
numbers_few m (w ∷ ws) =
    omega (arith, then_most (number_up_to m w) (numbers_in m ws), single_most (up_to m (number_in w)), numbers_few m ws)

bytes_few : (ws : List (List ℕ)) → length (bytes_in ws).list ≤ total ws
unfolding of_each
bytes_few [] = omega arith
bytes_few (w ∷ ws) = omega (arith, then_most (bytes_of w) (bytes_in ws), bytes_most w, bytes_few ws)

drop_total : (n : ℕ) (ws : List (List ℕ)) → total (drop n ws) ≤ total ws
drop_total zero ws = omega arith
drop_total (suc n) [] = omega arith
drop_total (suc n) (w ∷ ws) = omega (arith, drop_total n ws)

-- ---- what the words after a command give

pub record Counted (largest : List ℕ) (rest : Rest) (ws : List (List ℕ)) : Type 0 where
  pub enough : length largest ≤ length (arguments_in largest rest ws).numbers
  pub few : length (arguments_in largest rest ws).numbers ≤ length ws
  pub short : length (arguments_in largest rest ws).bytes ≤ total ws
  pub within : (i : ℕ) → i < length largest → get_or (arguments_in largest rest ws).numbers i 0 ≤ get_or largest i 0

module _ (largest : List ℕ) (ws : List (List ℕ)) where
  -- the fixed numbers are good, and so is what stands behind them
  pub good_parts : (rest : Rest) → (arguments_in largest rest ws).good ≡ true
      → ((fixed_in largest ws).good ≡ true)
      × (arguments_in largest rest ws ≡ rest_in rest (fixed_in largest ws).list (drop (length largest) ws))
  unfolding arguments_in
  good_parts rest h =
      pick_cases
      (λ (g : Given). g.good ≡ true
      → ((fixed_in largest ws).good ≡ true) × (g ≡ rest_in rest (fixed_in largest ws).list (drop (length largest) ws)))
      (fixed_in largest ws).good (rest_in rest (fixed_in largest ws).list (drop (length largest) ws)) (given false (fixed_in largest ws
      ).list [])
      (λ e g. (e, refl)) (λ e g. absurd (true≢false (sym g))) h

  counted_rest : (rest : Rest) → (fixed_in largest ws).good ≡ true → let g = rest_in rest (fixed_in largest ws).list (drop (length
      largest) ws) in
      (length largest ≤ length g.numbers) × (length g.numbers ≤ length ws) × (length g.bytes ≤ total ws)
      × ((i : ℕ) → i < length largest → get_or g.numbers i 0 ≤ get_or largest i 0)
  counted_rest Nothing h =
      let c = fixed_count largest ws h in
      (omega (arith, c.0), omega (arith, c.0, c.1), omega arith, λ i l. fixed_within largest ws i)
  counted_rest (Numbers m) h =
      let c = fixed_count largest ws h in
      let f = (fixed_in largest ws).list in
      let d = drop (length largest) ws in (
        omega (arith, c.0, length-append f (numbers_in m d).list),
        omega (arith, c.0, c.1, length-append f (numbers_in m d).list, numbers_few m d, length-drop (length largest) ws),
        omega arith,
        λ i l. let b : i < length f = omega (arith, c.0) in rw (get_or-append f (numbers_in m d).list 0 i b) (fixed_within largest
            ws i),
      )
  counted_rest Bytes h =
      let c = fixed_count largest ws h in
      let d = drop (length largest) ws in (
        omega (arith, c.0),
        omega (arith, c.0, c.1),
        omega (arith, bytes_few d, drop_total (length largest) ws),
        λ i l. fixed_within
            largest ws i,
      )

  pub counted : (rest : Rest) → (arguments_in largest rest ws).good ≡ true → Counted largest rest ws
  counted rest h =
      let b = good_parts rest h in
      let c = counted_rest rest b.0 in
      record { enough = rw b.1 c.0; few = rw b.1 c.1; short = rw b.1 c.2; within = λ i l. rw b.1 (c.3 i l) }

  -- as many numbers as the form has, where no more may stand behind them
  pub counted_nothing : (arguments_in largest Nothing ws).good ≡ true → length (arguments_in largest Nothing ws).numbers ≡ length largest
  counted_nothing h = let b = good_parts Nothing h in rw b.1 (fixed_count largest ws b.0).0

  pub counted_bytes : (arguments_in largest Bytes ws).good ≡ true → length (arguments_in largest Bytes ws).numbers ≡ length largest
  counted_bytes h = let b = good_parts Bytes h in rw b.1 (fixed_count largest ws b.0).0
