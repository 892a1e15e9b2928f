-- Tables of rules of which the first that applies decides.
use Rattle.std.specs.Prelude.{ℕ, Bool, true, false, ◌||◌, List, [], ◌∷◌, ltb, eqb}

-- the first value where the test holds, else the second
abbrev pub pick {ℓ} : {A : Type ℓ} → Bool → A → A → A
pick true a b = a
pick false a b = b

-- Of each row of a table: whether it applies, and its number.
abbrev pub Table : Type 0
Table = List (Bool × ℕ)

-- "where several apply, the order is": the number of the first row that applies, and 0 where none does
abbrev pub first_match : Table → ℕ
first_match [] = 0
first_match (r ∷ rs) = pick r.0 r.1 (first_match rs)

-- what a call comes to: a refusal by its number, or, where that is 0, what the call does
unfoldable pub settle {ℓ} : {A : Type ℓ} → ℕ → (ℕ → A) → A → A
settle n refuse accept = pick (eqb n 0) accept (refuse n)

-- n does not lie from a to b
abbrev pub outside_of : ℕ → ℕ → ℕ → Bool
outside_of a b n = ltb n a || ltb b n
