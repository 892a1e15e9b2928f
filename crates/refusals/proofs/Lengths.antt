-- The room that a caller needs. Assumes nothing.
use Prim.Native.Nat.{ℕ, ◌+◌, ◌≤◌}
use mathlib.Core.Bool.{Bool, true, ◌&&◌}
use mathlib.Core.List.{List, [], ◌∷◌, ◌++◌}
use native.Mathlib.Omega.{arith}
use lib.Dec.{T, eqb, leb, leb→le}
use lib.ListN.{length, length-append}
use Rattle.rules.proofs.Cases.{pick_cases}
use Rattle.rules.proofs.Tables.{both}
use Rattle.print.specs.Text.{bytes, next}
use Rattle.print.proofs.Texts.{next_most}
use Rattle.refusals.specs.Meaning.{Row, meanings, text_in, meaning}
use Rattle.refusals.specs.Named.{named, pair, refused_text}

pub named_most : (name : List ℕ) (n : ℕ) → length (named name n) ≤ length name + 21
named_most name n = omega (arith, length-append name (next n), next_most n)

pub pair_most : (a : List ℕ) (x : ℕ) (b : List ℕ) (y : ℕ) → length (pair a x b y) ≤ length a + length b + 42
pair_most a x b y = omega (arith, length-append (named a x) (named b y), named_most a x, named_most b y)

-- every text has at most so many bytes
abbrev pub texts_to : ℕ → List Row → Bool
texts_to k [] = true
texts_to k (r ∷ rs) = leb (length r.1) k && texts_to k rs

text_most : (k : ℕ) (rs : List Row) (n : ℕ) → 25 ≤ k → T (texts_to k rs) → length (text_in rs n) ≤ k
text_most k [] n l h = omega arith
text_most k (r ∷ rs) n l h =
    let b = both (leb (length r.1) k) (texts_to k rs) h in
    pick_cases (λ (t : List ℕ). length t ≤ k) (eqb n r.0) r.1 (text_in rs n) (λ e. leb→le (length r.1) k b.0)
    (λ e. text_most k rs n l b.1)

pub meaning_most : (n : ℕ) → length (meaning n) ≤ 100
unfolding meaning meanings
meaning_most n = text_most 100 meanings n (omega arith) tt

pub refused_most : (n : ℕ) → length (refused_text n) ≤ 130
refused_most n =
    let name = named (bytes "refused") n in
    omega (arith, length-append name (bytes ", " ++ meaning n), named_most (bytes "refused") n, meaning_most n)
