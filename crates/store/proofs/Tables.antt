-- Laws of tables. Assumes nothing.
use Prim.Native.Nat.{ℕ, zero, suc, ◌<◌}
use mathlib.Core.Path.{◌≡◌, refl, ap}
use native.Mathlib.Omega.{arith}
use lib.ListN.{length, get_or, set}
use Rattle.store.specs.Held.{table}

pub table_at : {A : Type 0} (n : ℕ) (f : ℕ → A) (i : ℕ) (d : A) → i < n → get_or (table n f) i d ≡ f i
unfolding table
table_at zero f i d h = absurd (omega arith)
table_at (suc n) f zero d h = refl
table_at (suc n) f (suc i) d h = table_at n (λ j. f (suc j)) i d (omega arith)

pub table_same : {A : Type 0} (n : ℕ) (f g : ℕ → A) → ((i : ℕ) → i < n → f i ≡ g i) → table n f ≡ table n g
unfolding table
table_same zero f g e = refl
table_same (suc n) f g e =
    let a = e 0 (omega arith) in
    let b = table_same n (λ i. f (suc i)) (λ i. g (suc i)) (λ i h. e (suc i) (omega arith)) in
    cc

-- two tables that differ at i alone
pub table_set : {A : Type 0} (n : ℕ) (f g : ℕ → A) (i : ℕ) (v : A)
    → i < n → g i ≡ v → ((j : ℕ) → (j ≡ i → ⊥) → j < n → g j ≡ f j) → table n g ≡ set (table n f) i v
unfolding table
table_set zero f g i v h e k = absurd (omega arith)
table_set (suc n) f g zero v h e k =
    let b = table_same n (λ j. g (suc j)) (λ j. f (suc j)) (λ j l. k (suc j) (λ z. omega arith) (omega arith)) in
    cc
table_set (suc n) f g (suc i) v h e k =
    let a = k 0 (λ z. omega arith) (omega arith) in
    let b = table_set n (λ j. f (suc j)) (λ j. g (suc j)) i v (omega arith) e (λ j d l. k (suc j) (λ z. d (omega arith)) (omega arith)) in
    cc

pub table_length : {A : Type 0} (n : ℕ) (f : ℕ → A) → length (table n f) ≡ n
unfolding table
table_length zero f = refl
table_length (suc n) f = ap suc (table_length n (λ i. f (suc i)))
