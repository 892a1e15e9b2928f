-- Laws of a list with one element set. Assumes nothing.
use Prim.Native.Nat.{ℕ, zero, suc, ◌≤◌, ◌<◌}
use mathlib.Core.Bool.{Bool, true, false}
use mathlib.Core.List.{List}
use mathlib.Core.Logic.{⊎_elim}
use mathlib.Core.Path.{◌≡◌, refl, sym, ap, ◌∙◌}
use lib.ListN.{length, get_or, set, replicate, get_or-eq_default, get_or-map}
use lib.Seq.{get_or-set_same, get_or-set_other, map-set_same}
use Rattle.rules.proofs.Tests.{lt_or_ge, same_or_not, clash}

module _ {A : Type 0} (l : List A) (k : ℕ) (v d : A) where
  -- what holds at k of the new value, and elsewhere of the old ones, holds of the list with k set
  pub set_ind : (P : ℕ → A → Type 0) → k < length l → P k v → ((i : ℕ) → (i ≡ k → ⊥) → P i (get_or l i d)) → (i : ℕ)
      → P i (get_or (set l k v) i d)
  set_ind P h p f i =
      ⊎_elim (λ (e : i ≡ k). rw e (rw (get_or-set_same l k v d h) p)) (λ (n : i ≡ k → ⊥). rw (get_or-set_other l k i v d n) (f i n))
      (same_or_not i k)

  -- what holds of every old value and of the new one
  pub set_all : (P : A → Type 0) → k < length l → P v → ((i : ℕ) → P (get_or l i d)) → (i : ℕ) → P (get_or (set l k v) i d)
  set_all P h p f = set_ind (λ i x. P x) h p (λ i n. f i)

  -- what the new value has, no value loses
  pub set_keep : (P : A → Type 0) → k < length l → P v → (i : ℕ) → P (get_or l i d) → P (get_or (set l k v) i d)
  set_keep P h p = set_ind (λ i x. P (get_or l i d) → P x) h (λ q. p) (λ i n q. q)

  -- what is the same of the new value and the old one is the same everywhere
  pub set_same : {B : Type 0} (f : A → B) → f v ≡ f (get_or l k d) → (i : ℕ) → f (get_or (set l k v) i d) ≡ f (get_or l i d)
  set_same f e i =
      sym (get_or-map f (set l k v) i d) ∙ ap (λ xs. get_or xs i (f d)) (map-set_same f l k v d e) ∙ get_or-map f l i d

-- an element that passes a test that the default fails stands in the list
pub in_list : {A : Type 0} (l : List A) (i : ℕ) (d : A) (p : A → Bool) → p d ≡ false → p (get_or l i d) ≡ true → i < length l
in_list l i d p n y =
    ⊎_elim (λ (h : i < length l). h) (λ (h : length l ≤ i). absurd (clash y (ap p (get_or-eq_default l d h) ∙ n)))
    (lt_or_ge i (length l))

pub get_d_same : {A : Type 0} (n i : ℕ) (a : A) → get_or (replicate n a) i a ≡ a
get_d_same zero i a = refl
get_d_same (suc n) zero a = refl
get_d_same (suc n) (suc i) a = get_d_same n i a
