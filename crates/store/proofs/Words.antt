-- Stores into words: numbers at distances from a place. Assumes nothing.
use Prim.Native.Nat.{ℕ, ◌+◌, ◌*◌, ◌<◌}
use mathlib.Core.List.{List, [], ◌∷◌}
use mathlib.Core.Logic.{⊎_elim}
use mathlib.Core.Path.{◌≡◌, refl, ap, ◌∙◌}
use native.Mathlib.Omega.{arith}
use lib.Dec.{eqb}
use lib.ListN.{length, set, length-set}
use lib.Seq.{get_or-set_same, get_or-set_other}
use borrow.Author.Tests.{eq-eqb, ne_eqb}
use Rattle.rules.specs.Rules.{pick}
use Rattle.rules.proofs.Tests.{same_or_not}
use Rattle.store.specs.Held.{word, from, limit_at, Sound}

-- the words with a number stored at each distance from place p, in order
abbrev pub stored : List ℕ → ℕ → List (ℕ × ℕ) → List ℕ
stored w p [] = w
stored w p (f ∷ fs) = stored (set w (p + f.0) f.1) p fs

-- what then stands at a distance where d stood
abbrev pub lookup : List (ℕ × ℕ) → ℕ → ℕ → ℕ
lookup [] o d = d
lookup (f ∷ fs) o d = lookup fs o (pick (eqb o f.0) f.1 d)

-- the words from place p on, with those numbers
abbrev pub after : List (ℕ × ℕ) → List ℕ → ℕ → ℕ → ℕ
after fs w p o = lookup fs o (from w p o)

-- each distance is a multiple of s, below n of them
abbrev pub Fields : ℕ → ℕ → List (ℕ × ℕ) → Type 0
Fields s n [] = Unit {0}
Fields s n (f ∷ fs) = ((a : ℕ) × (a < n) × (f.0 ≡ s * a)) × Fields s n fs

-- each number is as narrow as its place
abbrev pub Narrow : ℕ → List (ℕ × ℕ) → Type 0
Narrow p [] = Unit {0}
Narrow p (f ∷ fs) = (f.1 < limit_at (p + f.0)) × Narrow p fs

module _ (s n p : ℕ) (inside : (a : ℕ) → a < n → p + s * a < 623) where
  place_in : (o : ℕ) → (a : ℕ) × (a < n) × (o ≡ s * a) → p + o < 623
  place_in o h = rw h.2 (inside h.0 h.1)

  pub stored_sized : (w : List ℕ) (fs : List (ℕ × ℕ)) → length w ≡ 623 → length (stored w p fs) ≡ 623
  stored_sized w [] l = l
  stored_sized w (f ∷ fs) l = stored_sized (set w (p + f.0) f.1) fs (length-set w (p + f.0) f.1 ∙ l)

  pub stored_here : (w : List ℕ) (fs : List (ℕ × ℕ)) → length w ≡ 623 → Fields s n fs
      → (o : ℕ) → from (stored w p fs) p o ≡ lookup fs o (from w p o)
  stored_here w [] l ok o = refl
  stored_here w (f ∷ fs) l ok o =
      stored_here (set w (p + f.0) f.1) fs (length-set w (p + f.0) f.1 ∙ l) ok.1 o
      ∙ ap (lookup fs o)
      (⊎_elim
      (λ (e : o ≡ f.0).
      rw (e, eq-eqb f.0 f.0 refl) (get_or-set_same w (p + f.0) f.1 0 (rw l (place_in f.0 ok.0))))
      (λ (d : o ≡ f.0 → ⊥). rw (ne_eqb o f.0 d) (get_or-set_other w (p + f.0) (p + o) f.1 0 (λ e. d (omega arith))))
      (same_or_not o f.0))

  pub stored_there : (w : List ℕ) (fs : List (ℕ × ℕ)) → Fields s n fs
      → (k : ℕ) → ((a : ℕ) → a < n → k ≡ p + s * a → ⊥) → word (stored w p fs) k ≡ word w k
  stored_there w [] ok k d = refl
  stored_there w (f ∷ fs) ok k d =
      stored_there (set w (p + f.0) f.1) fs ok.1 k d
      ∙ get_or-set_other w (p + f.0) k f.1 0 (λ e. d ok.0.0 ok.0.1 (e ∙ ap (λ (o : ℕ). p + o) ok.0.2))

  pub stored_sound : (w : List ℕ) (fs : List (ℕ × ℕ)) → Sound w → Fields s n fs → Narrow p fs → Sound (stored w p fs)
  stored_sound w [] h ok b = h
  stored_sound w (f ∷ fs) h ok b =
      let j = p + f.0 in
      stored_sound (set w j f.1) fs
      (record {
        sized = length-set w j f.1 ∙ h.sized;
        narrow = λ k l.
            ⊎_elim
            (λ (e : k ≡ j). rw (e, get_or-set_same w j f.1 0 (rw h.sized (place_in f.0 ok.0))) b.0)
            (λ (d : k ≡ j → ⊥). rw (get_or-set_other w j k f.1 0 d) (h.narrow k l)) (same_or_not k j);
      })
      ok.1 b.1
