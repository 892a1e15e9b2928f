-- Laws of tables and of what settles a call. Assumes nothing.
use Prim.Native.Nat.{ℕ, ◌<◌}
use mathlib.Core.Bool.{Bool, true, false, ◌&&◌}
use mathlib.Core.List.{[], ◌∷◌, ◌++◌}
use mathlib.Core.Path.{◌≡◌, refl, ap, subst, ◌∙◌}
use native.Mathlib.Nat.{lt_irrefl}
use lib.Dec.{T, ltb, ltb→lt}
use borrow.Author.Tests.{eq-eqb, ne_eqb}
use Rattle.rules.specs.Rules.{pick, Table, first_match, settle}

-- every row has a number above 0
abbrev pub numbered : Table → Bool
numbered [] = true
numbered (r ∷ rs) = ltb 0 r.1 && numbered rs

-- no row applies
abbrev pub Unapplied : Table → Type 0
Unapplied [] = T true
Unapplied (r ∷ rs) = (r.0 ≡ false) × Unapplied rs

passed_row : (t : Bool) (n m : ℕ) → T (ltb 0 n) → pick t n m ≡ 0 → (t ≡ false) × (m ≡ 0)
passed_row true n m h e = absurd (lt_irrefl 0 (subst (λ (k : ℕ). 0 < k) e (ltb→lt 0 n h)))
passed_row false n m h e = (refl, e)

pub both : (a b : Bool) → T (a && b) → T a × T b
both true b h = (tt, h)
both false b h = absurd h

-- where a table's answer is 0, none of its rows applies
pub passed : (rs : Table) → T (numbered rs) → first_match rs ≡ 0 → Unapplied rs
passed [] h e = tt
passed (r ∷ rs) h e =
    let b = both (ltb 0 r.1) (numbered rs) h in
    let p = passed_row r.0 r.1 (first_match rs) b.0 e in
    (p.0, passed rs b.1 p.1)

-- rows after a table: they count exactly where none of its own applies
pub append_refused : (rs ss : Table) → (first_match rs ≡ 0 → ⊥) → first_match (rs ++ ss) ≡ first_match rs
append_refused [] ss h = absurd (h refl)
append_refused ((true, n) ∷ rs) ss h = refl
append_refused ((false, n) ∷ rs) ss h = append_refused rs ss h

pub append_passed : (rs ss : Table) → Unapplied rs → first_match (rs ++ ss) ≡ first_match ss
append_passed [] ss u = refl
append_passed (r ∷ rs) ss u = rw u.0 (append_passed rs ss u.1)

-- an answer that is its definition's, and so has the number n that f gives it
pub answer_number : {A : Type 0} (f : A → ℕ) {n : ℕ} {x y : A} → f y ≡ n → x ≡ y → (x ≡ y) × (f x ≡ n)
answer_number f h e = (e, ap f e ∙ h)

module _ {A : Type 0} (n : ℕ) (refuse : ℕ → A) (accept : A) where
  pub settle_refused : (n ≡ 0 → ⊥) → settle n refuse accept ≡ refuse n
  unfolding settle
  settle_refused h = rw (ne_eqb n 0 h)

  pub settle_accepted : n ≡ 0 → settle n refuse accept ≡ accept
  unfolding settle
  settle_accepted h = rw (eq-eqb n 0 h)
