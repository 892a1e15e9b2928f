-- What a test says, and which number a table gives, exactly when: once more in propositions. Assumes nothing.
use Prim.Native.Nat.{ℕ, ◌≤◌, ◌<◌}
use mathlib.Core.Bool.{Bool, true, false, not, ◌&&◌, ◌||◌}
use mathlib.Core.List.{List, [], ◌∷◌, ◌++◌}
use mathlib.Core.Logic.{◌⊎◌, inl, inr, ⊎_elim, ◌↔◌}
use mathlib.Core.Path.{◌≡◌, refl, sym, ◌∙◌}
use native.Mathlib.Omega.{arith}
use lib.Dec.{T, ltb, leb, eqb}
use borrow.Author.Tests.{ltb-true, ltb-false, leb-true, leb-false, eqb-true, eqb-false, eq-eqb, not-true}
use Rattle.rules.specs.Rules.{pick, Table, first_match, outside_of}
use Rattle.rules.proofs.Tests.{bool_cases, clash}
use Rattle.rules.proofs.Tables.{both}

-- ---- tests

-- the test holds exactly if P does
pub record Says (b : Bool) (P : Type 0) : Type 0 where
  pub yes : b ≡ true → P
  pub no : b ≡ false → P → ⊥

pub says_is : (b : Bool) → Says b (b ≡ true)
says_is b = record { yes = λ e. e; no = λ e f. clash f e }

pub says_lt : (a b : ℕ) → Says (ltb a b) (a < b)
says_lt a b = record { yes = ltb-true a b; no = λ e h. omega (arith, ltb-false a b e) }

pub says_le : (a b : ℕ) → Says (leb a b) (a ≤ b)
says_le a b = record { yes = leb-true a b; no = λ e h. omega (arith, leb-false a b e) }

pub says_eq : (a b : ℕ) → Says (eqb a b) (a ≡ b)
says_eq a b = record { yes = eqb-true a b; no = eqb-false a b }

module _ {a : Bool} {P : Type 0} (s : Says a P) where
  pub says_not : Says (not a) (P → ⊥)
  says_not = record { yes = λ e. s.no (not-true a e); no = λ e f. f (s.yes (go a e)) }
    where
      go : (t : Bool) → not t ≡ false → t ≡ true
      go true e = refl
      go false e = absurd (clash refl e)

  -- the same in other words
  pub says_as : {Q : Type 0} → (P → Q) → (Q → P) → Says a Q
  says_as f g = record { yes = λ e. f (s.yes e); no = λ e q. s.no e (g q) }

  pub says_iff : (a ≡ true) ↔ P
  says_iff = (s.yes, λ p. ⊎_elim (λ e. e) (λ e. absurd (s.no e p)) (bool_cases a))

  pub says_sure : ((P → ⊥) → ⊥) → P
  says_sure h = ⊎_elim s.yes (λ e. absurd (h (s.no e))) (bool_cases a)

  module _ {b : Bool} {Q : Type 0} (t : Says b Q) where
    pub says_and : Says (a && b) (P × Q)
    says_and = go a s
      where
        go : (x : Bool) → Says x P → Says (x && b) (P × Q)
        go true u = record { yes = λ e. (u.yes refl, t.yes e); no = λ e h. t.no e h.1 }
        go false u = record { yes = λ e. absurd (clash e refl); no = λ e h. u.no refl h.0 }

    pub says_or : Says (a || b) (P ⊎ Q)
    says_or = go a s
      where
        go : (x : Bool) → Says x P → Says (x || b) (P ⊎ Q)
        go true u = record { yes = λ e. inl (u.yes refl); no = λ e. absurd (clash refl e) }
        go false u = record { yes = λ e. inr (t.yes e); no = λ e. ⊎_elim (u.no refl) (t.no e) }

-- two tests that say the same have the same value
pub says_same : {a b : Bool} {P : Type 0} → Says a P → Says b P → a ≡ b
says_same {a} {b} s t =
    ⊎_elim (λ e. e ∙ sym ((says_iff t).1 (s.yes e)))
    (λ e. e ∙ sym (⊎_elim (λ f. absurd (s.no e (t.yes f))) (λ f. f) (bool_cases b)))
    (bool_cases a)

pub says_pick : (t : Bool) {a b : Bool} {P A B : Type 0} → Says t P → Says a A → Says b B → Says (pick t a b) ((P × A) ⊎ ((P → ⊥) × B))
says_pick true s u w =
    record { yes = λ e. inl (s.yes refl, u.yes e); no = λ e. ⊎_elim (λ h. u.no e h.1) (λ h. h.0 (s.yes refl)) }
says_pick false s u w =
    record { yes = λ e. inr (s.no refl, w.yes e); no = λ e. ⊎_elim (λ h. s.no refl h.0) (λ h. w.no e h.1) }

pub says_outside : (a b n : ℕ) → Says (outside_of a b n) ((n < a) ⊎ (b < n))
says_outside a b n = says_or (says_lt n a) (says_lt b n)

-- ---- tables

-- reasons, each with its number
abbrev pub Reasons : Type 1
Reasons = List (Type 0 × ℕ)

-- "Where several apply, the order is": n is the number of the first reason that holds, and 0 where none does
abbrev pub Decided : Reasons → ℕ → Type 0
Decided [] n = n ≡ 0
Decided (r ∷ rs) n = (r.0 × (n ≡ r.1)) ⊎ ((r.0 → ⊥) × Decided rs n)

-- each test of the table has the number of its reason, and says it, where none before it holds
abbrev pub Matches : Table → Reasons → Type 0
Matches [] [] = Unit {0}
Matches [] (r ∷ rs) = ⊥
Matches (x ∷ xs) [] = ⊥
Matches (x ∷ xs) (r ∷ rs) = (x.1 ≡ r.1) × Says x.0 r.0 × ((r.0 → ⊥) → Matches xs rs)

-- then the table's number is decided by the reasons
pub decided : (xs : Table) (rs : Reasons) → Matches xs rs → Decided rs (first_match xs)
decided [] [] h = refl
decided [] (r ∷ rs) h = absurd h
decided (x ∷ xs) [] h = absurd h
decided ((true, n) ∷ xs) (r ∷ rs) h = inl (h.1.yes refl, h.0)
decided ((false, n) ∷ xs) (r ∷ rs) h = let o = h.1.no refl in inr (o, decided xs rs (h.2 o))

-- ---- a number that stands once in a table is given exactly if its reason holds and none before it does

-- no reason has the number k, which is not 0
abbrev pub lacks : ℕ → Reasons → Bool
lacks k [] = not (eqb k 0)
lacks k (r ∷ rs) = not (eqb k r.1) && lacks k rs

abbrev pub NoneOf : Reasons → Type 0
NoneOf [] = Unit {0}
NoneOf (r ∷ rs) = (r.0 → ⊥) × NoneOf rs

-- where no reason holds, no number is given
pub none_given : (rs : Reasons) {n : ℕ} → NoneOf rs → Decided rs n → n ≡ 0
none_given [] o d = d
none_given (r ∷ rs) o (inl p) = absurd (o.0 p.0)
none_given (r ∷ rs) o (inr p) = none_given rs o.1 p.1

other : (k n : ℕ) → T (not (eqb k n)) → k ≡ n → ⊥
other k n h e = go (eqb k n) (eq-eqb k n e) h
  where
    go : (b : Bool) → b ≡ true → T (not b) → ⊥
    go true f h = h
    go false f h = clash f refl

not_given : (k : ℕ) (rs : Reasons) {n : ℕ} → T (lacks k rs) → Decided rs n → n ≡ k → ⊥
not_given k [] h d e = other k 0 h (sym e ∙ d)
not_given k (r ∷ rs) h (inl p) e = other k r.1 (both (not (eqb k r.1)) (lacks k rs) h).0 (sym e ∙ p.1)
not_given k (r ∷ rs) h (inr p) e = not_given k rs (both (not (eqb k r.1)) (lacks k rs) h).1 p.1 e

pub given_exactly : (rs : Reasons) (P : Type 0) (k : ℕ) (ss : Reasons) {n : ℕ} → T (lacks k rs) → T (lacks k ss)
    → Decided (rs ++ ((P, k) ∷ ss)) n → (n ≡ k) ↔ (P × NoneOf rs)
given_exactly [] P k ss h g (inl p) = (λ e. (p.0, tt), λ q. p.1)
given_exactly [] P k ss h g (inr p) = (λ e. absurd (not_given k ss g p.1 e), λ q. absurd (p.0 q.0))
given_exactly (r ∷ rs) P k ss h g (inl p) =
    (λ e. absurd (other k r.1 (both (not (eqb k r.1)) (lacks k rs) h).0 (sym e ∙ p.1)), λ q. absurd (q.1.0 p.0))
given_exactly (r ∷ rs) P k ss h g (inr p) =
    let f = given_exactly rs P k ss (both (not (eqb k r.1)) (lacks k rs) h).1 g p.1 in
    (λ e. ((f.0 e).0, (p.0, (f.0 e).1)), λ q. f.1 (q.0, q.1.1))
