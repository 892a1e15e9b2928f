-- How a list is read, entry by entry: what refuses it, which entry is a pointer and which names a page of data. Assumes nothing.
use Prim.Native.Nat.{ℕ, zero, suc, ◌+◌, ◌-◌, ◌%◌, ◌≤◌, ◌<◌}
use mathlib.Core.Path.{◌≡◌, refl, ap, sym, subst}
use mathlib.Core.List.{List, [], ◌∷◌, ◌++◌, append_assoc}
use mathlib.Core.Bool.{Bool, true, false, ◌&&◌}
use mathlib.Core.Logic.{◌≢◌, ⊎_elim}
use native.Mathlib.Nat.{add_assoc}
use native.Mathlib.Omega.{arith}
use borrow.Author.Tests.{lt-ltb, le-ltb, lt-leb, le-leb, eq-eqb, ne_eqb}
use lib.Dec.{ltb, eqb}
use lib.ListN.{length}
use Rattle.rules.specs.Rules.{pick}
use Rattle.rules.proofs.Tests.{and_no, same_or_not}
use Rattle.le.specs.Le.{le_at}
use Rattle.prp.specs.Walk.{Walk, refused, found, after, in_memory, last_of_page, read_entry, list}
use Rattle.prp.specs.Answer.{addresses_of, Found}

pick_same : {A : Type 0} (b : Bool) (x : A) → pick b x x ≡ x
pick_same true x = refl
pick_same false x = refl

not_both : (x y n : ℕ) → (x ≡ y → n ≡ 0) → (eqb x y && ltb 1 (suc n)) ≡ false
not_both x y n h =
    ⊎_elim (λ e. and_no (eqb x y) (ltb 1 (suc n)) (le-ltb 1 (suc n) (omega (arith, h e)))) (λ g. rw (ne_eqb x y g)) (same_or_not x y)

pub after_after : (l l' : List ℕ) (n n' : ℕ) (w : Walk) → after l n (after l' n' w) ≡ after (l ++ l') (n + n') w
unfolding after
after_after l l' n n' (refused number) = refl
after_after l l' n n' (found k r) = simp (append_assoc, add_assoc)

pub after_found :
    {w : Walk} (l : List ℕ) (n : ℕ) (w' : Walk) → w ≡ after l n w' → Found w → Found w' × (addresses_of w ≡ l ++ addresses_of w')
unfolding Found after addresses_of
after_found l n (refused number) e f = absurd (subst Found e f)
after_found l n (found l' n') e f = (tt, ap addresses_of e)

-- "The walk ends at the entry that covers the last byte"
pub ended : (page : ℕ) (m : List ℕ) (a : ℕ) → list page m 0 a ≡ found [] 0
unfolding list
ended page m a = refl

-- "19: PRP list entry not wholly in memory"
pub outside : (page : ℕ) (m : List ℕ) (left a : ℕ) → 0 < left → length m < a + 8 → list page m left a ≡ refused 19
unfolding list read_entry in_memory
outside page m zero a some h = absurd (omega arith)
outside page m (suc n) a some h = simp (lt-leb (a + 8) (length m) h, pick_same)

-- "List entries have offset 0", pointers among them: 18 where one has another, wherever it leads
pub offset :
    (page : ℕ) (m : List ℕ) (left a : ℕ) → 0 < left → a + 8 ≤ length m → le_at 8 m a % page ≢ 0 → list page m left a ≡ refused 18
unfolding list read_entry in_memory
offset page m zero a some h g = absurd (omega arith)
offset page m (suc n) a some h g = simp (le-leb (a + 8) (length m) h, ne_eqb (le_at 8 m a % page) 0 g, pick_same)

-- the entry at a lies in memory, and is e, at offset 0
pub record Read (page : ℕ) (m : List ℕ) (a e : ℕ) : Type 0 where
  pub inside : a + 8 ≤ length m
  pub is : e ≡ le_at 8 m a
  pub aligned : e % page ≡ 0

module _ {page : ℕ} {m : List ℕ} {a e : ℕ} (r : Read page m a e) where
  -- "The last entry of a list page points to the next list, at offset 0, exactly if more than one page of data is left": else the
  -- entry names a page of data, and the list goes on behind it;
  pub address :
      (left : ℕ) → 0 < left → 4096 ≤ page → (a % page + 8 ≡ page → left ≡ 1) →
      list page m left a ≡ after (e ∷ []) 1 (list page m (left - 1) (a + 8))
  unfolding list read_entry in_memory last_of_page
  address zero some low h = absurd (omega arith)
  address (suc n) some low h =
      let back : suc n - 1 ≡ n = omega arith in
      let no_pointer = not_both (a % page) (page - 8) n (λ g. omega (arith, h (omega arith))) in
      simp (no_pointer, le-leb _ _ r.inside, sym r.is, eq-eqb (e % page) 0 r.aligned, back) (after_after [] (e ∷ []) 1 0 _)

  -- and a pointer is followed, to a list whose first entry is none
  pub pointer : (left : ℕ) → 1 < left → 4096 ≤ page → a % page + 8 ≡ page → list page m left a ≡ after [] 1 (list page m left e)
  unfolding list read_entry in_memory last_of_page
  pointer zero some low h = absurd (omega arith)
  pointer (suc n) some low h =
      let first = ne_eqb (e % page) (page - 8) (λ g. omega (arith, r.aligned)) in
      simp (
        lt-ltb 1 (suc n) some,
        eq-eqb (a % page) (page - 8) (omega arith),
        le-leb _ _ r.inside,
        sym r.is,
        eq-eqb (e % page) 0 r.aligned,
        first,
      )
