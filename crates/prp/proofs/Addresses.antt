-- What a walk has found that is not refused: as many addresses as pages are touched, PRP1 first and the others at offset 0, and the
-- number of list entries read. Assumes nothing.
use Prim.Native.Nat.{ℕ, zero, suc, ◌+◌, ◌-◌, ◌*◌, ◌%◌, ◌≤◌, ◌<◌}
use mathlib.Core.Path.{◌≡◌, refl, sym, ap, subst}
use mathlib.Core.List.{List, [], ◌∷◌}
use mathlib.Core.Logic.{◌⊎◌, inl, inr, ⊎_elim, ◌≢◌}
use native.Mathlib.Nat.{mod-lt, zero-mod, mod-mod_of_dvd, dvd_of_mod-eq-zero}
use native.Mathlib.Omega.{arith}
use lib.ListN.{length, get_or}
use Rattle.rules.proofs.Tests.{lt_or_ge, same_or_not}
use Rattle.le.specs.Le.{le_at}
use Rattle.prp.specs.Walk.{Walk, refused, found, after, list, data_pages}
use Rattle.prp.specs.Answer.{addresses_of, Found}
use Rattle.prp.proofs.Touched.{next_place}
use Rattle.prp.proofs.Lists.{outside, offset, Read, address, pointer}
use Rattle.prp.proofs.Prp2.{one_page, two_pages, page_offset, from_list, list_address}

-- A list of n addresses from a on. Where they fit into the rest of a's list page, as many entries are read; else one more, the
-- pointer to the next list.
pub record Listed (page n a : ℕ) (l : List ℕ) (reads : ℕ) : Type 0 where
  many : length l ≡ n
  aligned : (i : ℕ) → get_or l i 0 % page ≡ 0
  fit : a % page + 8 * n ≤ page → reads ≡ n
  over : n ≤ 256 → a % 8 ≡ 0 → page < a % page + 8 * n → reads ≡ n + 1

-- a list comes to 18, to 19 or to its addresses
unfoldable pub Comes : ℕ → ℕ → ℕ → Walk → Type 0
Comes page n a (refused number) = (number ≡ 18) ⊎ (number ≡ 19)
Comes page n a (found l reads) = Listed page n a l reads

module _ (page : ℕ) (m : List ℕ) (low : 4096 ≤ page) (eight : page % 8 ≡ 0) where
  -- an entry stands wholly in its list page
  entry_fits : (a : ℕ) → a % 8 ≡ 0 → a % page + 8 ≤ page
  entry_fits a h = omega (arith, mod-lt a {m = page} (omega arith), mod-mod_of_dvd 8 a (dvd_of_mod-eq-zero 8 eight))

  -- by a pointer at a to e
  by_pointer :
      (n a e : ℕ) (w : Walk) → a % page + 8 ≡ page → 1 < n → e % page ≡ 0 → Comes page n e w → Comes page n a (after [] 1 w)
  unfolding Comes after
  by_pointer n a e (refused number) end more at-0 h = h
  by_pointer n a e (found l reads) end more at-0 h = record {
    many = h.many;
    aligned = h.aligned;
    fit = λ f. omega arith;
    over = λ few at_8 o. omega (arith, h.fit (omega arith));
  }

  -- the entry behind a stands next to it in the list page, if one is still wanted
  behind : (n a : ℕ) → a % page + 8 ≤ page → (a % page + 8 ≡ page → suc n ≡ 1) → (n ≡ 0) ⊎ ((a + 8) % page ≡ a % page + 8)
  behind n a h last =
      ⊎_elim (λ (end : a % page + 8 ≡ page). inl (omega (arith, last end)))
      (λ (inner : a % page + 8 ≢ page). inr (next_place page a (omega arith))) (same_or_not (a % page + 8) page)

  -- by the address e at a
  by_address :
      (n a e : ℕ) (w : Walk) → (a % page + 8 ≡ page → suc n ≡ 1) → e % page ≡ 0 → Comes page n (a + 8) w →
      Comes page (suc n) a (after (e ∷ []) 1 w)
  unfolding Comes after
  by_address n a e (refused number) last at-0 h = h
  by_address n a e (found l reads) last at-0 h = record {
    many = ap suc h.many;
    aligned = first_too;
    fit = λ f.
        let end = mod-lt (a + 8) {m = page} (omega arith) in
        ⊎_elim (λ (z : n ≡ 0). omega (arith, h.fit (omega arith)))
        (λ (g : (a + 8) % page ≡ a % page + 8). omega (arith, h.fit (omega arith))) (behind n a (omega arith) last);
    over = λ few at_8 o.
        let here = entry_fits a at_8 in
        ⊎_elim (λ (z : n ≡ 0). absurd (omega arith))
        (λ (g : (a + 8) % page ≡ a % page + 8). omega (arith, h.over (omega arith) (omega arith) (omega arith))) (behind n a here last);
  }
    where
      first_too : (i : ℕ) → get_or (e ∷ l) i 0 % page ≡ 0
      first_too zero = at-0
      first_too (suc i) = h.aligned i

  -- a list comes to this where its first entry, if it is read, comes to it
  comes_read :
      (n a : ℕ) → 0 < n → (Read page m a (le_at 8 m a) → Comes page n a (list page m n a)) → Comes page n a (list page m n a)
  unfolding Comes
  comes_read n a some h =
      ⊎_elim (λ (g : length m < a + 8). subst (Comes page n a) (sym (outside page m n a some g)) (inr refl))
      (λ (inside : a + 8 ≤ length m).
      ⊎_elim (λ (at-0 : le_at 8 m a % page ≡ 0). h (record { inside = inside; is = refl; aligned = at-0 }))
      (λ (g : le_at 8 m a % page ≢ 0). subst (Comes page n a) (sym (offset page m n a some inside g)) (inl refl))
      (same_or_not (le_at 8 m a % page) 0)) (lt_or_ge (length m) (a + 8))

  comes_address :
      (n a : ℕ) → (a % page + 8 ≡ page → suc n ≡ 1) → ((b : ℕ) → Comes page n b (list page m n b)) →
      Comes page (suc n) a (list page m (suc n) a)
  comes_address n a last h =
      let back : suc n - 1 ≡ n = omega arith in
      comes_read (suc n) a (omega arith)
      (λ r. rw (address r (suc n) (omega arith) low last, back) (by_address n a (le_at 8 m a) _ last r.aligned (h (a + 8))))

  comes_none : (a : ℕ) → Comes page 0 a (list page m 0 a)
  unfolding list Comes
  comes_none a = record {
    many = refl;
    aligned = λ i. zero-mod page;
    fit = λ f. refl;
    over = λ few at_8 o. absurd (omega (arith, entry_fits a at_8));
  }

  pub comes_list : (n a : ℕ) → Comes page n a (list page m n a)
  comes_list zero a = comes_none a
  comes_list (suc n) a =
      ⊎_elim (λ (one : n ≡ 0). comes_address n a (λ end. ap suc one) (comes_list n))
      (λ (more : n ≢ 0).
      ⊎_elim (λ (end : a % page + 8 ≡ page). comes_read (suc n) a (omega arith) (λ r.
      rw (pointer r (suc n) (omega arith) low end)
      (by_pointer (suc n) a (le_at 8 m a) _ end (omega arith) r.aligned
      (comes_address n (le_at 8 m a) (λ g. absurd (omega (arith, r.aligned))) (comes_list n)))))
      (λ (inner : a % page + 8 ≢ page). comes_address n a (λ end. absurd (inner end)) (comes_list n)) (same_or_not (a % page + 8) page))
      (same_or_not n 0)

-- What is found for n pages: their addresses, and as many entries read as the list has.
pub record Complete (page prp1 prp2 n : ℕ) (l : List ℕ) (reads : ℕ) : Type 0 where
  -- as many addresses as pages, PRP1 first and the others at offset 0
  pub many : length l ≡ n
  pub first : get_or l 0 0 ≡ prp1
  pub others : (i : ℕ) → get_or l (suc i) 0 % page ≡ 0
  -- one page and two are found without a list
  pub unread : n ≤ 2 → reads ≡ 0
  -- of a list n - 1 entries are read where they fit into the rest of its first list page, and else one more, the pointer to the next
  pub fit : 3 ≤ n → prp2 % page + 8 * (n - 1) ≤ page → reads ≡ n - 1
  pub over : 3 ≤ n → page < prp2 % page + 8 * (n - 1) → reads ≡ n

-- pages come to 18, to 19 or to all that
unfoldable pub Outcome : ℕ → ℕ → ℕ → ℕ → Walk → Type 0
Outcome page prp1 prp2 n (refused number) = (number ≡ 18) ⊎ (number ≡ 19)
Outcome page prp1 prp2 n (found l reads) = Complete page prp1 prp2 n l reads

module _ (page : ℕ) (m : List ℕ) (prp1 prp2 : ℕ) (low : 4096 ≤ page) (eight : page % 8 ≡ 0) where
  by_list :
      (n : ℕ) (w : Walk) → 3 ≤ n → n ≤ 257 → prp2 % 8 ≡ 0 → Comes page (n - 1) prp2 w → Outcome page prp1 prp2 n (after (prp1 ∷ []) 0 w)
  unfolding Comes Outcome after
  by_list n (refused number) three most at_8 h = h
  by_list n (found l reads) three most at_8 h = record {
    many = omega (arith, h.many);
    first = refl;
    others = h.aligned;
    unread = λ two. absurd (omega arith);
    fit = λ _ f. omega (arith, h.fit f);
    over = λ _ o. omega (arith, h.over (omega arith) at_8 o);
  }

  with_list : (n : ℕ) → 3 ≤ n → n ≤ 257 → Outcome page prp1 prp2 n (data_pages page m prp1 prp2 n)
  unfolding Outcome
  with_list n three most =
      ⊎_elim (λ (at_8 : prp2 % 8 ≡ 0).
      subst (Outcome page prp1 prp2 n) (sym (from_list page m prp1 prp2 n three at_8))
      (by_list n _ three most at_8 (comes_list page m low eight (n - 1) prp2)))
      (λ (g : prp2 % 8 ≢ 0). subst (Outcome page prp1 prp2 n) (sym (list_address page m prp1 prp2 n three g)) (inl refl))
      (same_or_not (prp2 % 8) 0)

  only : prp2 % page ≡ 0 → (i : ℕ) → get_or (prp2 ∷ []) i 0 % page ≡ 0
  only at-0 zero = at-0
  only at-0 (suc i) = zero-mod page

  pub outcome : (n : ℕ) → 0 < n → n ≤ 257 → Outcome page prp1 prp2 n (data_pages page m prp1 prp2 n)
  unfolding Outcome
  outcome zero some most = absurd (omega arith)
  outcome (suc zero) some most =
      subst (Outcome page prp1 prp2 1) (sym (one_page page m prp1 prp2)) (record {
        many = refl;
        first = refl;
        others = λ i. zero-mod page;
        unread = λ two. refl;
        fit = λ three. absurd (omega arith);
        over = λ three. absurd (omega arith);
      })
  outcome (suc (suc zero)) some most =
      ⊎_elim (λ (at-0 : prp2 % page ≡ 0). subst (Outcome page prp1 prp2 2) (sym (two_pages page m prp1 prp2 at-0)) (record {
        many = refl;
        first = refl;
        others = only at-0;
        unread = λ two. refl;
        fit = λ three. absurd (omega arith);
        over = λ three. absurd (omega arith);
      }))
      (λ (g : prp2 % page ≢ 0). subst (Outcome page prp1 prp2 2) (sym (page_offset page m prp1 prp2 g)) (inl refl))
      (same_or_not (prp2 % page) 0)
  outcome (suc (suc (suc n))) some most = with_list (suc (suc (suc n))) (omega arith) most

  -- a walk that is not refused finds an address for each page
  pub pages_length :
      (n : ℕ) → 0 < n → n ≤ 257 → Found (data_pages page m prp1 prp2 n) → length (addresses_of (data_pages page m prp1 prp2 n)) ≡ n
  unfolding Found Outcome addresses_of
  pages_length n some most f = as_many (data_pages page m prp1 prp2 n) f (outcome n some most)
    where
      as_many : (w : Walk) → Found w → Outcome page prp1 prp2 n w → length (addresses_of w) ≡ n
      as_many (refused number) f h = absurd f
      as_many (found l reads) f h = h.many
