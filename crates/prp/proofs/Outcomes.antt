-- What every walk comes to: exactly why it is refused, in document 01's order "20, 22, then 18 for PRP1, 21, then 18 before 19", and
-- what it has found if it is not. Assumes nothing.
use Prim.Native.Nat.{ℕ, zero, suc, ◌-◌, ◌*◌, ◌%◌, ◌≤◌, ◌<◌}
use mathlib.Core.Path.{◌≡◌, refl, ap, sym, subst, ◌∙◌}
use mathlib.Core.Bool.{Bool, true, false, ◌||◌}
use mathlib.Core.List.{List, [], ◌∷◌}
use mathlib.Core.Logic.{◌⊎◌, inl, inr, ⊎_elim, ◌↔◌, ◌≢◌}
use native.Mathlib.Omega.{arith}
use borrow.Author.Tests.{lt-ltb, le-ltb, eq-eqb, ne_eqb}
use lib.Dec.{ltb}
use Rattle.rules.specs.Rules.{settle}
use Rattle.rules.proofs.Tests.{lt_or_ge, same_or_not}
use Rattle.prp.specs.Pages.{page_size, pages_touched}
use Rattle.prp.specs.Walk.{Walk, refused, found, after, list, data_pages, before_walk, page_walk}
use Rattle.prp.specs.Answer.{Found}
use Rattle.prp.proofs.Touched.{page_low, page_eight, by_offset, touched_most}
use Rattle.prp.proofs.Prp2.{one_page, two_pages, page_offset, from_list, list_address}
use Rattle.prp.proofs.Addresses.{Comes, comes_list, Complete, Outcome, outcome}

-- "length outside 1 to 1,048,576 bytes"
abbrev pub WrongLength : ℕ → Type 0
WrongLength len = (len < 1) ⊎ (1048576 < len)

abbrev pub RightLength : ℕ → Type 0
RightLength len = (1 ≤ len) × (len ≤ 1048576)

-- a transfer that nothing refuses before PRP2 is looked at
pub record Accepted (prp1 len k address_room count_room : ℕ) : Type 0 where
  pub right : RightLength len
  pub size : k ≤ 4
  pub aligned : prp1 % 4 ≡ 0
  pub addresses : 8 * pages_touched (page_size k) prp1 len ≤ address_room
  pub counts : 4 * pages_touched (page_size k) prp1 len ≤ count_room

either : {a b c d : ℕ} → (a < b) ⊎ (c < d) → (ltb a b || ltb c d) ≡ true
either {a} {b} (inl h) = rw (lt-ltb a b h)
either {a} {b} {c} {d} (inr h) = rw (lt-ltb c d h) (or-true (ltb a b))
  where
    or-true : (t : Bool) → (t || true) ≡ true
    or-true true = refl
    or-true false = refl

neither : {a b c d : ℕ} → b ≤ a → d ≤ c → (ltb a b || ltb c d) ≡ false
neither {a} {b} {c} {d} g h = rw (le-ltb a b g, le-ltb c d h)

module _ (m : List ℕ) (prp1 prp2 len k address_room count_room : ℕ) where
  -- "With N the pages touched"
  abbrev N : ℕ
  N = pages_touched (page_size k) prp1 len

  abbrev walk : Walk
  walk = page_walk m prp1 prp2 len k address_room count_room

  abbrev listed : Walk
  listed = list (page_size k) m (N - 1) prp2

  abbrev Good : Type 0
  Good = Accepted prp1 len k address_room count_room

  -- "21 if either buffer has room for fewer; for the rig 8 and 4 bytes each"
  abbrev NoRoom : Type 0
  NoRoom = (address_room < 8 * N) ⊎ (count_room < 4 * N)

  -- why a walk is refused with a number
  pub data Why : ℕ → Type 0 where
    wrong_length : WrongLength len → Why 20
    wrong_size : RightLength len → 4 < k → Why 22
    wrong_prp1 : RightLength len → k ≤ 4 → prp1 % 4 ≢ 0 → Why 18
    no_room : RightLength len → k ≤ 4 → prp1 % 4 ≡ 0 → NoRoom → Why 21
    wrong_page : Good → N ≡ 2 → prp2 % page_size k ≢ 0 → Why 18
    wrong_list : Good → 3 ≤ N → prp2 % 8 ≢ 0 → Why 18
    wrong_entry : Good → 3 ≤ N → prp2 % 8 ≡ 0 → listed ≡ refused 18 → Why 18
    no_entry : Good → 3 ≤ N → prp2 % 8 ≡ 0 → listed ≡ refused 19 → Why 19

  -- the tests before PRP2, in their order
  length_refuses : WrongLength len → walk ≡ refused 20
  unfolding page_walk settle before_walk
  length_refuses h = simp (either h)

  module _ (l : RightLength len) where
    size_refuses : 4 < k → walk ≡ refused 22
    unfolding page_walk settle before_walk
    size_refuses h = simp (neither l.0 l.1, lt-ltb 4 k h)

    module _ (size : k ≤ 4) where
      prp1_refuses : prp1 % 4 ≢ 0 → walk ≡ refused 18
      unfolding page_walk settle before_walk
      prp1_refuses h = simp (neither l.0 l.1, le-ltb 4 k size, ne_eqb (prp1 % 4) 0 h)

      room_refuses : prp1 % 4 ≡ 0 → NoRoom → walk ≡ refused 21
      unfolding page_walk settle before_walk
      room_refuses g h = simp (neither l.0 l.1, le-ltb 4 k size, eq-eqb (prp1 % 4) 0 g, either h)

  -- then the pages are looked at
  pub begins : Good → walk ≡ data_pages (page_size k) m prp1 prp2 N
  unfolding page_walk settle before_walk
  begins a =
      simp (
        neither a.right.0 a.right.1,
        le-ltb 4 k a.size,
        eq-eqb (prp1 % 4) 0 a.aligned,
        neither a.addresses a.counts,
      )

  -- each reason gives its number
  pub because : {x : ℕ} → Why x → walk ≡ refused x
  unfolding after
  because (wrong_length h) = length_refuses h
  because (wrong_size l h) = size_refuses l h
  because (wrong_prp1 l s h) = prp1_refuses l s h
  because (no_room l s g h) = room_refuses l s g h
  because (wrong_page a two h) = begins a ∙ rw two (page_offset (page_size k) m prp1 prp2 h)
  because (wrong_list a n h) = begins a ∙ list_address (page_size k) m prp1 prp2 N n h
  because (wrong_entry a n g h) = begins a ∙ from_list (page_size k) m prp1 prp2 N n g ∙ ap (after (prp1 ∷ []) 0) h
  because (no_entry a n g h) = begins a ∙ from_list (page_size k) m prp1 prp2 N n g ∙ ap (after (prp1 ∷ []) 0) h

  -- and there is no other: a walk without a reason goes on and is found
  data End : Type 0 where
    refuses : {x : ℕ} → Why x → End
    finds : Good → Found walk → End

  module _ (a : Good) where
    finds_as : (n : ℕ) (w : Walk) → N ≡ n → data_pages (page_size k) m prp1 prp2 n ≡ w → Found w → End
    finds_as n w e is f = finds a (subst Found (sym (begins a ∙ rw e is)) f)

    by_list : 3 ≤ N → prp2 % 8 ≡ 0 → (w : Walk) → listed ≡ w → Comes (page_size k) (N - 1) prp2 w → End
    unfolding Comes after Found
    by_list n g (refused x) e (inl h) = refuses (wrong_entry a n g (e ∙ ap refused h))
    by_list n g (refused x) e (inr h) = refuses (no_entry a n g (e ∙ ap refused h))
    by_list n g (found l reads) e h = finds_as N _ refl (from_list (page_size k) m prp1 prp2 N n g ∙ ap (after (prp1 ∷ []) 0) e) tt

    some_pages : 0 < N
    unfolding pages_touched
    some_pages = omega arith

    by_pages : (n : ℕ) → N ≡ n → End
    unfolding Found
    by_pages zero e = absurd (omega (arith, some_pages))
    by_pages (suc zero) e = finds_as 1 _ e (one_page (page_size k) m prp1 prp2) tt
    by_pages (suc (suc zero)) e =
        ⊎_elim (λ g. finds_as 2 _ e (two_pages (page_size k) m prp1 prp2 g) tt) (λ h. refuses (wrong_page a e h))
        (same_or_not (prp2 % page_size k) 0)
    by_pages (suc (suc (suc n))) e =
        ⊎_elim (λ g. by_list (omega arith) g listed refl (comes_list (page_size k) m (page_low k) (page_eight k 0).0 (N - 1) prp2))
        (λ h. refuses (wrong_list a (omega arith) h)) (same_or_not (prp2 % 8) 0)

  ends : End
  ends =
      ⊎_elim (λ h. refuses (wrong_length (inl h))) (λ some.
      ⊎_elim (λ h. refuses (wrong_length (inr h))) (λ few.
      ⊎_elim (λ h. refuses (wrong_size (some, few) h)) (λ size.
      ⊎_elim (λ aligned.
      ⊎_elim (λ h. refuses (no_room (some, few) size aligned (inl h))) (λ addresses.
      ⊎_elim (λ h. refuses (no_room (some, few) size aligned (inr h))) (λ counts.
      by_pages (record { right = (some, few); size = size; aligned = aligned; addresses = addresses; counts = counts }) N refl)
      (lt_or_ge count_room (4 * N))) (lt_or_ge address_room (8 * N)))
      (λ h. refuses (wrong_prp1 (some, few) size h)) (same_or_not (prp1 % 4) 0))
      (lt_or_ge 4 k)) (lt_or_ge 1048576 len)) (lt_or_ge len 1)

  abbrev number_of : Walk → ℕ
  number_of (refused x) = x
  number_of (found l reads) = 0

  -- a walk is refused with a number exactly if there is a reason for it
  pub refused_exactly : (x : ℕ) → (walk ≡ refused x) ↔ Why x
  unfolding Found
  refused_exactly x = (λ e. by_end e ends, because)
    where
      by_end : walk ≡ refused x → End → Why x
      by_end e (refuses w) = subst Why (ap number_of (sym (because w) ∙ e)) w
      by_end e (finds a f) = absurd (subst Found e f)

  -- so that 20, 22 and 21 have one each
  pub length_exactly : (walk ≡ refused 20) ↔ WrongLength len
  length_exactly = (λ e. alone ((refused_exactly 20).0 e), λ h. because (wrong_length h))
    where
      alone : Why 20 → WrongLength len
      alone (wrong_length h) = h

  pub size_exactly : (walk ≡ refused 22) ↔ (RightLength len × (4 < k))
  size_exactly = (λ e. alone ((refused_exactly 22).0 e), λ h. because (wrong_size h.0 h.1))
    where
      alone : Why 22 → RightLength len × (4 < k)
      alone (wrong_size l h) = (l, h)

  pub room_exactly : (walk ≡ refused 21) ↔ (RightLength len × (k ≤ 4) × (prp1 % 4 ≡ 0) × NoRoom)
  room_exactly = (λ e. alone ((refused_exactly 21).0 e), λ h. because (no_room h.0 h.1 h.2 h.3))
    where
      alone : Why 21 → RightLength len × (k ≤ 4) × (prp1 % 4 ≡ 0) × NoRoom
      alone (no_room l s g h) = (l, s, g, h)

  -- and else it has found what it should
  pub complete : {l : List ℕ} {reads : ℕ} → walk ≡ found l reads → Good × Complete (page_size k) prp1 prp2 N l reads
  unfolding Found Outcome
  complete {l} {reads} e = by_end ends
    where
      by_end : End → Good × Complete (page_size k) prp1 prp2 N l reads
      by_end (refuses w) = absurd (subst Found (sym e ∙ because w) tt)
      by_end (finds a f) =
          let most = touched_most (page_size k) prp1 len (page_low k) a.right.0 a.right.1 in
          let same = by_offset (page_size k) prp1 len (page_low k) a.right.0 in
          let o = outcome (page_size k) m prp1 prp2 (page_low k) (page_eight k 0).0 N (omega (arith, same)) (omega (arith, same, most)) in
          (a, subst (Outcome (page_size k) prp1 prp2 N) (sym (begins a) ∙ e) o)
