-- The numbers of the walk's answer, refusal and list entries read, by rules of their own. Assumes nothing.
use Rattle.prp.specs.declared.Walked.{Walked}
use Rattle.std.specs.Prelude.{Result}
use Prim.Native.Nat.{ℕ, zero, suc, ◌+◌, ◌-◌, ◌*◌, ◌%◌, ◌≤◌, ◌<◌}
use mathlib.Core.Bool.{true, false}
use mathlib.Core.List.{List, [], ◌∷◌}
use mathlib.Core.Logic.{⊎_elim}
use mathlib.Core.Path.{◌≡◌, refl, sym, ap, ◌∙◌}
use native.Mathlib.Omega.{arith}
use borrow.Author.Tests.{lt-ltb, le-ltb, ne_eqb, le-leb, lt-leb}
use lib.Dec.{eqb}
use Rattle.rules.specs.Rules.{first_match}
use Rattle.rules.proofs.Tests.{bool_cases, lt_or_ge, same_or_not}
use Rattle.rules.proofs.Tables.{Unapplied, passed, append_refused, append_passed, settle_refused, settle_accepted}
use Rattle.prp.specs.Pages.{page_size, pages_touched}
use Rattle.prp.specs.Walk.{Walk, refused, found, after, list, data_pages, before_walk, page_walk}
use Rattle.prp.specs.Answer.{answer, refusal_of, reads_of, prp2_rules, walk_refusal, entries_read, walk_reads}
use Rattle.prp.proofs.Addresses.{Complete}
use Rattle.prp.proofs.Outcomes.{Why, wrong_length, wrong_size, wrong_prp1, no_room, wrong_page, wrong_list, wrong_entry, no_entry}
use Rattle.prp.proofs.Outcomes.{refused_exactly, complete}

after_number : (l : List ℕ) (n : ℕ) (w : Walk) → refusal_of (answer (after l n w)) ≡ refusal_of (answer w)
unfolding answer after
after_number l n (refused x) = refl
after_number l n (found k reads) = refl

-- from PRP2 on
prp2_number : (page : ℕ) (m : List ℕ) (prp1 prp2 n : ℕ) → 0 < n
    → refusal_of (answer (data_pages page m prp1 prp2 n)) ≡ first_match (prp2_rules page m prp2 n)
unfolding answer data_pages
prp2_number page m prp1 prp2 zero h = absurd (omega arith)
prp2_number page m prp1 prp2 (suc zero) h = refl
prp2_number page m prp1 prp2 (suc (suc zero)) h =
    ⊎_elim (λ (e : eqb (prp2 % page) 0 ≡ true). rw e) (λ (e : eqb (prp2 % page) 0 ≡ false). rw e) (bool_cases (eqb (prp2 % page) 0))
prp2_number page m prp1 prp2 (suc (suc (suc n))) h =
    let k = suc (suc (suc n)) in
    let one = ne_eqb k 1 (omega arith) in
    let two = ne_eqb k 2 (omega arith) in
    let more = lt-ltb 2 k (omega arith) in
    ⊎_elim (λ (e : eqb (prp2 % 8) 0 ≡ true). rw (one, two, more, e) (after_number (prp1 ∷ []) 0 (list page m (k - 1) prp2)))
    (λ (e : eqb (prp2 % 8) 0 ≡ false). rw (one, two, more, e)) (bool_cases (eqb (prp2 % 8) 0))

module _ (m : List ℕ) (prp1 prp2 len k address_room count_room : ℕ) where
  abbrev walk : Walk
  walk = page_walk m prp1 prp2 len k address_room count_room

  abbrev N : ℕ
  N = pages_touched (page_size k) prp1 len

  some_pages : 0 < N
  unfolding pages_touched
  some_pages = omega arith

  passes : first_match (before_walk prp1 len k address_room count_room) ≡ 0 → Unapplied (before_walk prp1 len k address_room count_room)
  unfolding before_walk
  passes z = passed (before_walk prp1 len k address_room count_room) tt z

  refusal_number : refusal_of (answer walk) ≡ walk_refusal m prp1 prp2 len k address_room count_room
  unfolding page_walk walk_refusal answer
  refusal_number =
      let before = before_walk prp1 len k address_room count_room in
      let rules = prp2_rules (page_size k) m prp2 N in
      ⊎_elim
      (λ (z : first_match before ≡ 0).
      ap (λ w. refusal_of (answer w)) (settle_accepted (first_match before) refused _ z)
      ∙ prp2_number (page_size k) m prp1 prp2 N some_pages
      ∙ sym (append_passed before rules (passes z)))
      (λ (d : first_match before ≡ 0 → ⊥).
      ap (λ w. refusal_of (answer w)) (settle_refused (first_match before) refused _ d) ∙ sym (append_refused before rules d))
      (same_or_not (first_match before) 0)

  -- a refusal has a number
  above_zero : {x : ℕ} → Why m prp1 prp2 len k address_room count_room x → x ≡ 0 → ⊥
  above_zero (wrong_length h) z = absurd (omega arith)
  above_zero (wrong_size l h) z = absurd (omega arith)
  above_zero (wrong_prp1 l s h) z = absurd (omega arith)
  above_zero (no_room l s g h) z = absurd (omega arith)
  above_zero (wrong_page a two h) z = absurd (omega arith)
  above_zero (wrong_list a n h) z = absurd (omega arith)
  above_zero (wrong_entry a n g h) z = absurd (omega arith)
  above_zero (no_entry a n g h) z = absurd (omega arith)

  reads_complete : {l : List ℕ} {reads : ℕ} → Complete (page_size k) prp1 prp2 N l reads → reads ≡ entries_read (page_size k) prp2 N
  reads_complete {l} {reads} c =
      ⊎_elim
      (λ (h : 2 < N). ⊎_elim
      (λ (f : page_size k < prp2 % page_size k + 8 * (N - 1)). rw (lt-ltb 2 N h, lt-leb _ (page_size k) f) (omega (arith, c.over h f)))
      (λ (f : prp2 % page_size k + 8 * (N - 1) ≤ page_size k). rw (lt-ltb 2 N h, le-leb _ (page_size k) f) (omega (arith, c.fit h f)))
      (lt_or_ge (page_size k) (prp2 % page_size k + 8 * (N - 1))))
      (λ (h : N ≤ 2). rw (le-ltb 2 N h) (c.unread h)) (lt_or_ge 2 N)

  reads_number : reads_of (answer walk) ≡ walk_reads m prp1 prp2 len k address_room count_room
  unfolding answer walk_reads
  reads_number = by_walk walk refl
    where
      by_walk : (w : Walk) → walk ≡ w → reads_of (answer walk) ≡ walk_reads m prp1 prp2 len k address_room count_room
      by_walk (refused x) e =
          let n : walk_refusal m prp1 prp2 len k address_room count_room ≡ x = sym refusal_number ∙ ap (λ w. refusal_of (answer w)) e in
          let d = above_zero ((refused_exactly m prp1 prp2 len k address_room count_room x).0 e) in
          ap (λ w. reads_of (answer w)) e ∙ sym (settle_refused _ (λ x. 0) _ (λ z. d (sym n ∙ z)))
      by_walk (found l reads) e =
          let n : walk_refusal m prp1 prp2 len k address_room count_room ≡ 0 = sym refusal_number ∙ ap (λ w. refusal_of (answer w)) e in
          ap (λ w. reads_of (answer w)) e
          ∙ reads_complete (complete m prp1 prp2 len k address_room count_room e).1
          ∙ sym (settle_accepted _ (λ x. 0) _ n)

  -- an answer that is the walk's has these numbers
  abbrev pub InNumbers : Result Walked ℕ → Type 0
  InNumbers r =
      (refusal_of r ≡ walk_refusal m prp1 prp2 len k address_room count_room)
      × (reads_of r ≡ walk_reads m prp1 prp2 len k address_room count_room)

  pub in_numbers : (r : Result Walked ℕ) → r ≡ answer walk → InNumbers r
  in_numbers r e = (ap refusal_of e ∙ refusal_number, ap reads_of e ∙ reads_number)
