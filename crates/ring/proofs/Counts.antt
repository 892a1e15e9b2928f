-- Laws of the reader's walk. Assumes nothing.
use Prim.Native.Nat.{ℕ, zero, suc, ◌+◌, ◌-◌, ◌*◌, ◌%◌, ◌<◌, ◌≤◌}
use mathlib.Core.Logic.{⊎_elim}
use mathlib.Core.Path.{◌≡◌, refl, sym, ap, ◌∙◌}
use mathlib.Core.List.{List}
use native.Mathlib.Nat.{suc-add, zero-add}
use native.Mathlib.Omega.{arith}
use borrow.Author.Tests.{eq-eqb, ne_eqb, ltb-false, leb-false}
use lib.ListN.{length}
use Rattle.rules.proofs.Tests.{range, same_or_not}
use Rattle.rules.proofs.Tables.{passed}
use Rattle.le.specs.Le.{le_at}
use Rattle.le.proofs.Parts.{part_get_d}
use Rattle.entry.specs.Completion.{phase_tag}
use Rattle.ring.specs.Slots.{next, phase_after}
use Rattle.ring.proofs.Steps.{next_on, next_over, phase_on, phase_over}
use Rattle.ring.specs.Reader.{slot_in, phase_in, read_count, read_slots, reader_rules, reader_refusal}

-- a slot's phase tag is the lowest bit of its byte 14
pub phase_byte : (ring : List ℕ) (p : ℕ) → phase_in ring p ≡ le_at 1 ring (16 * p + 14) % 2
unfolding phase_in slot_in phase_tag le_at
phase_byte ring p = omega (arith, part_get_d ring (16 * p) 16 14 (omega arith))

module _ (ring : List ℕ) (size : ℕ) where
  pub count_hit : (k p g : ℕ) → phase_in ring p ≡ g
      → read_count (suc k) ring size p g ≡ suc (read_count k ring size (next size p) (phase_after size p g))
  unfolding read_count
  count_hit k p g e = rw (eq-eqb _ _ e)

  pub count_miss : (k p g : ℕ) → (phase_in ring p ≡ g → ⊥) → read_count (suc k) ring size p g ≡ 0
  unfolding read_count
  count_miss k p g e = rw (ne_eqb _ _ e)

  -- an entry that matches, with all of the others before the wrap
  pub run_hit : (k p g : ℕ) → p + suc k ≤ size → phase_in ring p ≡ g
      → read_count (suc k) ring size p g ≡ suc (read_count k ring size (p + 1) g)
  unfolding read_count
  run_hit zero p g h e = count_hit 0 p g e
  run_hit (suc k) p g h e =
      count_hit (suc k) p g e ∙ rw (next_on size p g (omega arith), phase_on size p g (λ w. omega arith))

  -- a turn of a run: n of m entries are passed, and one more matches
  pub run_step : (m n p g : ℕ) → n < m → p + m ≤ size → phase_in ring (p + n) ≡ g
      → n + read_count (m - n) ring size (p + n) g ≡ n + 1 + read_count (m - (n + 1)) ring size (p + (n + 1)) g
  run_step m n p g h w e =
      let left : m - n ≡ suc (m - (n + 1)) = omega arith in
      let place : p + n + 1 ≡ p + (n + 1) = omega arith in
      rw (left, run_hit (m - (n + 1)) (p + n) g (omega arith) e, place) (omega arith)

  -- its end: the next entry does not match, or all are passed
  pub run_stop : (m n p g : ℕ) → n < m → (phase_in ring p ≡ g → ⊥) → n + read_count (m - n) ring size p g ≡ n
  run_stop m n p g h e =
      let left : m - n ≡ suc (m - (n + 1)) = omega arith in
      rw left (omega (arith, count_miss (m - (n + 1)) p g e))

  pub run_all : (m p g : ℕ) → m + read_count (m - m) ring size p g ≡ m
  unfolding read_count
  run_all m p g = let left : m - m ≡ 0 = omega arith in rw left (omega arith)

  -- the walk ends within its first j entries
  pub count_before : (j k p g : ℕ) → read_count j ring size p g < j → read_count (j + k) ring size p g ≡ read_count j ring size p g
  count_before zero k p g h = omega arith
  count_before (suc j) k p g h =
      rw suc-add (⊎_elim
      (λ e. count_hit (j + k) p g e
      ∙ ap suc (count_before j k (next size p) (phase_after size p g) (omega (arith, count_hit j p g e)))
      ∙ sym (count_hit j p g e))
      (λ e. count_miss (j + k) p g e ∙ sym (count_miss j p g e)) (same_or_not (phase_in ring p) g))

  matched : (j n p g : ℕ) → read_count (suc j) ring size p g ≡ suc n → phase_in ring p ≡ g
  matched j n p g h = ⊎_elim (λ e. e) (λ e. absurd (omega (arith, count_miss j p g e))) (same_or_not (phase_in ring p) g)

  -- it reaches the wrap, and goes on from slot 0 with the other phase tag
  pub count_over : (j k p g : ℕ) → p + suc j ≡ size → read_count (suc j) ring size p g ≡ suc j
      → read_count (suc j + k) ring size p g ≡ suc j + read_count k ring size 0 (1 - g)
  count_over zero k p g w h =
      let wrap : p + 1 ≡ size = omega arith in
      rw (suc-add 0 k, zero-add k)
      (count_hit k p g (matched 0 0 p g h) ∙ rw (next_over size p g wrap, phase_over size p g wrap) (omega arith))
  count_over (suc j) k p g w h =
      let e = matched (suc j) (suc j) p g h in
      let on = next_on size p g (omega arith) in
      let same = phase_on size p g (λ v. omega arith) in
      let rest : read_count (suc j) ring size (p + 1) g ≡ suc j = omega (arith, run_hit (suc j) p g (omega arith) e) in
      rw (suc-add (suc j) k) (count_hit (suc j + k) p g e ∙ rw (on, same, count_over j k (p + 1) g (omega arith) rest) (omega arith))

-- the completions found are as many as the number answered
pub slots_length : (n : ℕ) (ring : List ℕ) (size p : ℕ) → length (read_slots n ring size p) ≡ n
unfolding read_slots
slots_length zero ring size p = refl
slots_length (suc n) ring size p = ap suc (slots_length n ring size (next size p))

-- what a reader that does not refuse was given
pub accepted : (n size head : ℕ) → reader_refusal n size head ≡ 0 → (2 ≤ size) × (size ≤ 1024) × (16 * size ≤ n) × (head < size)
unfolding reader_refusal
accepted n size head e =
    let u = passed (reader_rules n size head) tt e in
    let r = range 2 1024 size u.0 in
    (r.0, r.1, ltb-false n (16 * size) u.1.0, leb-false size head u.1.1.0)
