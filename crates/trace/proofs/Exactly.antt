-- The numbers of a record, exactly when: once more in propositions. Assumes nothing.
use Rattle.std.specs.Prelude.{Result, Ok, Err}
use Prim.Native.Nat.{ℕ, zero, suc, ◌+◌, ◌*◌, ◌-◌, ◌<◌, ◌≤◌}
use mathlib.Core.Bool.{Bool, true, false}
use mathlib.Core.List.{List, [], ◌∷◌}
use mathlib.Core.Logic.{◌⊎◌, inl, inr, ⊎_elim, ◌↔◌}
use mathlib.Core.Path.{◌≡◌, refl, sym, ap, ◌∙◌}
use native.Mathlib.Omega.{arith}
use lib.Dec.{eqb}
use lib.ListN.{length, drop, get_or, length-drop}
use lib.Seq.{get_or-drop}
use borrow.Author.Tests.{lt-ltb, le-ltb, le-leb, lt-leb}
use Rattle.rules.specs.Rules.{pick, first_match}
use Rattle.rules.proofs.Tests.{clash, same_or_not, bool_cases, lt_or_ge}
use Rattle.rules.proofs.Tables.{answer_number, settle_accepted, settle_refused}
use Rattle.rules.proofs.Exactly.{Says, says_lt, says_eq, says_not, says_or, says_as, says_outside, Reasons, Decided, decided, given_exactly}
use Rattle.le.specs.Le.{le_at}
use Rattle.le.specs.Memory.{part}
use Rattle.controller.specs.Calls.{tail_write, head_write, start, finish}
use Rattle.trace.specs.declared.Record.{Record}
use Rattle.trace.specs.declared.Record.TheVariants as R
use Rattle.trace.specs.Record.{sent, target, value, any_set, spares, record_rules, call_in, record_in, call, asked, number_in}
use Rattle.trace.specs.Trace.{record_at, refusal_at}
use Rattle.trace.proofs.Wholes as w

-- a byte from place n on is not zero
abbrev SetFrom : ℕ → List ℕ → Type 0
SetFrom n bs = (i : ℕ) × (n ≤ i) × (i < length bs) × (get_or bs i 0 ≡ 0 → ⊥)

says_set : (bs : List ℕ) → Says (any_set bs) (SetFrom 0 bs)
says_set [] = record { yes = λ e. absurd (clash e refl); no = λ e h. omega (arith, h.2) }
says_set (b ∷ bs) =
    says_as (says_or (says_not (says_eq b 0)) (says_set bs))
    (⊎_elim (λ d. (0, omega arith, omega arith, d)) (λ h. (suc h.0, omega arith, omega (arith, h.2), h.3)))
    (λ h. by_place h.0 h.2 h.3)
  where
    by_place : (i : ℕ) → i < length (b ∷ bs) → (get_or (b ∷ bs) i 0 ≡ 0 → ⊥) → ((b ≡ 0 → ⊥) ⊎ SetFrom 0 bs)
    by_place zero l d = inl d
    by_place (suc i) l d = inr (i, omega arith, omega arith, d)

says_from : (n : ℕ) (bs : List ℕ) → Says (any_set (drop n bs)) (SetFrom n bs)
says_from n bs =
    says_as (says_set (drop n bs))
    (λ h. (n + h.0, omega arith, omega (arith, h.2, length-drop n bs), λ z. h.3 (get_or-drop n bs h.0 0 ∙ z)))
    (λ h. (
      h.0 - n,
      omega arith,
      omega (arith, h.1, h.2, length-drop n bs),
      λ z. h.3 (ap (λ k. get_or bs k 0) (omega (arith, h.1)) ∙ sym (get_or-drop n bs (h.0 - n) 0) ∙ z),
    ))

-- the place from which on bytes are spare: 1 in a start, else 4
abbrev pub spare_from : List ℕ → ℕ
spare_from r = pick (eqb (sent r) 3) 1 4

-- "a nonzero spare byte"
abbrev pub Spare : List ℕ → Type 0
Spare r = SetFrom (spare_from r) r

-- "30 for an unknown call or a nonzero spare byte, and 31, before 30, for a last short record"
abbrev pub record_reasons : List ℕ → Reasons
record_reasons r = (length r < 16, 31) ∷ ((sent r < 1) ⊎ (4 < sent r), 30) ∷ (Spare r, 30) ∷ []

pub record_number : (r : List ℕ) → Decided (record_reasons r) (first_match (record_rules r))
record_number r =
    decided (record_rules r) (record_reasons r)
    (refl, says_lt (length r) 16, λ _. (refl, says_outside 1 4 (sent r), λ _. (refl, says_from (spare_from r) r, λ _. tt)))

-- ---- the number of what a record asks for is the table's: 0 for a call

call_number : (a b c : Bool) (q v : ℕ)
    → number_in (asked (Ok (pick a (R.TailWrite q v) (pick b (R.HeadWrite q v) (pick c R.Start (R.Finish q v)))))) ≡ 0
call_number true b c q v = refl
call_number false true c q v = refl
call_number false false true q v = refl
call_number false false false q v = refl

pub numbered : (r : List ℕ) → number_in (asked (record_in r)) ≡ first_match (record_rules r)
unfolding record_in
numbered r =
    let n = first_match (record_rules r) in
    ⊎_elim
    (λ (z : n ≡ 0). ap (λ x. number_in (asked x)) (settle_accepted n Err (Ok (call_in r)) z)
    ∙ call_number (eqb (sent r) 1) (eqb (sent r) 2) (eqb (sent r) 3) (target r) (value r)
    ∙ sym z)
    (λ (d : n ≡ 0 → ⊥). ap (λ x. number_in (asked x)) (settle_refused n Err (Ok (call_in r)) d))
    (same_or_not n 0)

pub number_at : (t : List ℕ) (place : ℕ) → number_in (asked (record_at t place)) ≡ refusal_at t place
unfolding record_at
number_at t place =
    ⊎_elim (λ (h : place < length t). rw (lt-ltb place (length t) h, lt-leb (length t) place h) (numbered (part t place 16)))
    (λ (h : length t ≤ place). rw (le-ltb place (length t) h, le-leb (length t) place h)) (lt_or_ge place (length t))

pub answered : (t : List ℕ) (place : ℕ) {x : Result Record ℕ} → x ≡ record_at t place
    → (x ≡ record_at t place) × (number_in (asked x) ≡ refusal_at t place)
answered t place e = answer_number (λ y. number_in (asked y)) (number_at t place) e

-- 31 is the number of a short record alone
pub short_exactly : (r : List ℕ) → (number_in (asked (record_in r)) ≡ 31) ↔ (length r < 16)
short_exactly r =
    let f = given_exactly [] (length r < 16) 31 (((sent r < 1) ⊎ (4 < sent r), 30) ∷ (Spare r, 30) ∷ []) tt tt (record_number r) in
    (λ e. (f.0 (sym (numbered r) ∙ e)).0, λ h. numbered r ∙ f.1 (h, tt))

-- ---- what each whole record asks for, byte by byte

-- a number of two bytes, the lower first
abbrev pub word_at : List ℕ → ℕ → ℕ
word_at r i = get_or r i 0 + 256 * get_or r (i + 1) 0

pub sent_byte : (r : List ℕ) → sent r ≡ get_or r 0 0
unfolding le_at
sent_byte r = omega arith

target_byte : (r : List ℕ) → target r ≡ get_or r 1 0
unfolding le_at
target_byte r = omega arith

value_bytes : (r : List ℕ) → value r ≡ word_at r 2
unfolding le_at
value_bytes r = omega arith

module _ (r : List ℕ) (whole : 16 ≤ length r) (clear : Spare r → ⊥) where
  unset : any_set (spares r) ≡ false
  unset = ⊎_elim (λ e. absurd (clear ((says_from (spare_from r) r).yes e))) (λ e. e) (bool_cases (any_set (spares r)))

  -- 1, 2, 3 or 4 in byte 0
  known : (n : ℕ) → get_or r 0 0 ≡ n → sent r ≡ n
  known n e = sent_byte r ∙ e

  pub asks_tail : get_or r 0 0 ≡ 1 → asked (record_in r) ≡ call (tail_write (get_or r 1 0) (word_at r 2))
  asks_tail e = rw (← w.tail r whole unset (known 1 e), target_byte r, value_bytes r)

  pub asks_head : get_or r 0 0 ≡ 2 → asked (record_in r) ≡ call (head_write (get_or r 1 0) (word_at r 2))
  asks_head e = rw (← w.head r whole unset (known 2 e), target_byte r, value_bytes r)

  pub asks_start : get_or r 0 0 ≡ 3 → asked (record_in r) ≡ call start
  asks_start e = rw (← w.start r whole unset (known 3 e))

  pub asks_finish : get_or r 0 0 ≡ 4 → asked (record_in r) ≡ call (finish (get_or r 1 0) (word_at r 2) 0)
  asks_finish e = rw (← w.finish r whole unset (known 4 e), target_byte r, value_bytes r)
