-- The texts of a record's line, case by case. Assumes nothing.
use Rattle.std.specs.Prelude.{Result, Ok, Err}
use Rattle.std.proofs.Common.{◌≡◌, ℕ, ◌+◌, ◌<◌, ◌≤◌, List, [], ◌++◌, length, sym, ap, ◌∙◌, arith, take_all, le-ltb, lt-ltb, ne_eqb}
use Rattle.rules.specs.Rules.{settle}
use Rattle.rules.proofs.Tables.{settle_refused, settle_accepted}
use Rattle.le.specs.Le.{le_at}
use Rattle.le.specs.Memory.{part}
use Rattle.trace.specs.Record.{sent, record_in}
use Rattle.trace.specs.Trace.{record_at}
use Rattle.trace.specs.declared.Record.{Record}
use Rattle.print.specs.Text.{bytes}
use Rattle.refusals.specs.Named.{named, pair, refused_text}
use Rattle.transcript.specs.Record.{wrong_byte, call_name, short_text, wrong_text, asks, asked_text}
use Rattle.transcript.specs.Record.{refusal_of, result_of, done_text, answer_text}

-- the room of a text is that of one that is equal
pub room_as : {a b : List ℕ} → a ≡ b → (p n : ℕ) → p + length b ≤ n → p + length a ≤ n
room_as e p n h = omega (arith, ap length e)

-- ---- the name of a call

module _ (n : ℕ) where
  pub name_tail : n ≡ 1 → bytes "tail write, " ≡ call_name n
  unfolding call_name
  name_tail e = rw e

  pub name_head : n ≡ 2 → bytes "head write, " ≡ call_name n
  unfolding call_name
  name_head e = rw e

  pub name_start : n ≡ 3 → bytes "start, " ≡ call_name n
  unfolding call_name
  name_start e = rw e

  pub name_finish : n ≡ 4 → bytes "finish, " ≡ call_name n
  unfolding call_name
  name_finish e = rw e

  pub name_none : (n ≡ 1 → ⊥) → (n ≡ 2 → ⊥) → (n ≡ 3 → ⊥) → (n ≡ 4 → ⊥) → [] ≡ call_name n
  unfolding call_name
  name_none a b c d = rw (ne_eqb n 1 a, ne_eqb n 2 b, ne_eqb n 3 c, ne_eqb n 4 d)

-- ---- what a record asks for

-- what is wrong with it, from its call, the byte's place and its value
pub wrong_said : (r : List ℕ) {call i v : ℕ} → call ≡ sent r → i ≡ wrong_byte r → v ≡ le_at 1 r i
    → call_name call ++ pair (bytes "byte") i (bytes " is") v ≡ wrong_text r
wrong_said r c e f = rw (f, c, e)

module _ (r : List ℕ) where
  pub asked_short : length r < 16 → short_text r ≡ asked_text r
  unfolding asked_text record_in settle
  asked_short h =
      let i : short_text r ≡ asks r (Err 31) = rw (lt-ltb (length r) 16 h) in
      let e : Err 31 ≡ record_in r = rw (lt-ltb (length r) 16 h) in
      i ∙ ap (asks r) e

  module _ (w : 16 ≤ length r) (l : length r ≤ 16) where
    pub read_as : {x : Result Record ℕ} → x ≡ record_at r 0 → x ≡ record_in r
    unfolding record_at part
    read_as e =
        let t : part r 0 16 ≡ r = take_all 16 r l in
        let i : record_at r 0 ≡ record_in (part r 0 16) = rw (lt-ltb 0 (length r) (omega arith)) in
        e ∙ i ∙ ap record_in t

    pub asked_as : {x y : Record} → Ok x ≡ record_at r 0 → x ≡ y → asks r (Ok y) ≡ asked_text r
    unfolding asked_text
    asked_as {x} e f = ap (λ (z : Record). asks r (Ok z)) (sym f) ∙ ap (asks r) (read_as e)

    pub asked_wrong : {n : ℕ} → Err n ≡ record_at r 0 → wrong_text r ≡ asked_text r
    unfolding asked_text
    asked_wrong {n} e =
        let i : wrong_text r ≡ asks r (Err n) = rw (le-ltb (length r) 16 w) in
        i ∙ ap (asks r) (read_as e)

-- ---- what came of it

module _ (call result : ℕ) where
  pub done_start : call ≡ 3 → named (bytes "done, tag") result ≡ done_text call result
  unfolding done_text
  done_start e = rw e

  pub done_finish : call ≡ 4 → named (bytes "done, slot") result ≡ done_text call result
  unfolding done_text
  done_finish e = rw e

  pub done_other : (call ≡ 3 → ⊥) → (call ≡ 4 → ⊥) → bytes "done" ≡ done_text call result
  unfolding done_text
  done_other a b = rw (ne_eqb call 3 a, ne_eqb call 4 b)

module _ (a : List ℕ) {n : ℕ} (e : n ≡ refusal_of a) where
  pub answer_done : n ≡ 0 → {call result : ℕ} → call ≡ sent a → result ≡ result_of a → done_text call result ≡ answer_text a
  unfolding answer_text
  answer_done z c r = rw (c, r) (sym (settle_accepted (refusal_of a) refused_text (done_text (sent a) (result_of a)) (sym e ∙ z)))

  pub answer_refused : (n ≡ 0 → ⊥) → refused_text n ≡ answer_text a
  unfolding answer_text
  answer_refused d =
      ap refused_text e ∙ sym (settle_refused (refusal_of a) refused_text (done_text (sent a) (result_of a)) (λ z. d (e ∙ z)))
