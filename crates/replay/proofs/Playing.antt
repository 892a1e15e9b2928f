-- The replay record by record: what a call's answer makes of its record, and the room that the answers fill. Assumes nothing.
use Rattle.std.specs.Prelude.{Result}
use Prim.Native.Nat.{ℕ, suc, ◌+◌, ◌*◌, ◌-◌, ◌<◌, ◌≤◌}
use mathlib.Core.List.{List, [], ◌∷◌, ◌++◌}
use mathlib.Core.Logic.{⊎_elim}
use mathlib.Core.Path.{◌≡◌, refl, sym, ap, ◌∙◌}
use native.Mathlib.Omega.{arith}
use lib.ListN.{length, drop, length-append}
use lib.Seq.{sets}
use borrow.Author.Tests.{eq-eqb, ne_eqb, lt-ltb, le-ltb}
use Rattle.rules.specs.Rules.{settle}
use Rattle.rules.proofs.Tests.{same_or_not}
use Rattle.le.specs.Le.{le, le_at}
use Rattle.le.specs.Memory.{Memory, part, put}
use Rattle.le.proofs.Numbers.{sets_append}
use Rattle.le.proofs.Parts.{sets_put, put_length}
use Rattle.controller.specs.Controller.{Controller}
use Rattle.controller.specs.Answers.{number_of}
use Rattle.controller.specs.Calls.{of_number}
use Rattle.trace.specs.Record.{sent, record_in, asked}
use Rattle.trace.specs.Trace.{begun, records, record_at, next_at}
use Rattle.trace.specs.declared.Record.{Record}
use Rattle.trace.proofs.Wholes.{sent_at, there}
use Rattle.trace.proofs.Cutting.{records_from, count, at_end, by_16, next_place, from_next, room_here, room_16, room_next}
use Rattle.replay.specs.Replay.{Done, coming, done_by, answer_bytes, Replay, leaving, played, ended, replay}

-- ---- a call's answer in numbers

-- of a call that answers a refusal number
pub number_is : (n : ℕ) → n ≡ number_of (of_number n)
number_is n = ⊎_elim (λ (z : n ≡ 0). rw (eq-eqb n 0 z) z) (λ (h : n ≡ 0 → ⊥). rw (ne_eqb n 0 h)) (same_or_not n 0)

-- ---- the record at a place of the trace

module _ (c : Controller) (m : Memory) (t room : List ℕ) (place : ℕ) (l : place < length t) where
  abbrev Answers : Controller → Memory → List ℕ → Type 0
  Answers c' m' room' =
      let r = part t place 16 in
      let d = done_by c m (asked (record_in r)) in
      (c' ≡ d.controller) × (m' ≡ d.memory) × (room' ≡ put room place (answer_bytes (sent r) d.refusal d.result))

  -- it was read, its call was made, and the answer put into the room
  pub recorded : {x : Result Record ℕ} {b n r : ℕ} {c' : Controller} {m' : Memory} {room' : List ℕ} → x ≡ record_at t place
      → coming n r c' m' ≡ done_by c m (asked x) → b ≡ le_at 1 t place → room' ≡ put room place (answer_bytes b n r) → Answers c' m' room'
  recorded {x} {b} {n} {r} {c'} {m'} {room'} e o f p =
      let y = part t place 16 in
      let d = done_by c m (asked (record_in y)) in
      let q : coming n r c' m' ≡ d = o ∙ ap (λ z. done_by c m (asked z)) (e ∙ sym (there t place l)) in
      let k : b ≡ sent y = f ∙ sym (sent_at t place) in (
        ap (λ (z : Done). z.controller) q,
        ap (λ (z : Done). z.memory) q,
        p
            ∙ ap (λ (z : Done). put room place (answer_bytes b z.refusal z.result)) q
            ∙ ap (λ z. put room place (answer_bytes z d.refusal d.result)) k,
      )

-- ---- the bytes of an answer record

pub answer_length : (byte refusal result : ℕ) → length (answer_bytes byte refusal result) ≡ 16
unfolding answer_bytes le
answer_length byte refusal result = refl

-- five stores, one after the other, put it in
pub joined : (l : List ℕ) (place byte refusal result : ℕ) → place + 16 ≤ length l
    → sets (sets (sets (sets (sets l place (le 1 byte)) (place + 1) (le 1 refusal)) (place + 2) (le 2 result)) (place + 4) (le 4 0))
    (place + 8) (le 8 0)
    ≡ put l place (answer_bytes byte refusal result)
unfolding answer_bytes le
joined l place byte refusal result h =
    ap (λ x. sets (sets (sets x (place + 2) (le 2 result)) (place + 4) (le 4 0)) (place + 8) (le 8 0))
    (sets_append l (le 1 byte) (le 1 refusal) place (place + 1) refl)
    ∙ ap (λ x. sets (sets x (place + 4) (le 4 0)) (place + 8) (le 8 0))
    (sets_append l (le 1 byte ++ le 1 refusal) (le 2 result) place (place + 2) refl)
    ∙ ap (λ x. sets x (place + 8) (le 8 0))
    (sets_append l (le 1 byte ++ le 1 refusal ++ le 2 result) (le 4 0) place (place + 4) refl)
    ∙ sets_append l (le 1 byte ++ le 1 refusal ++ le 2 result ++ le 4 0) (le 8 0) place (place + 8) refl
    ∙ sets_put l place (answer_bytes byte refusal result) h

-- 16 bytes for each record
pub answers_length : (c : Controller) (m : Memory) (rs : List (List ℕ)) → length (played c m rs).answers ≡ 16 * length rs
answers_length c m [] = refl
answers_length c m (r ∷ rs) =
    let d = done_by c m (asked (record_in r)) in
    length-append (answer_bytes (sent r) d.refusal d.result) (played d.controller d.memory rs).answers
    ∙ omega (arith, answer_length (sent r) d.refusal d.result, answers_length d.controller d.memory rs)

-- ---- the room that the answers fill

-- bytes put in one after the other
put_append : (l a b : List ℕ) (place : ℕ) → place + length a + length b ≤ length l
    → put l place (a ++ b) ≡ put (put l place a) (place + length a) b
put_append l a b place h =
    sym (sets_put l place (a ++ b) (omega (arith, length-append a b)))
    ∙ sym (sets_append l a b place (place + length a) refl)
    ∙ ap (λ x. sets x (place + length a) b) (sets_put l place a (omega arith))
    ∙ sets_put (put l place a) (place + length a) b (omega (arith, put_length l place a (omega arith)))

-- the controller and memory that records leave, and the room with their answers from a place on
abbrev pub filled : Controller → Memory → List ℕ → ℕ → List (List ℕ) → Replay
filled c m room place rs = let p = played c m rs in leaving (put room place p.answers) p.controller p.memory

none_left : (c : Controller) (m : Memory) (room : List ℕ) (place : ℕ) → place ≤ length room → leaving room c m ≡ filled c m room place []
none_left c m room place h = ap (λ x. leaving x c m) (sets_put room place [] (omega arith))

one_more : (c : Controller) (m : Memory) (room : List ℕ) (place : ℕ) (r : List ℕ) (rs : List (List ℕ))
    → place + 16 + 16 * length rs ≤ length room
    → let d = done_by c m (asked (record_in r)) in
    filled c m room place (r ∷ rs)
    ≡ filled d.controller d.memory (put room place (answer_bytes (sent r) d.refusal d.result)) (place + 16) rs
one_more c m room place r rs h =
    let d = done_by c m (asked (record_in r)) in
    let a = answer_bytes (sent r) d.refusal d.result in
    let p = played d.controller d.memory rs in
    let n : length a ≡ 16 = answer_length (sent r) d.refusal d.result in
    ap (λ x. leaving x p.controller p.memory)
    (put_append room a p.answers place (omega (arith, n, answers_length d.controller d.memory rs))
    ∙ ap (λ k. put (put room place a) (place + k) p.answers) n)

-- a replay on the way: its answers so far stand in the room up to the place that it has come to
pub record Going (c₀ : Controller) (m₀ : Memory) (t room₀ : List ℕ) (c : Controller) (m : Memory) (room : List ℕ) (place : ℕ) : Type 0 where
  pub fits : place + 16 * begun (length t - place) ≤ length room
  pub same : filled c m room place (records_from t place) ≡ filled c₀ m₀ room₀ 0 (records t)

pub begins : (c : Controller) (m : Memory) (t room : List ℕ) → 16 * begun (length t) ≤ length room → Going c m t room c m room 0
unfolding records
begins c m t room h =
    let e : length t - 0 ≡ length t = omega arith in
    record { fits = rw e (omega arith); same = rw e }

module _ {c₀ : Controller} {m₀ : Memory} {t room₀ : List ℕ} {c : Controller} {m : Memory} {room : List ℕ} {place : ℕ}
    (g : Going c₀ m₀ t room₀ c m room place) where
  pub ends : length t ≤ place → leaving room c m ≡ filled c₀ m₀ room₀ 0 (records t)
  ends h = none_left c m room place (omega (arith, g.fits)) ∙ ap (filled c m room place) (sym (at_end t place h)) ∙ g.same

  module _ (l : place < length t) where
    pub room_now : place + 16 ≤ length room
    room_now = omega (arith, room_here t place l, g.fits)

    -- the answers go on 16 bytes further
    pub goes_16 : let d = done_by c m (asked (record_in (part t place 16))) in
        Going c₀ m₀ t room₀ d.controller d.memory
        (put room place (answer_bytes (sent (part t place 16)) d.refusal d.result)) (place + 16)
    goes_16 =
        let r = part t place 16 in
        let rest = records_from t (place + 16) in
        let d = done_by c m (asked (record_in r)) in
        let a = answer_bytes (sent r) d.refusal d.result in
        let n : length (put room place a) ≡ length room = put_length room place a
        (omega (arith, answer_length (sent r) d.refusal d.result, room_now)) in
        let k : begun (length t - place) ≡ suc (length rest) = sym (count (begun (length t - place)) (drop place t))
        ∙ ap length (by_16 t place l) in
        record {
          fits = omega (arith, room_16 t place l, g.fits, n);
          same = sym (one_more c m room place r rest (omega (arith, g.fits, k)))
              ∙ ap (filled c m room place) (sym (by_16 t place l))
              ∙ g.same;
        }

    module _ (c' : Controller) (m' : Memory) (room' : List ℕ) (n : length room' ≡ length room) where
      -- that is the next place where a record is left
      further : filled c' m' room' (next_at t place) (records_from t (next_at t place))
          ≡ filled c' m' room' (place + 16) (records_from t (next_at t place))
      further =
          ⊎_elim (λ e. ap (λ k. filled c' m' room' k (records_from t (next_at t place))) e)
          (λ e. rw e (sym (none_left c' m' room' (next_at t place) (omega (arith, room_next t place l, g.fits)))
          ∙ none_left c' m' room' (place + 16) (omega (arith, room_now))))
          (next_place t place l)

    pub goes_on : let d = done_by c m (asked (record_in (part t place 16))) in
        Going c₀ m₀ t room₀ d.controller d.memory
        (put room place (answer_bytes (sent (part t place 16)) d.refusal d.result)) (next_at t place)
    goes_on =
        let r = part t place 16 in
        let d = done_by c m (asked (record_in r)) in
        let a = answer_bytes (sent r) d.refusal d.result in
        let n : length (put room place a) ≡ length room = put_length room place a
        (omega (arith, answer_length (sent r) d.refusal d.result, room_now)) in
        record {
          fits = omega (arith, room_next t place l, g.fits, n);
          same = further d.controller d.memory (put room place a) n
              ∙ ap (filled d.controller d.memory (put room place a) (place + 16)) (from_next t place l)
              ∙ goes_16.same;
        }

-- ---- the call

module _ (c : Controller) (m : Memory) (t room : List ℕ) where
  pub refused : length room < 16 * begun (length t) → ended (21, 0) c m room ≡ replay c m t room
  unfolding replay settle
  refused h = rw (lt-ltb (length room) (16 * begun (length t)) h)

  pub accepted : 16 * begun (length t) ≤ length room → {c' : Controller} {m' : Memory} {room' : List ℕ} {n : ℕ} → n ≡ begun (length t)
      → leaving room' c' m' ≡ filled c m room 0 (records t) → ended (0, n) c' m' room' ≡ replay c m t room
  unfolding replay settle
  accepted h {n = n} k e =
      rw (le-ltb (length room) (16 * begun (length t)) h, ← k)
      (ap (λ (p : Replay). ended (0, n) p.controller p.memory p.answers) e)
