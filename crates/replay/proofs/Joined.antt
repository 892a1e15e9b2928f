-- What a replay leaves, and two traces joined at a record's end: the first replay, and then the second. Assumes nothing.
use Prim.Native.Nat.{ℕ, ◌+◌, ◌*◌, ◌%◌, ◌≤◌}
use mathlib.Core.List.{List, [], ◌∷◌, ◌++◌, append-nil, append_assoc}
use mathlib.Core.Path.{◌≡◌, refl, sym, ap, ◌∙◌}
use native.Mathlib.Nat.{zero-add}
use native.Mathlib.Omega.{arith}
use lib.ListN.{length, take, drop, length-append, length-drop, drop_of_length-le}
use lib.Seq.{length-take-le, drop-drop, take_at, drop_at}
use borrow.Author.Tests.{le-ltb}
use Rattle.rules.specs.Rules.{settle}
use Rattle.le.specs.Memory.{Memory, part, put}
use Rattle.controller.specs.Controller.{Controller}
use Rattle.trace.specs.Record.{sent, asked, record_in}
use Rattle.trace.specs.Trace.{begun, records}
use Rattle.trace.proofs.Joined.{one_each, records_join}
use Rattle.replay.specs.Replay.{done_by, answer_bytes, Replay, leaving, played, Ended, ended, replay}
use Rattle.replay.proofs.Playing.{answer_length, answers_length}

-- the records of one list, and then those of another
abbrev then : Replay → Replay → Replay
then p q = leaving (p.answers ++ q.answers) q.controller q.memory

pub played_join : (c : Controller) (m : Memory) (rs ss : List (List ℕ))
    → let p = played c m rs in played c m (rs ++ ss) ≡ then p (played p.controller p.memory ss)
played_join c m [] ss = refl
played_join c m (r ∷ rs) ss =
    let d = done_by c m (asked (record_in r)) in
    let a = answer_bytes (sent r) d.refusal d.result in
    let p = played d.controller d.memory rs in
    let q = played p.controller p.memory ss in
    ap (then (leaving a c m)) (played_join d.controller d.memory rs ss)
    ∙ ap (λ x. leaving x q.controller q.memory) (sym (append_assoc a p.answers q.answers))

-- each record's answer stands at its place, and is that of its call on what the records before it left
pub answer_at : (c : Controller) (m : Memory) (xs : List (List ℕ)) (r : List ℕ) (ys : List (List ℕ))
    → let p = played c m xs in
    let d = done_by p.controller p.memory (asked (record_in r)) in
    part (played c m (xs ++ r ∷ ys)).answers (16 * length xs) 16 ≡ answer_bytes (sent r) d.refusal d.result
unfolding part
answer_at c m xs r ys =
    let p = played c m xs in
    let d = done_by p.controller p.memory (asked (record_in r)) in
    let a = answer_bytes (sent r) d.refusal d.result in
    let q = played d.controller d.memory ys in
    ap (λ (x : Replay). take 16 (drop (16 * length xs) x.answers)) (played_join c m xs (r ∷ ys))
    ∙ ap (take 16) (drop_at p.answers (a ++ q.answers) (16 * length xs) (answers_length c m xs))
    ∙ take_at a q.answers 16 (answer_length (sent r) d.refusal d.result)

-- 16 bytes for each begun record
pub answers_each : (c : Controller) (m : Memory) (t : List ℕ) → length (played c m (records t)).answers ≡ 16 * begun (length t)
answers_each c m t = answers_length c m (records t) ∙ ap (λ k. 16 * k) (one_each t)

-- ---- the call

-- where the room suffices: 16 bytes for each begun record, and "bytes past them stay"
module _ (c : Controller) (m : Memory) (t room : List ℕ) (h : 16 * begun (length t) ≤ length room) where
  pub replay_done : let p = played c m (records t) in
      replay c m t room ≡ ended (0, begun (length t)) p.controller p.memory (p.answers ++ drop (16 * begun (length t)) room)
  unfolding replay settle put
  replay_done =
      rw (le-ltb (length room) (16 * begun (length t)) h, zero-add, answers_each c m t)

-- two replays, one after the other: their answer rooms joined
abbrev pub both : Ended → Ended → Ended
both e f = ended (0, e.answer.1 + f.answer.1) f.controller f.memory (e.room ++ f.room)

-- a trace of whole records, and then another, in a room that suffices for both
module _ (c : Controller) (m : Memory) (s t room : List ℕ) (w : length s % 16 ≡ 0) (h : 16 * begun (length (s ++ t)) ≤ length room) where
  whole : 16 * begun (length s) ≡ length s
  unfolding begun
  whole = omega (arith, w)

  sum : begun (length (s ++ t)) ≡ begun (length s) + begun (length t)
  unfolding begun
  sum = rw (length-append s t) (omega (arith, w))

  inside : length s + 16 * begun (length t) ≤ length room
  inside = omega (arith, h, sum, whole)

  abbrev p : Replay
  p = played c m (records s)

  abbrev q : Replay
  q = played p.controller p.memory (records t)

  first : replay c m s (take (length s) room) ≡ ended (0, begun (length s)) p.controller p.memory p.answers
  first =
      let n : length (take (length s) room) ≡ length s = length-take-le (length s) room (omega (arith, inside)) in
      let all-of-it : length (take (length s) room) ≤ 16 * begun (length s) = omega (arith, n, whole) in
      replay_done c m s (take (length s) room) (omega (arith, n, whole))
      ∙ ap (λ x. ended (0, begun (length s)) p.controller p.memory (p.answers ++ x))
      (drop_of_length-le (take (length s) room) all-of-it)
      ∙ ap (λ x. ended (0, begun (length s)) p.controller p.memory x) (append-nil p.answers)

  second : replay p.controller p.memory t (drop (length s) room)
      ≡ ended (0, begun (length t)) q.controller q.memory (q.answers ++ drop (16 * begun (length (s ++ t))) room)
  second =
      let k : length s + 16 * begun (length t) ≡ 16 * begun (length (s ++ t)) = omega (arith, sum, whole) in
      replay_done p.controller p.memory t (drop (length s) room) (omega (arith, inside, length-drop (length s) room))
      ∙ ap (λ x. ended (0, begun (length t)) q.controller q.memory (q.answers ++ x))
      (drop-drop (16 * begun (length t)) (length s) room ∙ ap (λ n. drop n room) k)

  all : replay c m (s ++ t) room
      ≡ ended (0, begun (length s) + begun (length t)) q.controller q.memory
      (p.answers ++ (q.answers ++ drop (16 * begun (length (s ++ t))) room))
  all =
      let rest = drop (16 * begun (length (s ++ t))) room in
      replay_done c m (s ++ t) room h
      ∙ ap (λ (x : Replay). ended (0, begun (length (s ++ t))) x.controller x.memory (x.answers ++ rest))
      (ap (played c m) (records_join s t w) ∙ played_join c m (records s) (records t))
      ∙ ap (λ k. ended (0, k) q.controller q.memory ((p.answers ++ q.answers) ++ rest)) sum
      ∙ ap (ended (0, begun (length s) + begun (length t)) q.controller q.memory) (append_assoc p.answers q.answers rest)

  pub replay_join : let e = replay c m s (take (length s) room) in
      replay c m (s ++ t) room ≡ both e (replay e.controller e.memory t (drop (length s) room))
  replay_join =
      all
      ∙ sym (ap (λ (x : Ended). both x (replay x.controller x.memory t (drop (length s) room))) first
      ∙ ap (both (ended (0, begun (length s)) p.controller p.memory p.answers)) second)
