-- Laws of the replay's answer: of its room only the length counts. Assumes nothing.
use mathlib.Core.Path.{◌≡◌, sym, ap, ◌∙◌}
use mathlib.Core.List.{List, [], ◌∷◌, ◌++◌}
use mathlib.Core.Logic.{⊎_elim}
use Prim.Native.Nat.{ℕ, ◌*◌, ◌≤◌, ◌<◌}
use native.Mathlib.Omega.{arith}
use lib.ListN.{length, take, drop, replicate, length-replicate, length-append}
use lib.Seq.{take_at}
use Rattle.rules.proofs.Tests.{lt_or_ge}
use Rattle.le.specs.Memory.{Memory}
use Rattle.controller.specs.Controller.{Controller}
use Rattle.trace.specs.Trace.{begun, records}
use Rattle.replay.specs.Replay.{Ended, ended, replay, played}
use Rattle.replay.proofs.Joined.{replay_done, answers_each}
use Rattle.replay.proofs.Exactly.{refused_leaves}
use Rattle.language.specs.Replies.{say, Reply, reply}
use Rattle.language.specs.Commands.{both, replayed}

-- what is said of a replay
abbrev told : Ended → Reply
told e = reply (say e.answer.0 (both e.answer) (take (16 * e.answer.1) e.room)) e.controller e.memory

module _ (c : Controller) (m : Memory) (t : List ℕ) where
  short_told : (room : List ℕ) → length room < 16 * begun (length t) → told (replay c m t room) ≡ reply (say 21 (21 ∷ 0 ∷ []) []) c m
  short_told room h = ap told (refused_leaves c m t room h)

  full_told : (room : List ℕ) → 16 * begun (length t) ≤ length room
      → let p = played c m (records t) in
      told (replay c m t room) ≡ reply (say 0 (0 ∷ begun (length t) ∷ []) p.answers) p.controller p.memory
  full_told room h =
      let p = played c m (records t) in
      ap told (replay_done c m t room h)
      ∙ ap (λ (l : List ℕ). reply (say 0 (0 ∷ begun (length t) ∷ []) l) p.controller p.memory)
      (take_at p.answers (drop (16 * begun (length t)) room) (16 * begun (length t)) (answers_each c m t))

  -- a replay into any room of the length
  pub told_any : (room : List ℕ) → told (replay c m t room) ≡ replayed c m (length room) t
  unfolding replayed
  told_any room =
      let n : length {A = ℕ} (replicate (length room) 0) ≡ length room = length-replicate {A = ℕ} (length room) 0 in
      ⊎_elim
      (λ (h : length room < 16 * begun (length t)). short_told room h ∙ sym (short_told (replicate (length room) 0) (omega (arith, n))))
      (λ (h : 16 * begun (length t) ≤ length room). full_told room h ∙ sym (full_told (replicate (length room) 0) (omega (arith, n))))
      (lt_or_ge (length room) (16 * begun (length t)))

module _ (c d : Controller) (m m₁ : Memory) (t room room₁ : List ℕ) (n : ℕ) where
  -- n answer records were written
  pub replay_records : ended (0, n) d m₁ room₁ ≡ replay c m t room
      → replayed c m (length room) t ≡ reply (say 0 (0 ∷ n ∷ []) (take (16 * n) room₁)) d m₁
  replay_records e = sym (ap told e ∙ told_any c m t room)

  pub replay_refused : ended (n, 0) d m₁ room₁ ≡ replay c m t room → replayed c m (length room) t ≡ reply (say n (n ∷ 0 ∷ []) []) d m₁
  replay_refused e = sym (ap told e ∙ told_any c m t room)

  -- and lie in the room
  pub records_inside : ended (0, n) d m₁ room₁ ≡ replay c m t room → 16 * n ≤ length room₁
  records_inside e =
      ⊎_elim
      (λ (h : length room < 16 * begun (length t)).
      let z : 0 ≡ 21 = ap (λ (x : Ended). x.answer.0) (e ∙ refused_leaves c m t room h) in
      absurd (omega (arith, z)))
      (λ (h : 16 * begun (length t) ≤ length room).
      let p = played c m (records t) in
      let f = e ∙ replay_done c m t room h in
      let k : n ≡ begun (length t) = ap (λ (x : Ended). x.answer.1) f in
      let l : room₁ ≡ p.answers ++ drop (16 * begun (length t)) room = ap (λ (x : Ended). x.room) f in
      omega (arith, k, ap length l, length-append p.answers (drop (16 * begun (length t)) room), answers_each c m t))
      (lt_or_ge (length room) (16 * begun (length t)))

-- a reply by its parts
pub reply_of : {r : Reply} {d : Controller} {m : Memory} → d ≡ r.controller → m ≡ r.memory → reply r.says d m ≡ r
reply_of {r} {d} {m} e f = ap (λ (x : Controller). reply r.says x m) e ∙ ap (reply r.says r.controller) f
