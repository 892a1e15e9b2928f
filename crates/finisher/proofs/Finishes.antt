-- Laws of a finish. Assumes nothing.
use Prim.Native.Nat.{ℕ, ◌+◌, ◌-◌, ◌*◌, ◌≤◌, ◌<◌}
use mathlib.Core.Bool.{false}
use mathlib.Core.List.{List, ◌++◌}
use mathlib.Core.Path.{◌≡◌, refl, sym, ap, ◌∙◌}
use native.Mathlib.Nat.{zero-add}
use native.Mathlib.Omega.{arith}
use lib.Dec.{ltb, eqb}
use lib.ListN.{length, set, take, drop, length-drop}
use lib.Seq.{drop-drop}
use borrow.Author.Tests.{le-ltb, ltb-false, eq-eqb, ne_eqb}
use Rattle.std.specs.Prelude.{Result, Ok, Err}
use Rattle.std.specs.Result.{IsOk}
use Rattle.rules.specs.Refusal.{number, code}
use Rattle.rules.specs.Rules.{Table, first_match, settle}
use Rattle.rules.specs.declared.refusal.Refusal.{Refusal}
use Rattle.rules.proofs.Cases.{pick_cases}
use Rattle.rules.proofs.Refusals.{number_not_0}
use Rattle.rules.proofs.Tables.{Unapplied, passed, append_refused, append_passed}
use Rattle.rules.proofs.Tests.{not_no}
use Rattle.bits.specs.Tags.{given_back}
use Rattle.le.specs.Memory.{Memory, put}
use Rattle.le.proofs.Parts.{rest_part, rest_put}
use Rattle.entry.specs.Completion.{completion, completion_bytes, write_refusal, written}
use Rattle.entry.specs.declared.completion.Completion.{Completion}
use Rattle.controller.specs.declared.Command.{Command}
use Rattle.controller.specs.declared.SubmissionQueue.{SubmissionQueue}
use Rattle.controller.specs.declared.CompletionQueue.{CompletionQueue}
use Rattle.controller.specs.Controller.{Controller}
use Rattle.controller.specs.State.{with_tail, with_cq, with_commands, sq_at, cq_at, command_at}
use Rattle.controller.specs.Valid.{RingOk, Valid}
use Rattle.controller.specs.Answers.{finished, outcome, refusing}
use Rattle.controller.specs.Finishing as finishing
use Rattle.controller.specs.Finishing.{cq_of, call_rules, posting_rules, finish_refusal, status_of, released, posted, unlinked}
use Rattle.controller.specs.Finishing.{finished_controller}
use Rattle.controller.specs.Calls.{perform, finish}
use Rattle.controller.proofs.Outstanding.{out_set}
use Rattle.controller.proofs.Apart.{cq, ring_inside}
use Rattle.controller.proofs.Settled.{refused}

-- a status is not above what the verdict and the status given are not above
pub status_to : (n verdict given : ℕ) → verdict ≤ n → given ≤ n → status_of verdict given ≤ n
unfolding status_of
status_to n verdict given v g = pick_cases (λ (k : ℕ). k ≤ n) (eqb verdict 0) given verdict (λ e. g) (λ e. v)

-- the writer of an entry, given the memory from o on
module _ (m : Memory) (o : ℕ) (e : Completion) (room : o + 16 ≤ length m) (fits : e.status ≤ 32767) where
  abbrev rest : Memory
  rest = take (length m - o) (drop o m)

  not_refused : write_refusal (length rest) e.status ≡ 0
  unfolding write_refusal
  not_refused =
      let h : ltb (length (drop o m)) 16 ≡ false = le-ltb (length (drop o m)) 16 (rw length-drop (omega arith)) in
      rw (rest_part, le-ltb 32767 e.status fits, h) refl

  pub written_ok : (a : Result (Unit {0}) Refusal) → code a ≡ write_refusal (length rest) e.status → IsOk a
  written_ok (Ok x) f = refl
  written_ok (Err r) f = absurd (number_not_0 r (f ∙ not_refused))

  -- what it leaves is put in at o
  pub written_put : (tag : ℕ) {w : List ℕ} → w ≡ written rest e tag
      → take o m ++ (w ++ drop (length m - o) (drop o m)) ≡ put m o (completion_bytes e tag)
  unfolding written settle put
  written_put tag {w} f =
      rest_put o m w ∙ rw (f, not_refused, rest_part, zero-add (length (completion_bytes e tag)), drop-drop)

-- of a queue that has one entry more, the tail and the phase tag are new
pub moved : (y d p : CompletionQueue) → y ≡ d → p ≡ posted y
    → record { ring = with_tail d.ring p.ring.tail; phase = p.phase } ≡ posted y
unfolding posted
moved y d p e f = rw (sym e, f)

-- the commands once a first half has posted
module _ (c : Controller) (second status : ℕ) where
  abbrev with_unlinked : Controller
  with_unlinked = with_commands c (unlinked c.commands second status) c.free c.arbiter

  pub stays : second ≡ 0 → c ≡ with_unlinked
  unfolding unlinked
  stays z = rw (eq-eqb second 0 z)

  pub unlinks : (second ≡ 0 → ⊥) → (k : Command) {half : Command} → k ≡ released status half → half ≡ command_at c (second - 1)
      → with_commands c (set c.commands (second - 1) k) c.free c.arbiter ≡ with_unlinked
  unfolding unlinked
  unlinks n k e f = rw (e, f, ne_eqb second 0 n)

-- the completion queue of a tag's command
abbrev pub queue_of : Controller → ℕ → CompletionQueue
queue_of c tag = cq_at c (cq_of c tag)

-- what is known of a command, its queue and its completion queue past the first part of the table
pub record Postable (k : Command) (x : SubmissionQueue) (y : CompletionQueue) (n tag status : ℕ) : Type 0 where
  pub tag_low : tag < 64
  pub sq_low : k.sq < 16
  pub second_low : k.second ≤ 64
  pub cq_low : x.cq < 16
  pub ring : RingOk y.ring
  pub within : y.ring.base + 16 * y.ring.size ≤ n
  pub phase_low : y.phase ≤ 1
  pub status_low : status_of k.verdict status ≤ 32767

-- the table by its two parts
module _ (c : Controller) (n tag status : ℕ) where
  abbrev on_call : Table
  on_call = call_rules c n tag status

  abbrev on_posting : Table
  on_posting = posting_rules (command_at c tag) (queue_of c tag).ring

  pub refused_call : (r : Refusal) → number r ≡ first_match on_call → number r ≡ finish_refusal c n tag status
  unfolding finish_refusal
  refused_call r e = e ∙ sym (append_refused on_call on_posting (λ z. number_not_0 r (e ∙ z)))

  module _ (e : 0 ≡ first_match on_call) where
    passed_call : Unapplied on_call
    passed_call = passed on_call tt (sym e)

    pub past_call : {l : ℕ} → l ≡ first_match on_posting → l ≡ finish_refusal c n tag status
    unfolding finish_refusal
    past_call f = f ∙ sym (append_passed on_call on_posting passed_call)

    pub postable : Valid c → Postable (command_at c tag) (sq_at c (command_at c tag).sq) (queue_of c tag) n tag status
    postable v =
        let p = passed_call in
        let o = not_no _ p.1.0 in
        let k = v.command_ok tag in
        let y = v.sq_cq (command_at c tag).sq (v.command_sq tag o) in
        record {
          tag_low = (out_set _ _ o).0;
          sq_low = k.sq_low;
          second_low = k.second_low;
          cq_low = v.sq_cq_low (command_at c tag).sq;
          ring = v.cq_ok (cq_of c tag) y;
          within = ring_inside v p.0 (cq (cq_of c tag)) y;
          phase_low = v.cq_phase (cq_of c tag);
          status_low = status_to 32767 _ _ k.verdict_low (ltb-false 32767 status p.1.1.0);
        }

-- ---- what a finish comes to

pub finish_refused : (c : Controller) (m : Memory) (tag status result : ℕ) (r : Refusal)
    → number r ≡ finish_refusal c (length m) tag status → refusing c m (number r) ≡ perform c m (finish tag status result)
unfolding finishing.finish
finish_refused c m tag status result r e = refused c m _ e (number_not_0 r)

-- the command of a tag, its queue and its completion queue, as they were read
module _ (c : Controller) (tag : ℕ) {k : Command} (ek : k ≡ command_at c tag) {x : SubmissionQueue} (ex : x ≡ sq_at c k.sq)
    {y : CompletionQueue} (ey : y ≡ cq_at c x.cq) where
  x_is : x ≡ sq_at c (command_at c tag).sq
  x_is = ex ∙ ap (λ (j : Command). sq_at c j.sq) ek

  y_is : y ≡ queue_of c tag
  y_is = ey ∙ ap (λ (j : SubmissionQueue). cq_at c j.cq) x_is

  module _ (n status : ℕ) (e : 0 ≡ first_match (call_rules c n tag status)) where
    pub read_postable : Valid c → Postable k x y n tag status
    read_postable v = rw (y_is, x_is, ek) (postable c n tag status e v)

    pub on_posting_lem : {l : ℕ} → l ≡ first_match (posting_rules k y.ring) → l ≡ finish_refusal c n tag status
    on_posting_lem f = past_call c n tag status e (f ∙ rw (y_is, ek))

  -- what the stores come to
  pub finish_done : (m : Memory) (status result : ℕ) → 0 ≡ finish_refusal c (length m) tag status
      → {s : ℕ} {left : Memory} (c2 c3 c4 : Controller) → s ≡ status_of k.verdict status
      → left ≡ put m (y.ring.base + 16 * y.ring.tail)
      (completion_bytes (completion result x.ring.head k.sq k.cid s) y.phase)
      → c2 ≡ with_cq c x.cq (posted y)
      → c3 ≡ with_commands c2 (unlinked c2.commands k.second s) c2.free c2.arbiter
      → c4 ≡ with_commands c3 c3.commands (given_back c3.free tag) c3.arbiter
      → outcome (finished (record { slot = y.ring.tail; number = k.number })) c4 left ≡ perform c m (finish tag status result)
  unfolding finishing.finish finished_controller settle
  finish_done m status result e c2 c3 c4 es el e2 e3 e4 = rw (e4, e3, e2, el, es, y_is, x_is, ek, ← e)
