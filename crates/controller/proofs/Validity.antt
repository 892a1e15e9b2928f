-- Every controller that came from a fresh one by calls is valid: a fresh one is, and each call keeps it so. Assumes nothing.
use Prim.Native.Nat.{ℕ, zero, suc, ◌+◌, ◌-◌, ◌/◌, ◌^◌, ◌≤◌, ◌<◌}
use mathlib.Core.Bool.{Bool, true, false, true≢false}
use mathlib.Core.List.{List}
use mathlib.Core.Path.{◌≡◌, refl, sym, ap, ◌∙◌}
use native.Mathlib.Nat.{mod-lt}
use native.Mathlib.Omega.{arith}
use lib.Dec.{eqb, lit≤, lit<}
use lib.ListN.{length, get_or, set, length-set, length-replicate}
use lib.Pow.{pow_pos}
use lib.Seq.{get_or-set_other}
use Rattle.rules.proofs.Tests.{and_true, clash}
use Rattle.bits.specs.Bits.{is_set}
use Rattle.bits.specs.Tags.{given_back}
use Rattle.bits.proofs.Bits.{is_set_lem, set_suc}
use Rattle.bits.proofs.Tags.{OneTaken, back_fits}
use Rattle.le.specs.Memory.{Memory}
use Rattle.ring.specs.Slots.{phase_after}
use Rattle.ring.proofs.Steps.{next_below}
use Rattle.ring.proofs.Doorbells.{valid_tail_lem, valid_head_lem}
use Rattle.arbiter.specs.declared.Arbiter.{Arbiter}
use Rattle.entry.specs.declared.submission.Submission.{Submission}
use Rattle.controller.specs.declared.Ring.{Ring}
use Rattle.controller.specs.declared.SubmissionQueue.{SubmissionQueue}
use Rattle.controller.specs.declared.CompletionQueue.{CompletionQueue}
use Rattle.controller.specs.declared.Command.{Command}
use Rattle.controller.specs.Controller.{Controller}
use Rattle.controller.specs.State.{no_sq, no_cq, no_command, sq_at, cq_at, command_at, outstanding, with_sq, with_cq, with_head, with_tail}
use Rattle.controller.specs.State.{sq_with_ring, with_commands, with_next_number, fresh_controller}
use Rattle.controller.specs.Valid.{RingOk, CommandOk, Valid}
use Rattle.controller.specs.Create.{new_ring}
use Rattle.controller.specs.Delete.{busy, named}
use Rattle.controller.specs.Doorbell.{mark}
use Rattle.controller.specs.Verdict.{one_rules, pair_rules, verdict_one, verdict_pair}
use Rattle.controller.specs.Starting.{candidate_at, passed, one_taken, pair_taken}
use Rattle.controller.specs.Finishing.{cq_of, unlinked, posted, finished_controller}
use Rattle.controller.specs.Answers.{Outcome}
use Rattle.controller.specs.Calls.{Call, Reachable, fresh, after}
use Rattle.controller.proofs.Lists.{set_ind, set_all, set_keep, in_list, get_d_same}
use Rattle.rules.proofs.Cases.{pick_cases, match_to}
use Rattle.controller.proofs.Outstanding.{says_out, out_set, taken_other, back_was}
use Rattle.controller.proofs.Deleting.{says_busy, says_named}
use Rattle.controller.proofs.Choosing.{Candidate}
use Rattle.controller.proofs.Unlinked.{unlinked_length, unlinked_sq, unlinked_ok}
use Rattle.controller.proofs.Made.{NewRing, takes_one, takes_pair, finishes, Made, refuses, marks, creates_cq, creates_sq}
use Rattle.controller.proofs.Made.{deletes_cq, deletes_sq, moves_tail, moves_head, commands, made}

abbrev SqHere : SubmissionQueue → Type 0
SqHere q = q.ring.exists ≡ true

abbrev pub CqHere : CompletionQueue → Type 0
CqHere q = q.ring.exists ≡ true

-- ---- a fresh controller

all_set : (k t : ℕ) → t < k → is_set (2 ^ k - 1) t ≡ true
all_set zero t h = absurd (omega arith)
all_set (suc k) zero h = is_set_lem _ 0 (omega (arith, pow_pos k))
all_set (suc k) (suc t) h =
    let e : (2 ^ suc k - 1) / 2 ≡ 2 ^ k - 1 = omega (arith, pow_pos k) in
    set_suc (2 ^ suc k - 1) t ∙ ap (λ (x : ℕ). is_set x t) e ∙ all_set k t (omega arith)

-- every tag is free
pub none_out : (t : ℕ) → outstanding (2 ^ 64 - 1) t ≡ true → ⊥
none_out t o = let s = out_set (2 ^ 64 - 1) t o in clash (all_set 64 t s.0) s.1

fresh_valid : (weighted : Bool) (word : ℕ) → Valid (fresh_controller weighted word)
fresh_valid weighted word =
    record {
      sqs_16 = length-replicate 16 no_sq;
      cqs_16 = length-replicate 16 no_cq;
      commands_64 = length-replicate 64 no_command;
      free_64 = lit< tt;
      sq_ok = λ i. rw (get_d_same 16 i no_sq) (λ e. absurd (true≢false (sym e)));
      cq_ok = λ i. rw (get_d_same 16 i no_cq) (λ e. absurd (true≢false (sym e)));
      sq_cq = λ i. rw (get_d_same 16 i no_sq) (λ e. absurd (true≢false (sym e)));
      sq_cq_low = λ i. rw (get_d_same 16 i no_sq) (lit< tt);
      sq_class = λ i. rw (get_d_same 16 i no_sq) (lit≤ tt);
      cq_phase = λ i. rw (get_d_same 16 i no_cq) (lit≤ tt);
      command_ok =
          λ t. rw (get_d_same 64 t no_command)
          (record { sq_low = lit< tt; verdict_low = lit≤ tt; first_low = lit≤ tt; second_low = lit≤ tt });
      command_sq = λ t o. absurd (none_out t o);
    }

-- ---- one queue, or the commands, changed

-- what a queue that is stored has to be
record SqFits (c : Controller) (q : SubmissionQueue) : Type 0 where
  pub here : SqHere q
  pub ring : RingOk q.ring
  pub cq_here : CqHere (cq_at c q.cq)
  pub cq_low : q.cq < 16
  pub class_low : q.class ≤ 3

record CqFits (q : CompletionQueue) : Type 0 where
  pub here : CqHere q
  pub ring : RingOk q.ring
  pub phase_low : q.phase ≤ 1

module _ {c : Controller} (v : Valid c) where
  -- a queue that exists has an id below 16
  pub sq_below : {i : ℕ} → (sq_at c i).ring.exists ≡ true → i < 16
  sq_below {i} h = rw v.sqs_16 at (in_list c.sqs i no_sq (λ q. q.ring.exists) refl h)

  pub cq_below : {i : ℕ} → (cq_at c i).ring.exists ≡ true → i < 16
  cq_below {i} h = rw v.cqs_16 at (in_list c.cqs i no_cq (λ q. q.ring.exists) refl h)

  with_sq_lem : (i : ℕ) (q : SubmissionQueue) → i < 16 → SqFits c q → Valid (with_sq c i q)
  with_sq_lem i q l f =
      let l' : i < length c.sqs = rw v.sqs_16 l in
      record {
        sqs_16 = length-set c.sqs i q ∙ v.sqs_16;
        cqs_16 = v.cqs_16;
        commands_64 = v.commands_64;
        free_64 = v.free_64;
        sq_ok = set_all c.sqs i q no_sq (λ x. SqHere x → RingOk x.ring) l' (λ h. f.ring) v.sq_ok;
        cq_ok = v.cq_ok;
        sq_cq = set_all c.sqs i q no_sq (λ x. SqHere x → CqHere (cq_at c x.cq)) l' (λ h. f.cq_here) v.sq_cq;
        sq_cq_low = set_all c.sqs i q no_sq (λ x. x.cq < 16) l' f.cq_low v.sq_cq_low;
        sq_class = set_all c.sqs i q no_sq (λ x. x.class ≤ 3) l' f.class_low v.sq_class;
        cq_phase = v.cq_phase;
        command_ok = v.command_ok;
        command_sq = λ t o. set_keep c.sqs i q no_sq SqHere l' f.here _ (v.command_sq t o);
      }

  with_cq_lem : (i : ℕ) (q : CompletionQueue) → i < 16 → CqFits q → Valid (with_cq c i q)
  with_cq_lem i q l f =
      let l' : i < length c.cqs = rw v.cqs_16 l in
      record {
        sqs_16 = v.sqs_16;
        cqs_16 = length-set c.cqs i q ∙ v.cqs_16;
        commands_64 = v.commands_64;
        free_64 = v.free_64;
        sq_ok = v.sq_ok;
        cq_ok = set_all c.cqs i q no_cq (λ x. CqHere x → RingOk x.ring) l' (λ h. f.ring) v.cq_ok;
        sq_cq = λ j h. set_keep c.cqs i q no_cq CqHere l' f.here _ (v.sq_cq j h);
        sq_cq_low = v.sq_cq_low;
        sq_class = v.sq_class;
        cq_phase = set_all c.cqs i q no_cq (λ x. x.phase ≤ 1) l' f.phase_low v.cq_phase;
        command_ok = v.command_ok;
        command_sq = v.command_sq;
      }

  -- a submission queue without outstanding commands is gone
  without_sq : (i : ℕ) → i < 16 → busy c i ≡ false → Valid (with_sq c i no_sq)
  without_sq i l idle =
      let l' : i < length c.sqs = rw v.sqs_16 l in
      record {
        sqs_16 = length-set c.sqs i no_sq ∙ v.sqs_16;
        cqs_16 = v.cqs_16;
        commands_64 = v.commands_64;
        free_64 = v.free_64;
        sq_ok = set_all c.sqs i no_sq no_sq (λ x. SqHere x → RingOk x.ring) l' (λ h. absurd (true≢false (sym h))) v.sq_ok;
        cq_ok = v.cq_ok;
        sq_cq = set_all c.sqs i no_sq no_sq (λ x. SqHere x → CqHere (cq_at c x.cq)) l' (λ h. absurd (true≢false (sym h))) v.sq_cq;
        sq_cq_low = set_all c.sqs i no_sq no_sq (λ x. x.cq < 16) l' (lit< tt) v.sq_cq_low;
        sq_class = set_all c.sqs i no_sq no_sq (λ x. x.class ≤ 3) l' (lit≤ tt) v.sq_class;
        cq_phase = v.cq_phase;
        command_ok = v.command_ok;
        command_sq = λ t o.
            rw (get_or-set_other c.sqs i (command_at c t).sq no_sq no_sq
            (λ e. (says_busy c i).no idle (record { tag = t; out = (says_out c t).yes o; from = e }))) (v.command_sq t o);
      }

  -- a completion queue that no submission queue names is gone
  without_cq : (i : ℕ) → i < 16 → named c i ≡ false → Valid (with_cq c i no_cq)
  without_cq i l unnamed =
      let l' : i < length c.cqs = rw v.cqs_16 l in
      record {
        sqs_16 = v.sqs_16;
        cqs_16 = length-set c.cqs i no_cq ∙ v.cqs_16;
        commands_64 = v.commands_64;
        free_64 = v.free_64;
        sq_ok = v.sq_ok;
        cq_ok = set_all c.cqs i no_cq no_cq (λ x. CqHere x → RingOk x.ring) l' (λ h. absurd (true≢false (sym h))) v.cq_ok;
        sq_cq = λ j h.
            rw (get_or-set_other c.cqs i (sq_at c j).cq no_cq no_cq
            (λ e. (says_named c i).no unnamed (record { sq = j; low = sq_below h; here = h; names = e }))) (v.sq_cq j h);
        sq_cq_low = v.sq_cq_low;
        sq_class = v.sq_class;
        cq_phase = set_all c.cqs i no_cq no_cq (λ x. x.phase ≤ 1) l' (lit≤ tt) v.cq_phase;
        command_ok = v.command_ok;
        command_sq = v.command_sq;
      }

  with_commands_lem : (ks : List Command) (free : ℕ) (a : Arbiter) → length ks ≡ 64 → free < 2 ^ 64
      → ((t : ℕ) → CommandOk (get_or ks t no_command))
      → ((t : ℕ) → outstanding free t ≡ true → SqHere (sq_at c (get_or ks t no_command).sq))
      → Valid (with_commands c ks free a)
  with_commands_lem ks free a n f ok sq =
      record {
        sqs_16 = v.sqs_16;
        cqs_16 = v.cqs_16;
        commands_64 = n;
        free_64 = f;
        sq_ok = v.sq_ok;
        cq_ok = v.cq_ok;
        sq_cq = v.sq_cq;
        sq_cq_low = v.sq_cq_low;
        sq_class = v.sq_class;
        cq_phase = v.cq_phase;
        command_ok = ok;
        command_sq = sq;
      }

  -- the next start number may be any
  with_number : (n : ℕ) → Valid (with_next_number c n)
  with_number n =
      record {
        sqs_16 = v.sqs_16;
        cqs_16 = v.cqs_16;
        commands_64 = v.commands_64;
        free_64 = v.free_64;
        sq_ok = v.sq_ok;
        cq_ok = v.cq_ok;
        sq_cq = v.sq_cq;
        sq_cq_low = v.sq_cq_low;
        sq_class = v.sq_class;
        cq_phase = v.cq_phase;
        command_ok = v.command_ok;
        command_sq = v.command_sq;
      }

  -- a tag is taken for a command of a queue that exists
  add_command : (a : Arbiter) (k : Command) {t left : ℕ} → OneTaken c.free t left → CommandOk k → SqHere (sq_at c k.sq)
      → Valid (with_commands c (set c.commands t k) left a)
  add_command a k {t} {left} w ok h =
      let l : t < length c.commands = rw v.commands_64 w.low in
      with_commands_lem (set c.commands t k) left a (length-set c.commands t k ∙ v.commands_64) w.fits
      (set_all c.commands t k no_command CommandOk l ok v.command_ok)
      (set_ind c.commands t k no_command (λ j x. outstanding left j ≡ true → SqHere (sq_at c x.sq)) l (λ o. h)
      (λ j d o. v.command_sq j (sym (taken_other w j d) ∙ o)))

  -- the queue of an id is as it has to be
  sq_fits : (i : ℕ) → SqHere (sq_at c i) → SqFits c (sq_at c i)
  sq_fits i h = record { here = h; ring = v.sq_ok i h; cq_here = v.sq_cq i h; cq_low = v.sq_cq_low i; class_low = v.sq_class i }

-- ---- rings

new_ok : {c : Controller} {n entry size base : ℕ} → NewRing c n entry size base → RingOk (new_ring size base)
new_ok r =
    record { low = r.low; high = r.high; head_below = omega (arith, r.low); tail_below = omega (arith, r.low); aligned = r.aligned }

head_ok : (r : Ring) (v : ℕ) → v < r.size → RingOk r → RingOk (with_head r v)
head_ok r v h k = record { low = k.low; high = k.high; head_below = h; tail_below = k.tail_below; aligned = k.aligned }

tail_ok : (r : Ring) (v : ℕ) → v < r.size → RingOk r → RingOk (with_tail r v)
tail_ok r v h k = record { low = k.low; high = k.high; head_below = k.head_below; tail_below = h; aligned = k.aligned }

sq_moved : {c : Controller} (q : SubmissionQueue) (r : Ring) → SqFits c q → r.exists ≡ true → RingOk r → SqFits c (sq_with_ring q r)
sq_moved q r f e k = record { here = e; ring = k; cq_here = f.cq_here; cq_low = f.cq_low; class_low = f.class_low }

after_low : (size p phase : ℕ) → phase ≤ 1 → phase_after size p phase ≤ 1
unfolding phase_after
after_low size p phase h = pick_cases (λ n. n ≤ 1) (eqb (p + 1) size) _ _ (λ e. omega arith) (λ e. h)

posted_fits : (q : CompletionQueue) → CqFits q → CqFits (posted q)
unfolding posted
posted_fits q f =
    record {
      here = f.here;
      ring = tail_ok q.ring _ (next_below q.ring.size q.ring.tail (omega (arith, f.ring.low))) f.ring;
      phase_low = after_low _ _ _ f.phase_low;
    }

-- ---- starting

pub candidate_here : (c : Controller) (i : ℕ) → candidate_at c i ≡ true → SqHere (sq_at c i)
unfolding candidate_at
candidate_here c i e = (and_true (sq_at c i).ring.exists _ e).0

verdict_one_lem : (id : ℕ) (e : Submission) (b : Bool) → verdict_one id e b ≤ 32767
unfolding verdict_one
verdict_one_lem id e b = match_to 32767 (one_rules id e b) tt

verdict_pair_lem : (e f : Submission) (a b : Bool) → verdict_pair e f a b ≤ 32767
unfolding verdict_pair
verdict_pair_lem e f a b = match_to 32767 (pair_rules e f a b) tt

module _ {c : Controller} (v : Valid c) (id n : ℕ) (k : Candidate c id) where
  here : SqHere (sq_at c id)
  here = candidate_here c id k.1

  passed_valid : Valid (with_sq c id (passed (sq_at c id) n))
  passed_valid =
      let q = sq_at c id in
      let o = v.sq_ok id here in
      with_sq_lem v id (passed q n) k.0 (sq_moved q _ (sq_fits v id here) here (head_ok q.ring _ (mod-lt _ (omega (arith, o.low))) o))

  passed_here : SqHere (sq_at (with_sq c id (passed (sq_at c id) n)) id)
  passed_here = set_keep c.sqs id (passed (sq_at c id) n) no_sq SqHere (rw v.sqs_16 k.0) here id here

-- ---- each call keeps a controller valid

pub valid_kept : {c : Controller} {m : Memory} {call : Call} {o : Outcome} → Valid c → Made c m call o → Valid o.controller
unfolding one_taken pair_taken finished_controller
valid_kept v (refuses call n) = v
valid_kept {c} v (marks id x r e) =
    let f = sq_fits v id r.here in
    with_sq_lem v id (mark (sq_at c id)) r.id_low
    (record { here = f.here; ring = f.ring; cq_here = f.cq_here; cq_low = f.cq_low; class_low = f.class_low })
valid_kept v (creates_cq id size base r) = with_cq_lem v id _ r.id_low (record { here = refl; ring = new_ok r.ring; phase_low = lit≤ tt })
valid_kept v (creates_sq id size base cq class r) =
    with_sq_lem v id _ r.id_low
    (record { here = refl; ring = new_ok r.ring; cq_here = r.cq_here; cq_low = cq_below v r.cq_here; class_low = r.class_low })
valid_kept v (deletes_cq id r) = without_cq v id r.id_low r.unused
valid_kept v (deletes_sq id r) = without_sq v id r.id_low r.unused
valid_kept {c} v (moves_tail id x r e) =
    let q = sq_at c id in
    with_sq_lem v id _ r.id_low
    (sq_moved q _ (sq_fits v id r.here) r.here (tail_ok q.ring x ((valid_tail_lem _ _ _ x).0 e).0 (v.sq_ok id r.here)))
valid_kept {c} v (moves_head id x r) =
    let q = cq_at c id in
    with_cq_lem v id _ r.id_low
    (record {
      here = r.here;
      ring = head_ok q.ring x ((valid_head_lem _ _ _ x).0 r.valid).0 (v.cq_ok id r.here);
      phase_low = v.cq_phase id;
    })
valid_kept v (commands (takes_one id a t left s e w)) =
    let k = s.candidate in
    with_number
    (add_command (passed_valid v id 1 k) a _ w
    (record { sq_low = k.0; verdict_low = verdict_one_lem id _ _; first_low = lit≤ tt; second_low = lit≤ tt }) (passed_here v id 1 k)) _
valid_kept v (commands (takes_pair id a t u left s e w)) =
    let k = s.candidate in
    let b = verdict_pair_lem _ _ _ _ in
    with_number
    (add_command
    (add_command (passed_valid v id 2 k) a _ w.first
    (record { sq_low = k.0; verdict_low = b; first_low = lit≤ tt; second_low = omega (arith, w.second.low) }) (passed_here v id 2 k))
    a _ w.second
    (record { sq_low = k.0; verdict_low = b; first_low = omega (arith, w.first.low); second_low = lit≤ tt }) (passed_here v id 2 k)) _
valid_kept {c} v (commands (finishes tag status result r)) =
    let i = cq_of c tag in
    let s = (command_at c tag).second in
    let h = v.sq_cq _ (v.command_sq tag r.out) in
    with_commands_lem
    (with_cq_lem v i (posted (cq_at c i)) (cq_below v h)
    (posted_fits (cq_at c i) (record { here = h; ring = v.cq_ok i h; phase_low = v.cq_phase i })))
    (unlinked c.commands s _) (given_back c.free tag) c.arbiter (unlinked_length c.commands s _ ∙ v.commands_64)
    (back_fits c.free tag v.free_64) (unlinked_ok c.commands s _ v.commands_64 (v.command_ok tag).second_low v.command_ok)
    (λ t o. rw (unlinked_sq c.commands s _ t)
    (v.command_sq t (back_was c.free tag r.out t o)))

pub valid : {c : Controller} → Reachable c → Valid c
valid (fresh weighted word) = fresh_valid weighted word
valid (after {c} r m call) = let v = valid r in valid_kept v (made c m v.free_64 call)
