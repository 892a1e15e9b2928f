-- What a finish posts, without the book: the five fields of the entry, each over its whole width, from the command that was outstanding,
-- from the start that took it and from the finish's arguments. Assumes nothing.
use Prim.Native.Nat.{ℕ, ◌+◌, ◌*◌, ◌^◌, ◌≤◌, ◌<◌}
use mathlib.Core.Bool.{true}
use mathlib.Core.List.{List, [], ◌∷◌, ◌++◌, foldl, append-nil}
use mathlib.Core.Logic.{◌⊎◌, inl, inr, ⊎_elim}
use mathlib.Core.Path.{◌≡◌, refl, sym, ap, ◌∙◌}
use native.Mathlib.Nat.{mod-eq_of_lt}
use native.Mathlib.Omega.{arith}
use lib.ListN.{length, get_or}
use borrow.Author.Tests.{eq-eqb, ne_eqb}
use Rattle.rules.proofs.Tests.{same_or_not}
use Rattle.le.specs.Le.{le_at}
use Rattle.le.specs.Memory.{Memory, Bytes, part}
use Rattle.le.proofs.Parts.{part_get_d}
use Rattle.entry.specs.Completion.{completion_bytes, completion_at, phase_tag}
use Rattle.entry.specs.Submission.{submission_at}
use Rattle.entry.specs.declared.completion.Completion.{Completion}
use Rattle.entry.proofs.Completions.{Within, completion_back, phase_back}
use Rattle.controller.specs.declared.Ring.{Ring}
use Rattle.controller.specs.declared.Command.{Command}
use Rattle.controller.specs.Controller.{Controller}
use Rattle.controller.specs.State.{sq_at, cq_at, command_at, outstanding}
use Rattle.controller.specs.Starting.{entry_at}
use Rattle.controller.specs.Finishing.{cq_of, finish_refusal, status_of, completion_of, finish_answer}
use Rattle.controller.specs.Answers.{StartAnswer, FinishAnswer, Answer, finished, Outcome}
use Rattle.controller.specs.Calls.{Call, finish, perform, Reachable, after}
use Rattle.controller.specs.Refusing.{Among}
use Rattle.controller.specs.Steps.{Given, Step, steps, final}
use Rattle.controller.specs.Numbers.{finished_in, numbers_finished}
use Rattle.controller.proofs.Made.{finishable}
use Rattle.controller.proofs.Refusals.{finished_not}
use Rattle.controller.proofs.Steps.{reached}
use Rattle.controller.proofs.Validity.{valid}
use Rattle.controller.proofs.Lasting.{Becomes, Lasts, Finishes, NewCommand, stays_out}
use Rattle.controller.proofs.Conserved.{gathers}
use Rattle.controller.proofs.Unread.{finish_refused, finish_answer_lem, answered_slot, finish_length, finish_others}

-- ---- a finish, from the command that is outstanding

-- where a finish that answers f posts, and what the entry reader finds there
abbrev pub place_of : Controller → ℕ → FinishAnswer → ℕ
place_of c tag f = (cq_at c (sq_at c (command_at c tag).sq).cq).ring.base + 16 * f.slot

abbrev pub entry_in : Controller → ℕ → FinishAnswer → Memory → Completion
entry_in c tag f m = completion_at (part m (place_of c tag f) 16)

-- m is the memory given, and `left` the one left
pub record Posts (c : Controller) (m left : Memory) (tag given value : ℕ) (f : FinishAnswer) : Type 0 where
  -- "The result given is posted in every case"; "SQHD is the SQ head at the moment of posting"
  pub result : (entry_in c tag f left).result ≡ value
  pub sqhd : (entry_in c tag f left).sqhd ≡ (sq_at c (command_at c tag).sq).ring.head
  pub sqid : (entry_in c tag f left).sqid ≡ (command_at c tag).sq
  pub cid : (entry_in c tag f left).cid ≡ (command_at c tag).cid
  -- "The posted status is the verdict if not 0; .. else the status given"
  pub status : Becomes ((command_at c tag).verdict ≡ 0) (entry_in c tag f left).status given (command_at c tag).verdict
  pub phase : phase_tag (part left (place_of c tag f) 16) ≡ (cq_at c (sq_at c (command_at c tag).sq).cq).phase
  -- "The answer names the slot", which is at the tail, and reports the start number
  pub slot : f.slot ≡ (cq_at c (sq_at c (command_at c tag).sq).cq).ring.tail
  pub number : f.number ≡ (command_at c tag).number
  -- "Exactly the 16 bytes at the CQ tail change"
  pub size : length left ≡ length m
  pub others : (i : ℕ) → ((i < place_of c tag f) ⊎ (place_of c tag f + 16 ≤ i)) → get_or left i 0 ≡ get_or m i 0

status_is : (v s : ℕ) → Becomes (v ≡ 0) (status_of v s) s v
unfolding status_of
status_is v s =
    ⊎_elim (λ (z : v ≡ 0). inl (z, rw (eq-eqb v 0 z))) (λ (n : v ≡ 0 → ⊥). inr (n, rw (ne_eqb v 0 n))) (same_or_not v 0)

status_within : (v s : ℕ) → v ≤ 32767 → s ≤ 32767 → status_of v s ≤ 32767
status_within v s h l = ⊎_elim (λ y. rw y.1 l) (λ y. rw y.1 h) (status_is v s)

same_answer : {x y : FinishAnswer} → finished x ≡ finished y → (x.slot ≡ y.slot) × (x.number ≡ y.number)
same_answer e = (cc, cc)

-- every entry is read back as it is posted, a result of 32 bits, a CID of 16, any status that is accepted
pub posts : {c : Controller} → Reachable c → (m : Memory) (tag given value : ℕ) → value < 2 ^ 32 → (command_at c tag).cid < 2 ^ 16
    → {f : FinishAnswer} → (perform c m (finish tag given value)).answer ≡ finished f
    → Posts c m (perform c m (finish tag given value)).memory tag given value f
posts {c} r m tag given value wide cid {f} e =
    record {
      result = ap (λ (x : Completion). x.result) back;
      sqhd = ap (λ (x : Completion). x.sqhd) back;
      sqid = ap (λ (x : Completion). x.sqid) back;
      cid = ap (λ (x : Completion). x.cid) back;
      status = rw (ap (λ (x : Completion). x.status) back) (status_is k.verdict given);
      phase = ap phase_tag bytes ∙ phase_back entry tail [] within ∙ mod-eq_of_lt low;
      slot = same.0;
      number = same.1;
      size = finish_length r m tag given value accepted;
      others = rw same.0 (finish_others r m tag given value accepted);
    }
  where
    accepted : finish_refusal c (length m) tag given ≡ 0
    accepted =
        ⊎_elim (λ (z : finish_refusal c (length m) tag given ≡ 0). z)
        (λ (n : finish_refusal c (length m) tag given ≡ 0 → ⊥).
        absurd (finished_not (sym e ∙ ap (λ (o : Outcome). o.answer) (finish_refused r m tag given value n))))
        (same_or_not (finish_refusal c (length m) tag given) 0)

    same : (f.slot ≡ (finish_answer c tag).slot) × (f.number ≡ (finish_answer c tag).number)
    same = same_answer (sym e ∙ finish_answer_lem r m tag given value accepted)

    k : Command
    k = command_at c tag

    entry : Completion
    entry = completion_of c tag given value

    tail : ℕ
    tail = (cq_at c (cq_of c tag)).phase

    low : tail < 2
    low = omega (arith, (valid r).cq_phase (cq_of c tag))

    within : Within entry
    within =
        let v = valid r in
        let g = finishable c m tag given accepted in
        let o = v.sq_ok k.sq (v.command_sq tag g.out) in
        record {
          result = wide;
          sqhd = omega (arith, o.head_below, o.high);
          sqid = omega (arith, (v.command_ok tag).sq_low);
          cid = cid;
          status = status_within k.verdict given (v.command_ok tag).verdict_low g.status_low;
        }

    bytes : part (perform c m (finish tag given value)).memory (place_of c tag f) 16 ≡ completion_bytes entry tail ++ []
    bytes = answered_slot r m tag given value accepted e ∙ sym (append-nil (completion_bytes entry tail))

    back : entry_in c tag f (perform c m (finish tag given value)).memory ≡ entry
    back = ap completion_at bytes ∙ completion_back entry tail [] within

-- ---- from its start to its finish

-- tag t is outstanding in d with the command that it has in c; one without a first half has its verdict too
pub record Carried (c d : Controller) (t : ℕ) : Type 0 where
  pub out : outstanding d.free t ≡ true
  pub sq : (command_at d t).sq ≡ (command_at c t).sq
  pub cid : (command_at d t).cid ≡ (command_at c t).cid
  pub number : (command_at d t).number ≡ (command_at c t).number
  pub verdict : (command_at c t).first ≡ 0 → ((command_at d t).first ≡ 0) × ((command_at d t).verdict ≡ (command_at c t).verdict)

carried : {c d : Controller} {call : Call} {a : Answer} {t : ℕ} → Lasts c d call a t → Carried c d t
carried l =
    record {
      out = l.out;
      sq = l.sq;
      cid = l.cid;
      number = l.number;
      verdict = λ z. (
        ⊎_elim (λ y. absurd (omega (arith, y.0.half, z))) (λ n. n.1 ∙ z) l.first,
        ⊎_elim (λ y. absurd (omega (arith, y.0.1.half.half, z))) (λ n. n.1) l.verdict,
      );
    }

further : {b c d : Controller} {t : ℕ} → Carried b c t → Carried c d t → Carried b d t
further x y =
    record {
      out = y.out;
      sq = y.sq ∙ x.sq;
      cid = y.cid ∙ x.cid;
      number = y.number ∙ x.number;
      verdict = λ z. let u = x.verdict z in let w = y.verdict u.0 in (w.0, w.1 ∙ u.1);
    }

module _ (n : ℕ) where
  among_right : (xs ys : List ℕ) → Among n ys → Among n (xs ++ ys)
  among_right [] ys h = h
  among_right (x ∷ xs) ys h = inr (among_right xs ys h)

  gathered : (ss : List Step) (ns : List ℕ) → Among n ns → Among n (foldl gathers ns ss)
  gathered [] ns h = h
  gathered (s ∷ ss) ns h = gathered ss (gathers ns s) (among_right (finished_in s.outcome.answer) ns h)

until : (gs : List Given) (ns : List ℕ) {c : Controller} → Reachable c → (t : ℕ) → outstanding c.free t ≡ true
    → Carried c (final c gs) t ⊎ Among (command_at c t).number (foldl gathers ns (steps c gs))
until [] ns r t o = inl (record { out = o; sq = refl; cid = refl; number = refl; verdict = λ z. (z, refl) })
until (g ∷ gs) ns {c} r t o =
    let p = perform c g.memory g.call in
    ⊎_elim
    (λ (l : Lasts c p.controller g.call p.answer t).
    ⊎_elim (λ x. inl (further (carried l) x)) (λ x. inr (rw l.number at x))
    (until gs (finished_in p.answer ++ ns) (after r g.memory g.call) t l.out))
    (λ (f : Finishes c g.call p t).
    inr (gathered _ (steps p.controller gs) (finished_in p.answer ++ ns) (rw f.answer (inl refl))))
    (stays_out r g.memory g.call t o)

-- over any list of calls a command stays as it is until a finish has answered its number
pub until_posted : (gs : List Given) {c : Controller} → Reachable c → (t : ℕ) → outstanding c.free t ≡ true
    → Carried c (final c gs) t ⊎ Among (command_at c t).number (numbers_finished c gs)
until_posted gs r = until gs [] r

-- a CID has two bytes
cid_in : (m : Memory) → Bytes m → (r : Ring) (p : ℕ) → (entry_at m r p).cid < 2 ^ 16
unfolding entry_at submission_at le_at
cid_in m bytes r p =
    let place = r.base + 64 * p in
    omega (arith, part_get_d m place 64 2 (omega arith), part_get_d m place 64 3 (omega arith), bytes (place + 2), bytes (place + 3))

-- e is the entry that is posted for the command that a start with the memory m answered by s and took from that slot under the number n; it
-- has the verdict of the start, or where that is 0 the status given, if it is no second half (before is then 0)
pub record PostedAs (c : Controller) (m : Memory) (s : StartAnswer) (slot before n : ℕ) (e : Completion) (given value answered : ℕ)
    : Type 0 where
  pub result : e.result ≡ value
  pub sqid : e.sqid ≡ s.sq
  pub cid : e.cid ≡ (entry_at m (sq_at c s.sq).ring slot).cid
  pub status : before ≡ 0 → Becomes (s.verdict ≡ 0) e.status given s.verdict
  pub number : answered ≡ n

-- a command is posted with the SQ id, CID, verdict and number of its start, however many calls lie between
pub posted_as_taken : {c d : Controller} → Reachable d → {m : Memory} → Bytes m → {s : StartAnswer} {t slot before behind n : ℕ}
    → NewCommand c d m s t slot before behind n → (gs : List Given) → (Among n (numbers_finished d gs) → ⊥)
    → (m' : Memory) (given value : ℕ) → value < 2 ^ 32 → {f : FinishAnswer}
    → (perform (final d gs) m' (finish t given value)).answer ≡ finished f
    → PostedAs c m s slot before n (entry_in (final d gs) t f (perform (final d gs) m' (finish t given value)).memory) given value
    f.number
posted_as_taken {c} {d} r {m} bytes {s} {t} {slot} {before} {n = n} k gs unposted m' given value wide {f} e =
    ⊎_elim
    (λ (x : Carried d (final d gs) t).
    let i = x.cid ∙ k.cid in
    let low : (command_at (final d gs) t).cid < 2 ^ 16 = rw i (cid_in m bytes (sq_at c s.sq).ring slot) in
    let p = posts (reached gs r) m' t given value wide low e in
    record {
      result = p.result;
      sqid = p.sqid ∙ x.sq ∙ k.sq;
      cid = p.cid ∙ i;
      status = λ z. rw ((x.verdict (k.first ∙ z)).1 ∙ k.verdict) at p.status;
      number = p.number ∙ x.number ∙ k.number;
    })
    (λ a. absurd (unposted (rw k.number at a))) (until_posted gs r t k.out)
