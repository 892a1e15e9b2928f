-- A command that is outstanding stays so, with its queue, CID, start number and links, until its own finish that is not refused; and what
-- a start takes is what its answer says. Assumes nothing.
use Prim.Native.Nat.{ℕ, ◌+◌, ◌-◌, ◌%◌, ◌<◌}
use mathlib.Core.Bool.{true}
use mathlib.Core.List.{List}
use mathlib.Core.Logic.{◌⊎◌, inl, inr, ⊎_elim}
use mathlib.Core.Path.{◌≡◌, refl, sym, ap, ◌∙◌}
use native.Mathlib.Omega.{arith}
use lib.ListN.{length, get_or, set}
use lib.Seq.{get_or-set_same, get_or-set_other}
use borrow.Author.Tests.{eq-eqb, ne_eqb}
use Rattle.rules.proofs.Tests.{same_or_not}
use Rattle.le.specs.Memory.{Memory}
use Rattle.ring.specs.Slots.{next}
use Rattle.controller.specs.declared.Command.{Command}
use Rattle.controller.specs.Controller.{Controller}
use Rattle.controller.specs.State.{no_command, sq_at, command_at, outstanding}
use Rattle.controller.specs.Starting.{entry_at, one_taken, pair_taken}
use Rattle.controller.specs.Finishing.{status_of, released, unlinked, finished_controller}
use Rattle.controller.specs.Answers.{StartAnswer, FinishAnswer, Answer, done, started, finished, Outcome}
use Rattle.controller.specs.Calls.{Call, start, finish, perform, Reachable}
use Rattle.controller.proofs.Outstanding.{out_set, taken_out, taken_new, taken_other, back_gone, back_out, back_was}
use Rattle.controller.proofs.Unlinked.{unlinked_same, unlinked_other}
use Rattle.controller.proofs.Made.{takes_one, takes_pair, finishes, Commands, refused_leaves, done_leaves, changes, of_commands}
use Rattle.controller.proofs.Made.{made, of_start}
use Rattle.controller.proofs.Refusals.{finished_not}
use Rattle.controller.proofs.Validity.{valid}
use Rattle.controller.proofs.Links.{Linked, linked, at_first, at_second}

-- x is the new value exactly if P, and else the old one
abbrev pub Becomes : Type 0 → {A : Type 0} → A → A → A → Type 0
Becomes P x new old = (P × (x ≡ new)) ⊎ ((P → ⊥) × (x ≡ old))

-- the call finished the first half of tag t's command, and was not refused
pub record HalfFinished (c : Controller) (call : Call) (a : Answer) (t : ℕ) : Type 0 where
  pub tag : ℕ
  pub status : ℕ
  pub result : ℕ
  pub answer : FinishAnswer
  pub is : call ≡ finish tag status result
  pub answers : a ≡ finished answer
  pub half : (command_at c t).first ≡ tag + 1

-- and posted a status other than 0: its verdict, or where that is 0 the one given
pub record HalfFailed (c : Controller) (call : Call) (a : Answer) (t : ℕ) : Type 0 where
  pub half : HalfFinished c call a t
  pub nonzero : (command_at c half.tag).verdict ≡ 0 → half.status ≡ 0 → ⊥

-- tag t is outstanding in d, with the command that it has in c: its first half is named until that is finished, and the verdict 0 becomes
-- "09h for a second half whose first half posted a status other than 0"
pub record Lasts (c d : Controller) (call : Call) (a : Answer) (t : ℕ) : Type 0 where
  pub out : outstanding d.free t ≡ true
  pub sq : (command_at d t).sq ≡ (command_at c t).sq
  pub cid : (command_at d t).cid ≡ (command_at c t).cid
  pub number : (command_at d t).number ≡ (command_at c t).number
  pub second : (command_at d t).second ≡ (command_at c t).second
  pub first : Becomes (HalfFinished c call a t) (command_at d t).first 0 (command_at c t).first
  pub verdict : Becomes (((command_at c t).verdict ≡ 0) × HalfFailed c call a t) (command_at d t).verdict 0x09 (command_at c t).verdict

-- the call is the finish of tag t; it answers the number of its command, and the tag is outstanding no more
pub record Finishes (c : Controller) (call : Call) (o : Outcome) (t : ℕ) : Type 0 where
  pub status : ℕ
  pub result : ℕ
  pub slot : ℕ
  pub is : call ≡ finish t status result
  pub answer : o.answer ≡ finished (record { slot = slot; number = (command_at c t).number })
  pub gone : outstanding o.controller.free t ≡ true → ⊥

-- the call is a start that took tag t
pub record Takes (call : Call) (o : Outcome) (t : ℕ) : Type 0 where
  pub taken : StartAnswer
  pub is : call ≡ start
  pub answer : o.answer ≡ started taken
  pub tag : (t ≡ taken.first) ⊎ ((taken.count ≡ 2) × (t ≡ taken.second))

-- ---- the verdict of a second half

-- the posted status is 0 exactly if both are
zero_status : {v s : ℕ} → status_of v s ≡ 0 → (v ≡ 0) × (s ≡ 0)
unfolding status_of
zero_status {v} {s} e =
    ⊎_elim (λ (z : v ≡ 0). (z, rw (eq-eqb v 0 z) at e)) (λ (n : v ≡ 0 → ⊥). absurd (n (rw (ne_eqb v 0 n) at e))) (same_or_not v 0)

status_zero : {v s : ℕ} → v ≡ 0 → s ≡ 0 → status_of v s ≡ 0
unfolding status_of
status_zero {v} {s} z e = rw (eq-eqb v 0 z) e

module _ (status : ℕ) (k : Command) where
  told : (status ≡ 0 → ⊥) → k.verdict ≡ 0 → (released status k).verdict ≡ 0x09
  unfolding released status_of
  told n z = rw (ne_eqb status 0 n, eq-eqb k.verdict 0 z)

  untold : status ≡ 0 → (released status k).verdict ≡ k.verdict
  unfolding released
  untold z = rw (eq-eqb status 0 z)

  judged : (k.verdict ≡ 0 → ⊥) → (released status k).verdict ≡ k.verdict
  unfolding released status_of
  judged n = ⊎_elim (λ (z : status ≡ 0). rw (eq-eqb status 0 z)) (λ (d : status ≡ 0 → ⊥). rw (ne_eqb status 0 d, ne_eqb k.verdict 0 n))
      (same_or_not status 0)

-- ---- one call

-- no answer but that of a finish finishes a first half
module _ {c : Controller} {call : Call} {a : Answer} {t : ℕ} (n : (f : FinishAnswer) → a ≡ finished f → ⊥) where
  -- the same command, at a tag that is still outstanding
  same_command : {d : Controller} → outstanding d.free t ≡ true → command_at d t ≡ command_at c t → Lasts c d call a t
  same_command o e =
      record {
        out = o;
        sq = ap (λ (k : Command). k.sq) e;
        cid = ap (λ (k : Command). k.cid) e;
        number = ap (λ (k : Command). k.number) e;
        second = ap (λ (k : Command). k.second) e;
        first = inr (λ (h : HalfFinished c call a t). n h.answer h.answers, ap (λ (k : Command). k.first) e);
        verdict = inr (λ h. n h.1.half.answer h.1.half.answers, ap (λ (k : Command). k.verdict) e);
      }

done_unfinished : (f : FinishAnswer) → done ≡ finished f → ⊥
done_unfinished f e = let z : ◌≡◌ {A = ℕ} 0 1 = cc in omega arith

started_unfinished : {s : StartAnswer} (f : FinishAnswer) → started s ≡ finished f → ⊥
started_unfinished f e = let z : ◌≡◌ {A = ℕ} 0 1 = cc in omega arith

same_tag : {x y s s' r r' : ℕ} → finish x s r ≡ finish y s' r' → (y ≡ x) × (s' ≡ s)
same_tag e = (cc, cc)

-- a finish of another tag than t that posts `posted`
module _ (c : Controller) (tag status result t : ℕ) (many : length c.commands ≡ 64) (low : t < 64)
    (l : Linked c.commands c.free) (out : outstanding c.free tag ≡ true) (p : outstanding c.free t ≡ true) where
  abbrev posted : ℕ
  posted = status_of (command_at c tag).verdict status

  abbrev left : List Command
  left = unlinked c.commands (command_at c tag).second posted

  abbrev Half : Answer → Type 0
  Half a = HalfFinished c (finish tag status result) a t

  abbrev Failed : Answer → Type 0
  Failed a = HalfFailed c (finish tag status result) a t

  -- the second half that tag's command names is the command that is released
  released_here : (command_at c tag).second ≡ t + 1 → get_or left t no_command ≡ released posted (command_at c t)
  unfolding unlinked
  released_here e =
      let n : t + 1 ≡ 0 → ⊥ = λ z. omega arith in
      let q : t + 1 - 1 ≡ t = omega arith in
      let h : t < length c.commands = rw many low in
      rw (e, ne_eqb (t + 1) 0 n, q) (get_or-set_same c.commands t _ no_command h)

  -- where tag's command names another, it is not the first half of t's
  not_half : {a : Answer} → ((command_at c tag).second ≡ t + 1 → ⊥) → Half a → ⊥
  not_half d h = d ((l t p).up tag (h.half ∙ ap (λ (x : ℕ). x + 1) (same_tag h.is).0)).names_second

  module _ (f : FinishAnswer) where
    half_first : Becomes (Half (finished f)) (get_or left t no_command).first 0 (command_at c t).first
    unfolding released
    half_first =
        ⊎_elim
        (λ (e : (command_at c tag).second ≡ t + 1). inl (half e, ap (λ (k : Command). k.first) (released_here e)))
        (λ (d : (command_at c tag).second ≡ t + 1 → ⊥).
        inr (not_half d, ap (λ (k : Command). k.first) (unlinked_other c.commands _ _ t d)))
        (same_or_not (command_at c tag).second (t + 1))
      where
        half : (command_at c tag).second ≡ t + 1 → Half (finished f)
        half e =
            record {
              tag = tag;
              status = status;
              result = result;
              answer = f;
              is = refl;
              answers = refl;
              half = ((l tag out).down t e).names_first;
            }

    half_verdict : Becomes (((command_at c t).verdict ≡ 0) × Failed (finished f)) (get_or left t no_command).verdict 0x09
        (command_at c t).verdict
    half_verdict =
        ⊎_elim
        (λ (e : (command_at c tag).second ≡ t + 1).
        let v = ap (λ (k : Command). k.verdict) (released_here e) in
        ⊎_elim
        (λ (z : (command_at c t).verdict ≡ 0).
        ⊎_elim
        (λ (s : posted ≡ 0).
        inr (
          λ (h : ((command_at c t).verdict ≡ 0) × Failed (finished f)).
              let q = same_tag h.1.half.is in
              let w = zero_status s in
              h.1.nonzero (ap (λ (x : ℕ). (command_at c x).verdict) q.0 ∙ w.0) (q.1 ∙ w.1),
          v ∙ untold posted (command_at c t) s,
        ))
        (λ (n : posted ≡ 0 → ⊥).
        inl (
          (
            z,
            record {
              half = record {
                tag = tag;
                status = status;
                result = result;
                answer = f;
                is = refl;
                answers = refl;
                half = ((l tag out).down t e).names_first;
              };
              nonzero = λ x y. n (status_zero x y);
            },
          ),
          v ∙ told posted (command_at c t) n z,
        ))
        (same_or_not posted 0))
        (λ (n : (command_at c t).verdict ≡ 0 → ⊥).
        inr (λ (h : ((command_at c t).verdict ≡ 0) × Failed (finished f)). n h.0, v ∙ judged posted (command_at c t) n))
        (same_or_not (command_at c t).verdict 0))
        (λ (d : (command_at c tag).second ≡ t + 1 → ⊥).
        inr (
          λ (h : ((command_at c t).verdict ≡ 0) × Failed (finished f)). not_half d h.1.half,
          ap (λ (k : Command). k.verdict) (unlinked_other c.commands _ _ t d),
        ))
        (same_or_not (command_at c tag).second (t + 1))

module _ {c : Controller} (many : length c.commands ≡ 64) (t : ℕ) where
  lasts : {m : Memory} {call : Call} {o : Outcome} → Linked c.commands c.free → outstanding c.free t ≡ true → Commands c m call o
      → Lasts c o.controller call o.answer t ⊎ Finishes c call o t
  unfolding one_taken pair_taken finished_controller released
  lasts l p (refused_leaves call n xs) = inl (same_command (λ f e. finished_not (sym e)) p refl)
  lasts l p (done_leaves call xs ys) = inl (same_command done_unfinished p refl)
  lasts l p (changes (takes_one id a x left s e w)) =
      let d = taken_new w t p in
      inl (same_command started_unfinished (taken_other w t d ∙ p) (get_or-set_other c.commands x t _ no_command d))
  lasts l p (changes (takes_pair id a x y left s e w)) =
      let d = taken_new w.first t p in
      let q = taken_other w.first t d ∙ p in
      let b = taken_new w.second t q in
      inl (same_command started_unfinished (taken_other w.second t b ∙ q)
      (get_or-set_other (set c.commands x _) y t _ no_command b ∙ get_or-set_other c.commands x t _ no_command d))
  lasts l p (changes (finishes tag status result r)) =
      let low = (out_set c.free t p).0 in
      ⊎_elim
      (λ (e : t ≡ tag). inr (rw e (record {
        status = status;
        result = result;
        slot = _;
        is = refl;
        answer = refl;
        gone = λ q. back_gone c.free tag (out_set c.free tag r.out).0 tag q refl;
      })))
      (λ (d : t ≡ tag → ⊥). inl (record {
        out = back_out c.free tag t d ∙ p;
        sq = unlinked_same c.commands _ _ (λ k. k.sq) (λ k. refl) t;
        cid = unlinked_same c.commands _ _ (λ k. k.cid) (λ k. refl) t;
        number = unlinked_same c.commands _ _ (λ k. k.number) (λ k. refl) t;
        second = unlinked_same c.commands _ _ (λ k. k.second) (λ k. refl) t;
        first = half_first c tag status result t many low l r.out p _;
        verdict = half_verdict c tag status result t many low l r.out p _;
      }))
      (same_or_not t tag)

  was_or_taken : {m : Memory} {call : Call} {o : Outcome} → outstanding o.controller.free t ≡ true → Commands c m call o
      → (outstanding c.free t ≡ true) ⊎ Takes call o t
  unfolding one_taken pair_taken finished_controller
  was_or_taken p (refused_leaves call n xs) = inl p
  was_or_taken p (done_leaves call xs ys) = inl p
  was_or_taken p (changes (takes_one id a x left s e w)) =
      ⊎_elim (λ (q : t ≡ x). inr (record { taken = _; is = refl; answer = refl; tag = inl q }))
      (λ (d : t ≡ x → ⊥). inl (sym (taken_other w t d) ∙ p)) (same_or_not t x)
  was_or_taken p (changes (takes_pair id a x y left s e w)) =
      ⊎_elim (λ (q : t ≡ y). inr (record { taken = _; is = refl; answer = refl; tag = inr (refl, q) }))
      (λ (b : t ≡ y → ⊥).
      ⊎_elim (λ (q : t ≡ x). inr (record { taken = _; is = refl; answer = refl; tag = inl q }))
      (λ (d : t ≡ x → ⊥). inl (sym (taken_other w.second t b ∙ taken_other w.first t d) ∙ p)) (same_or_not t x))
      (same_or_not t y)
  was_or_taken p (changes (finishes tag status result r)) = inl (back_was c.free tag r.out t p)

-- ---- every controller that was_or_taken from a fresh one by calls

module _ {c : Controller} (r : Reachable c) (m : Memory) (call : Call) (t : ℕ) where
  -- A command that is outstanding before a call is so after it, with the same queue, CID, number and links, unless the call is its own
  -- finish and is not refused. "else 09h for a second half whose first half posted a status other than 0"
  pub stays_out : outstanding c.free t ≡ true
      → Lasts c (perform c m call).controller call (perform c m call).answer t ⊎ Finishes c call (perform c m call) t
  stays_out p = lasts (valid r).commands_64 t (linked r) p (of_commands (made c m (valid r).free_64 call))

  -- And a command that is outstanding after a call was so before, unless the call is the start that took it.
  pub was_out : outstanding (perform c m call).controller.free t ≡ true
      → (outstanding c.free t ≡ true) ⊎ Takes call (perform c m call) t
  was_out p = was_or_taken (valid r).commands_64 t p (of_commands (made c m (valid r).free_64 call))

-- ---- what a start takes

-- tag t was free in c; in d it is outstanding, and its command is the one in that slot of the SQ that the start answered
pub record NewCommand (c d : Controller) (m : Memory) (s : StartAnswer) (t slot before behind n : ℕ) : Type 0 where
  pub was_free : outstanding c.free t ≡ true → ⊥
  pub out : outstanding d.free t ≡ true
  pub sq : (command_at d t).sq ≡ s.sq
  pub cid : (command_at d t).cid ≡ (entry_at m (sq_at c s.sq).ring slot).cid
  pub verdict : (command_at d t).verdict ≡ s.verdict
  pub first : (command_at d t).first ≡ before
  pub second : (command_at d t).second ≡ behind
  pub number : (command_at d t).number ≡ n

-- one command from the head of the SQ; or two from there, each linked to the other, "a pair taking two in order"
abbrev pub OneCommand : Controller → Controller → Memory → StartAnswer → Type 0
OneCommand c d m s = (s.count ≡ 1) × (s.second ≡ 0) × NewCommand c d m s s.first s.slot 0 0 s.number

abbrev pub TwoCommands : Controller → Controller → Memory → StartAnswer → Type 0
TwoCommands c d m s =
    (s.count ≡ 2) × NewCommand c d m s s.first s.slot 0 (s.second + 1) s.number
    × NewCommand c d m s s.second ((s.slot + 1) % (sq_at c s.sq).ring.size) (s.first + 1) 0 (s.number + 1)

pub record TakenFrom (c d : Controller) (m : Memory) (s : StartAnswer) : Type 0 where
  pub slot : s.slot ≡ (sq_at c s.sq).ring.head
  pub number : s.number ≡ c.next_number
  pub commands : OneCommand c d m s ⊎ TwoCommands c d m s

new_command : {c d : Controller} {m : Memory} {s : StartAnswer} {t slot before behind n : ℕ} {k : Command}
    → (outstanding c.free t ≡ true → ⊥) → outstanding d.free t ≡ true → command_at d t ≡ k → k.sq ≡ s.sq
    → k.cid ≡ (entry_at m (sq_at c s.sq).ring slot).cid → k.verdict ≡ s.verdict → k.first ≡ before → k.second ≡ behind
    → k.number ≡ n → NewCommand c d m s t slot before behind n
new_command f o e sq cid verdict first second number =
    record {
      was_free = f;
      out = o;
      sq = rw e sq;
      cid = rw e cid;
      verdict = rw e verdict;
      first = rw e first;
      second = rw e second;
      number = rw e number;
    }

-- "It answers the SQ id, how many commands, the first tag, the second tag (0 if one is taken), the first slot and the verdict"
pub start_takes : {c : Controller} → Reachable c → (m : Memory) {s : StartAnswer} → (perform c m start).answer ≡ started s
    → TakenFrom c (perform c m start).controller m s
unfolding one_taken pair_taken next
start_takes {c} r m e =
    let many = (valid r).commands_64 in
    of_start c m (λ s d. TakenFrom c d m s)
    (λ id a t left s p w. record {
      slot = refl;
      number = refl;
      commands = inl (
        refl,
        refl,
        new_command (λ o. taken_new w t o refl) (taken_out w) (get_or-set_same c.commands t _ no_command (rw many w.low)) refl refl refl
            refl refl refl,
      );
    })
    (λ id a t u left s p w.
    let differ : t ≡ u → ⊥ = λ q. omega (arith, w.rising) in
    record {
      slot = refl;
      number = refl;
      commands = inr (
        refl,
        new_command (λ o. taken_new w.first t o refl) (taken_other w.second t differ ∙ taken_out w.first)
            (at_first c.commands _ _ many w refl refl refl refl refl) refl refl refl refl refl refl,
        new_command (λ o. taken_new w.second u (taken_other w.first u (λ q. differ (sym q)) ∙ o) refl) (taken_out w.second)
            (at_second c.commands _ _ many w refl refl refl refl refl) refl refl refl refl refl refl,
      );
    })
    (valid r).free_64 e
