-- No command is lost and none is posted twice: over any list of calls, what was taken is what finishes have posted and what is still
-- outstanding, command by command, by start numbers. Assumes nothing.
use Prim.Native.Nat.{ℕ, zero, suc, ◌+◌, ◌-◌, ◌^◌, ◌≤◌, ◌<◌}
use mathlib.Core.Bool.{Bool, true, false}
use mathlib.Core.List.{List, [], ◌∷◌, ◌++◌, foldl}
use mathlib.Core.Logic.{◌⊎◌, inl, inr, ⊎_elim, ◌↔◌}
use mathlib.Core.Path.{◌≡◌, refl, sym, ap, ◌∙◌, subst}
use native.Mathlib.Omega.{arith}
use lib.Count.{ones}
use lib.ListN.{length, get_or, set, length-set}
use lib.Seq.{get_or-set_same, get_or-set_other}
use Rattle.rules.proofs.Tests.{lt_or_ge, same_or_not}
use Rattle.bits.specs.Bits.{is_set, count}
use Rattle.bits.specs.Tags.{free_count, given_back}
use Rattle.bits.proofs.Bits.{ones_add}
use Rattle.bits.proofs.First.{count_ones}
use Rattle.bits.proofs.Tags.{OneTaken, back_taken, back_fits}
use Rattle.le.specs.Memory.{Memory}
use Rattle.controller.specs.declared.Command.{Command}
use Rattle.controller.specs.Controller.{Controller}
use Rattle.controller.specs.State.{no_command, outstanding, fresh_controller}
use Rattle.controller.specs.Valid.{Valid}
use Rattle.controller.specs.Starting.{one_taken, pair_taken}
use Rattle.controller.specs.Finishing.{unlinked, finished_controller}
use Rattle.controller.specs.Answers.{Outcome}
use Rattle.controller.specs.Calls.{Call, Reachable, fresh, after}
use Rattle.controller.specs.Refusing.{Among}
use Rattle.controller.specs.Steps.{Given, Step, steps, final}
use Rattle.controller.specs.Numbers.{count_from, numbers_taken, finished_in, numbers_finished}
use Rattle.controller.proofs.Lists.{set_ind}
use Rattle.controller.proofs.Outstanding.{out_set, taken_out, taken_new, taken_other, back_gone, back_out, back_was}
use Rattle.controller.proofs.Unlinked.{unlinked_number}
use Rattle.controller.proofs.Made.{takes_one, takes_pair, finishes, Commands, refused_leaves, done_leaves, changes, of_commands}
use Rattle.controller.proofs.Made.{made}
use Rattle.controller.proofs.Steps.{reached}
use Rattle.controller.proofs.Validity.{none_out, valid}
use Rattle.controller.proofs.Numbered.{Numbers, numbers, in_order}

-- no number stands twice in the list
abbrev pub Once : List ℕ → Type 0
Once [] = Unit {0}
Once (n ∷ ns) = (Among n ns → ⊥) × Once ns

-- an outstanding command bears the number n
pub record Bearer (ks : List Command) (free n : ℕ) : Type 0 where
  pub tag : ℕ
  pub out : outstanding free tag ≡ true
  pub bears : (get_or ks tag no_command).number ≡ n

-- ns being the numbers that were answered: they lie below the next, no outstanding command bears one of them, and one bears each other
-- number below the next; and so many are answered, and so many tags not free, as the next number says
record Answered (ns : List ℕ) (ks : List Command) (free n : ℕ) : Type 0 where
  pub low : (k : ℕ) → Among k ns → k < n
  pub gone : (t : ℕ) → outstanding free t ≡ true → Among (get_or ks t no_command).number ns → ⊥
  pub once : Once ns
  pub all : (k : ℕ) → k < n → Among k ns ⊎ Bearer ks free k
  pub tally : length ns + 64 ≡ n + free_count free

-- ---- one call

-- a tag given back is one more that is free
back_more : (m t : ℕ) → m < 2 ^ 64 → t < 64 → is_set m t ≡ false → free_count (given_back m t) ≡ free_count m + 1
back_more m t h l e =
    let f : given_back m t < 2 ^ 64 = back_fits m t h in
    omega (arith, count_ones 64 (given_back m t) f, count_ones 64 m h, ones_add t m e, ap ones (back_taken m t l e))

taken_answered : {ns : List ℕ} (ks : List Command) {free t left n next : ℕ} (k : Command) → length ks ≡ 64 → OneTaken free t left
    → k.number ≡ n → next ≡ n + 1 → Answered ns ks free n → Answered ns (set ks t k) left next
taken_answered {ns} ks {free} {t} {left} {n} k many w e f h =
    record {
      low = λ x a. omega (arith, f, h.low x a);
      gone =
          set_ind ks t k no_command (λ j x. outstanding left j ≡ true → Among x.number ns → ⊥) (rw many w.low)
          (λ o a. omega (arith, e, h.low k.number a)) (λ j d o. h.gone j (sym (taken_other w j d) ∙ o));
      once = h.once;
      all = λ x l.
          ⊎_elim (λ (b : x < n). ⊎_elim (λ a. inl a) (λ b. inr (still b)) (h.all x b))
          (λ (b : n ≤ x). let q : n ≡ x = omega arith in inr (rw (← q) new)) (lt_or_ge x n);
      tally = omega (arith, f, h.tally, w.fewer);
    }
  where
    l : t < length ks
    l = rw many w.low

    new : Bearer (set ks t k) left n
    new = record { tag = t; out = taken_out w; bears = ap (λ (y : Command). y.number) (get_or-set_same ks t k no_command l) ∙ e }

    still : {x : ℕ} → Bearer ks free x → Bearer (set ks t k) left x
    still b =
        let d = taken_new w b.tag b.out in
        record {
          tag = b.tag;
          out = taken_other w b.tag d ∙ b.out;
          bears = ap (λ (y : Command). y.number) (get_or-set_other ks t b.tag k no_command d) ∙ b.bears;
        }

finished_answered : {ns : List ℕ} (ks : List Command) (free tag second status : ℕ) {n : ℕ} → free < 2 ^ 64 → outstanding free tag ≡ true
    → Numbers ks free n → Answered ns ks free n
    → Answered ((get_or ks tag no_command).number ∷ ns) (unlinked ks second status) (given_back free tag) n
finished_answered {ns} ks free tag second status fits out b h =
    let same = unlinked_number ks second status in
    record {
      low = λ k a. ⊎_elim (λ (e : k ≡ (get_or ks tag no_command).number). omega (arith, e, b.below tag out)) (h.low k) a;
      gone = λ t o a.
          let p = back_was free tag out t o in
          let d = back_gone free tag (out_set free tag out).0 t o in
          ⊎_elim (λ e. d (b.distinct t tag p out (sym (same t) ∙ e))) (λ x. h.gone t p (subst (λ (k : ℕ). Among k ns) (same t) x)) a;
      once = (h.gone tag out, h.once);
      all = λ k l.
          ⊎_elim (λ a. inl (inr a))
          (λ (y : Bearer ks free k). ⊎_elim
          (λ (e : y.tag ≡ tag). inl (inl (sym y.bears ∙ ap (λ (j : ℕ). (get_or ks j no_command).number) e)))
          (λ (d : y.tag ≡ tag → ⊥). inr (record {
            tag = y.tag;
            out = back_out free tag y.tag d ∙ y.out;
            bears = same y.tag ∙ y.bears;
          }))
          (same_or_not y.tag tag))
          (h.all k l);
      tally = let s = out_set free tag out in omega (arith, h.tally, back_more free tag fits s.0 s.1);
    }

abbrev AnsweredIn : List ℕ → Controller → Type 0
AnsweredIn ns c = Answered ns c.commands c.free c.next_number

answered_kept : {ns : List ℕ} {c : Controller} {m : Memory} {call : Call} {o : Outcome} → Valid c
    → Numbers c.commands c.free c.next_number → AnsweredIn ns c → Commands c m call o
    → AnsweredIn (finished_in o.answer ++ ns) o.controller
unfolding one_taken pair_taken finished_controller
answered_kept v b h (refused_leaves call n xs) = h
answered_kept v b h (done_leaves call xs ys) = h
answered_kept {c = c} v b h (changes (takes_one id a t left s e w)) = taken_answered c.commands _ v.commands_64 w refl refl h
answered_kept {c = c} v b h (changes (takes_pair id a t u left s e w)) =
    taken_answered (set c.commands t _) _ (length-set c.commands t _ ∙ v.commands_64) w.second refl (omega arith)
    (taken_answered c.commands _ v.commands_64 w.first refl refl h)
answered_kept {c = c} v b h (changes (finishes tag status result f)) =
    finished_answered c.commands c.free tag _ _ v.free_64 f.out b h

-- ---- any list of calls from a fresh controller

-- the numbers answered, with those of one more step
abbrev pub gathers : List ℕ → Step → List ℕ
gathers ns s = finished_in s.outcome.answer ++ ns

all_answered : (gs : List Given) (ns : List ℕ) {c : Controller} → Reachable c → AnsweredIn ns c
    → AnsweredIn (foldl gathers ns (steps c gs)) (final c gs)
all_answered [] ns r h = h
all_answered (g ∷ gs) ns {c} r h =
    all_answered gs _ (after r g.memory g.call)
    (answered_kept (valid r) (numbers r) h (of_commands (made c g.memory (valid r).free_64 g.call)))

-- n numbers from a on
count_length : (a n : ℕ) → length (count_from a n) ≡ n
count_length a zero = refl
count_length a (suc n) = ap suc (count_length (a + 1) n)

among_count : (a n k : ℕ) → Among k (count_from a n) ↔ ((a ≤ k) × (k < a + n))
among_count a zero k = (λ e. absurd e, λ l. omega (arith, l.0, l.1))
among_count a (suc n) k =
    let h = among_count (a + 1) n k in (
      ⊎_elim (λ (e : k ≡ a). (omega arith, omega arith)) (λ y. let l = h.0 y in (omega (arith, l.0), omega (arith, l.1))),
      λ l.
          ⊎_elim (λ (e : k ≡ a). inl e) (λ (d : k ≡ a → ⊥). inr (h.1 (over l d, omega (arith, l.1)))) (same_or_not k a),
    )
  where
    over : (a ≤ k) × (k < a + suc n) → (k ≡ a → ⊥) → a + 1 ≤ k
    over l d = ⊎_elim (λ (y : a < k). omega arith) (λ (y : k ≤ a). absurd (d (omega (arith, l.0)))) (lt_or_ge a k)

fresh_free : free_count (2 ^ 64 - 1) ≡ 64
unfolding count is_set
fresh_free = refl

-- Every command that was taken was posted once, or is outstanding: its number was answered by a finish or is borne by an outstanding
-- command, not by both, not by two finishes and not by two commands; and no other number is.
pub record Conserved (taken posted : List ℕ) (d : Controller) : Type 0 where
  pub each : (n : ℕ) → Among n taken ↔ (Among n posted ⊎ Bearer d.commands d.free n)
  pub apart : (n : ℕ) → Among n posted → Bearer d.commands d.free n → ⊥
  pub once : Once posted
  pub alone : (n : ℕ) (x y : Bearer d.commands d.free n) → x.tag ≡ y.tag
  -- as many are posted, and as many tags are not free, as were taken
  pub tally : length posted + 64 ≡ length taken + free_count d.free

module _ (weighted : Bool) (word : ℕ) (gs : List Given) where
  abbrev c : Controller
  c = fresh_controller weighted word

  answered : AnsweredIn (numbers_finished c gs) (final c gs)
  answered =
      all_answered gs [] (fresh weighted word)
      (record {
        low = λ k a. absurd a;
        gone = λ t o. absurd (none_out t o);
        once = tt;
        all = λ k l. absurd (omega arith);
        tally = omega (arith, fresh_free);
      })

  pub conserved : Conserved (numbers_taken c gs) (numbers_finished c gs) (final c gs)
  conserved =
      let k = answered in
      let d = final c gs in
      let b = numbers (reached gs (fresh weighted word)) in
      let Bears : ℕ → Type 0 = Bearer d.commands d.free in
      let below = among_count 0 d.next_number in
      rw (in_order weighted word gs) (record {
        each = λ n. (
          λ y. k.all n (omega (arith, ((below n).0 y).1)),
          λ y. (below n).1 (
            omega arith,
            ⊎_elim (λ x. omega (arith, k.low n x)) (λ (x : Bears n). omega (arith, x.bears, b.below x.tag x.out))
                y,
          ),
        );
        apart = λ n a x. k.gone x.tag x.out (rw x.bears a);
        once = k.once;
        alone = λ n x y. b.distinct x.tag y.tag x.out y.out (x.bears ∙ sym y.bears);
        tally = omega (arith, k.tally, count_length 0 d.next_number);
      })
