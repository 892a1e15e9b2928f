-- Every outstanding command bears a start number of its own, below the next. Assumes nothing.
use Prim.Native.Nat.{ℕ, zero, suc, ◌+◌, ◌≤◌, ◌<◌}
use mathlib.Core.Bool.{Bool, true}
use mathlib.Core.List.{List, ◌∷◌, [], ◌++◌, foldl}
use mathlib.Core.Path.{◌≡◌, refl, sym, ap, ap₂, ◌∙◌}
use native.Mathlib.Omega.{arith}
use lib.Dec.{lit≤}
use lib.ListN.{length, get_or, set, length-set}
use lib.Seq.{get_or-set_same}
use Rattle.rules.proofs.Cases.{settle_cases}
use Rattle.bits.specs.Tags.{given_back}
use Rattle.bits.proofs.Tags.{OneTaken}
use Rattle.le.specs.Memory.{Memory}
use Rattle.controller.specs.declared.Command.{Command}
use Rattle.controller.specs.Controller.{Controller}
use Rattle.controller.specs.State.{no_command, command_at, outstanding, fresh_controller}
use Rattle.controller.specs.Valid.{Valid}
use Rattle.controller.specs.Starting.{last_number, one_taken, pair_taken}
use Rattle.controller.specs.Finishing as finishing
use Rattle.controller.specs.Finishing.{unlinked, finished_controller}
use Rattle.controller.specs.Answers.{StartAnswer, FinishAnswer, Answer, refused, done, started, finished, Outcome}
use Rattle.controller.specs.Calls.{Call, start, finish, perform, Reachable, fresh, after}
use Rattle.controller.specs.Steps.{Given, Step, steps, final}
use Rattle.controller.specs.Steps as calls
use Rattle.controller.specs.Numbers.{count_from, numbers_in, numbers_taken}
use Rattle.controller.proofs.Lists.{set_ind}
use Rattle.controller.proofs.Outstanding.{taken_other, back_was}
use Rattle.controller.proofs.Unlinked.{unlinked_number}
use Rattle.controller.proofs.Made.{takes_one, takes_pair, finishes, Commands, refused_leaves, done_leaves, changes, of_commands}
use Rattle.controller.proofs.Made.{finishable, made, of_start}
use Rattle.controller.proofs.Refusals.{finished_not}
use Rattle.controller.proofs.Validity.{none_out, valid}
use Rattle.controller.proofs.Links.{at_first, at_second}

-- of commands with a mask of free tags, where n is the next number
pub record Numbers (ks : List Command) (free n : ℕ) : Type 0 where
  -- every outstanding number lies below the next
  pub below : (t : ℕ) → outstanding free t ≡ true → (get_or ks t no_command).number < n
  -- "Two outstanding commands never bear the same number."
  pub distinct : (t u : ℕ) → outstanding free t ≡ true → outstanding free u ≡ true
      → (get_or ks t no_command).number ≡ (get_or ks u no_command).number → t ≡ u

-- a command takes a free tag and the next number
taken_numbers : (ks : List Command) {free t left n next : ℕ} (k : Command) → length ks ≡ 64 → OneTaken free t left → k.number ≡ n
    → next ≡ n + 1
    → Numbers ks free n → Numbers (set ks t k) left next
taken_numbers ks {free} {t} {left} {n} {next} k many w e f h =
    record {
      below = set_ind ks t k no_command (λ j x. outstanding left j ≡ true → x.number < next) l (λ o. omega (arith, e, f))
          (λ j d o. omega (arith, f, h.below j (was j d o)));
      distinct =
          set_ind ks t k no_command
          (λ j x. (u : ℕ) → outstanding left j ≡ true → outstanding left u ≡ true → x.number ≡ (get_or (set ks t k) u no_command).number
          → j ≡ u)
          l
          (set_ind ks t k no_command (λ u y. outstanding left t ≡ true → outstanding left u ≡ true → k.number ≡ y.number → t ≡ u) l
          (λ o p q. refl) (λ u d o p q. absurd (omega (arith, h.below u (was u d p), q, e))))
          (λ j d. set_ind ks t k no_command
          (λ u y. outstanding left j ≡ true → outstanding left u ≡ true → (get_or ks j no_command).number ≡ y.number → j ≡ u) l
          (λ o p q. absurd (omega (arith, h.below j (was j d o), q, e)))
          (λ u b o p q. h.distinct j u (was j d o) (was u b p) q));
    }
  where
    l : t < length ks
    l = rw many w.low

    was : (j : ℕ) → (j ≡ t → ⊥) → outstanding left j ≡ true → outstanding free j ≡ true
    was j d o = sym (taken_other w j d) ∙ o

-- a command is finished: its tag is free again, and every command keeps its number
finished_numbers : (ks : List Command) (free tag second status : ℕ) {n : ℕ} → outstanding free tag ≡ true → Numbers ks free n
    → Numbers (unlinked ks second status) (given_back free tag) n
finished_numbers ks free tag second status out h =
    let same = unlinked_number ks second status in
    let was = back_was free tag out in
    record {
      below = λ t o. rw (same t) (h.below t (was t o));
      distinct = λ t u o p e. h.distinct t u (was t o) (was u p) (sym (same t) ∙ e ∙ same u);
    }

-- ---- every controller that came from a fresh one by calls

abbrev NumbersIn : Controller → Type 0
NumbersIn c = Numbers c.commands c.free c.next_number

numbers_kept : {c : Controller} {m : Memory} {call : Call} {o : Outcome} → Valid c → NumbersIn c → Commands c m call o
    → NumbersIn o.controller
unfolding one_taken pair_taken finished_controller
numbers_kept v h (refused_leaves call n xs) = h
numbers_kept v h (done_leaves call xs ys) = h
numbers_kept {c} v h (changes (takes_one id a t left s e w)) = taken_numbers c.commands _ v.commands_64 w refl refl h
numbers_kept {c} v h (changes (takes_pair id a t u left s e w)) =
    taken_numbers (set c.commands t _) _ (length-set c.commands t _ ∙ v.commands_64) w.second refl (omega arith)
    (taken_numbers c.commands _ v.commands_64 w.first refl refl h)
numbers_kept {c} v h (changes (finishes tag status result r)) = finished_numbers c.commands c.free tag _ _ r.out h

pub numbers : {c : Controller} → Reachable c → Numbers c.commands c.free c.next_number
numbers (fresh weighted word) =
    record { below = λ t o. absurd (none_out t o); distinct = λ t u o p e. absurd (none_out t o) }
numbers (after {c} r m call) = numbers_kept (valid r) (numbers r) (of_commands (made c m (valid r).free_64 call))

-- ---- what a call gives

-- how many commands a call took
abbrev taken_by : Answer → ℕ
taken_by (refused n) = 0
taken_by done = 0
taken_by (started s) = s.count
taken_by (finished f) = 0

-- the commands that a call takes bear the next numbers, in order, and the next number is past them
record Counted (c : Controller) (o : Outcome) : Type 0 where
  pub bears : numbers_in o.controller o.answer ≡ count_from c.next_number (taken_by o.answer)
  pub next : o.controller.next_number ≡ c.next_number + taken_by o.answer
  pub within : c.next_number ≤ last_number + 1 → o.controller.next_number ≤ last_number + 1

counted : {c : Controller} {m : Memory} {call : Call} {o : Outcome} → Valid c → Commands c m call o → Counted c o
unfolding one_taken pair_taken finished_controller
counted v (refused_leaves call n xs) = record { bears = refl; next = omega arith; within = λ l. l }
counted v (done_leaves call xs ys) = record { bears = refl; next = omega arith; within = λ l. l }
counted {c} {m} v (changes (takes_one id a t left s e w)) =
    record {
      bears = ap (λ (k : Command). k.number ∷ []) (get_or-set_same c.commands t _ no_command (rw v.commands_64 w.low));
      next = refl;
      within = λ l. rw e at s.numbers;
    }
counted {c} {m} v (changes (takes_pair id a t u left s e w)) =
    record {
      bears =
          ap₂ (λ (j k : Command). j.number ∷ k.number ∷ []) (at_first c.commands _ _ v.commands_64 w refl refl refl refl refl)
          (at_second c.commands _ _ v.commands_64 w refl refl refl refl refl);
      next = refl;
      within = λ l. rw e at s.numbers;
    }
counted v (changes (finishes tag status result r)) = record { bears = refl; next = omega arith; within = λ l. l }

call_counted : {c : Controller} → Reachable c → (m : Memory) (call : Call) → Counted c (perform c m call)
call_counted {c} r m call = counted (valid r) (of_commands (made c m (valid r).free_64 call))

-- no command bears a number above the last
pub to_last : {c : Controller} → Reachable c → c.next_number ≤ last_number + 1
to_last (fresh weighted word) = lit≤ tt
to_last (after {c} r m call) = (call_counted r m call).within (to_last r)

-- "start its first command's": a start answers the next number, its first command bears it, and a pair's second half the one after it
pub record Bears (c : Controller) (s : StartAnswer) (left : Controller) : Type 0 where
  pub answered : s.number ≡ c.next_number
  pub first : (command_at left s.first).number ≡ s.number
  pub second : s.count ≡ 2 → (command_at left s.second).number ≡ s.number + 1

pub start_number : {c : Controller} → Reachable c → (m : Memory) {s : StartAnswer} → (perform c m start).answer ≡ started s
    → Bears c s (perform c m start).controller
unfolding one_taken pair_taken
start_number {c} r m e =
    let many = (valid r).commands_64 in
    let number : Command → ℕ = λ k. k.number in
    of_start c m (Bears c)
    (λ id a t left s p w. record {
      answered = refl;
      first = ap number (get_or-set_same c.commands t _ no_command (rw many w.low));
      second = λ two. absurd (omega arith);
    })
    (λ id a t u left s p w. record {
      answered = refl;
      first = ap number (at_first c.commands _ _ many w refl refl refl refl refl);
      second = λ two. ap number (at_second c.commands _ _ many w refl refl refl refl refl);
    })
    (valid r).free_64 e

-- "Finish reports it": a finish answers the number of its command, which was outstanding
pub finish_number : (c : Controller) (m : Memory) (tag status result : ℕ) {f : FinishAnswer}
    → (perform c m (finish tag status result)).answer ≡ finished f
    → (outstanding c.free tag ≡ true) × (f.number ≡ (command_at c tag).number)
unfolding finishing.finish
finish_number c m tag status result {f} =
    settle_cases (λ (o : Outcome). o.answer ≡ finished f → (outstanding c.free tag ≡ true) × (f.number ≡ (command_at c tag).number))
    _ _ _ (λ z e. ((finishable c m tag status z).out, same e)) (λ z e. absurd (finished_not (sym e)))
  where
    same : {x y : FinishAnswer} → finished x ≡ finished y → y.number ≡ x.number
    same e = cc

-- ---- over a list of calls

count_join : (a n k : ℕ) → count_from a n ++ count_from (a + n) k ≡ count_from a (n + k)
count_join a zero k =
    let e : a + 0 ≡ a = omega arith in
    let f : 0 + k ≡ k = omega arith in
    rw (e, f)
count_join a (suc n) k =
    let e : a + suc n ≡ a + 1 + n = omega arith in
    let f : suc n + k ≡ suc (n + k) = omega arith in
    rw (e, f) (ap (λ ns. a ∷ ns) (count_join (a + 1) n k))

from_0 : (n k : ℕ) → count_from 0 n ++ count_from n k ≡ count_from 0 (n + k)
from_0 n k = let e : 0 + n ≡ n = omega arith in rw e at (count_join 0 n k)

abbrev joined : List ℕ → Step → List ℕ
joined ns s = ns ++ numbers_in s.outcome.controller s.outcome.answer

from_next : (gs : List Given) {c : Controller} → Reachable c
    → foldl joined (count_from 0 c.next_number) (steps c gs) ≡ count_from 0 (final c gs).next_number
from_next [] r = refl
from_next (g ∷ gs) {c} r =
    let k = call_counted r g.memory g.call in
    ap (λ ns. foldl joined ns (steps (calls.made c g).controller gs))
    (ap (λ ns. count_from 0 c.next_number ++ ns) k.bears ∙ from_0 c.next_number _ ∙ ap (count_from 0) (sym k.next))
    ∙ from_next gs (after r g.memory g.call)

-- "0 for the first command a controller takes and one more for each further command": the commands that calls take, in the order in which
-- they are taken, bear 0, 1, 2, .., and the next number is how many were taken
pub in_order : (weighted : Bool) (word : ℕ) (gs : List Given)
    → (let c = fresh_controller weighted word in numbers_taken c gs ≡ count_from 0 (final c gs).next_number)
in_order weighted word gs = from_next gs (fresh weighted word)
