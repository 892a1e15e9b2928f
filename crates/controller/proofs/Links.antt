-- Refusal 16 is about the command that is the first half, not about its tag number: `first` of a command names a tag exactly while
-- its first half is outstanding there. Assumes nothing.
use Prim.Native.Nat.{ℕ, ◌+◌, ◌-◌, ◌≤◌}
use mathlib.Core.Bool.{true, false}
use mathlib.Core.List.{List}
use mathlib.Core.Logic.{◌⊎◌, inl, inr, ⊎_elim, ◌↔◌}
use mathlib.Core.Path.{◌≡◌, refl, sym, ap, ◌∙◌}
use native.Mathlib.Omega.{arith}
use lib.ListN.{length, get_or, set, length-set}
use lib.Seq.{get_or-set_same, get_or-set_other}
use Rattle.rules.proofs.Tests.{same_or_not, clash}
use Rattle.bits.specs.Tags.{given_back}
use Rattle.bits.proofs.Tags.{OneTaken, TwoTaken}
use Rattle.le.specs.Memory.{Memory}
use Rattle.controller.specs.declared.Command.{Command}
use Rattle.controller.specs.Controller.{Controller}
use Rattle.controller.specs.State.{no_command, command_at, outstanding}
use Rattle.controller.specs.Valid.{Valid}
use Rattle.controller.specs.Starting.{one_taken, pair_taken}
use Rattle.controller.specs.Finishing.{unlinked, finished_controller}
use Rattle.controller.specs.Answers.{Outcome}
use Rattle.controller.specs.Calls.{Call, finish, perform, Reachable, fresh, after}
use Rattle.controller.proofs.Outstanding.{out_set, taken_out, taken_new, taken_other, back_gone, back_out, back_was}
use Rattle.controller.proofs.Unlinked.{unlinked_sq, unlinked_second, unlinked_other, unlinked_first}
use Rattle.controller.proofs.Made.{takes_one, takes_pair, finishes, Commands, refused_leaves, done_leaves, changes, of_commands}
use Rattle.controller.proofs.Made.{made}
use Rattle.controller.proofs.Validity.{none_out, valid}

-- the commands of t and u are the two halves of a pair, both outstanding, and each names the other
pub record Halves (ks : List Command) (free t u : ℕ) : Type 0 where
  pub first_out : outstanding free t ≡ true
  pub second_out : outstanding free u ≡ true
  pub names_second : (get_or ks t no_command).second ≡ u + 1
  pub names_first : (get_or ks u no_command).first ≡ t + 1
  pub same_sq : (get_or ks t no_command).sq ≡ (get_or ks u no_command).sq

-- what the command of x names is its first half, or its second half
pub record Links (ks : List Command) (free x : ℕ) : Type 0 where
  pub up : (t : ℕ) → (get_or ks x no_command).first ≡ t + 1 → Halves ks free t x
  pub down : (u : ℕ) → (get_or ks x no_command).second ≡ u + 1 → Halves ks free x u

abbrev pub Linked : List Command → ℕ → Type 0
Linked ks free = (x : ℕ) → outstanding free x ≡ true → Links ks free x

never : {A : Type 0} (n : ℕ) {k : ℕ} → k ≡ 0 → k ≡ n + 1 → A
never n e f = absurd (omega arith)

-- a command that names no other
alone : (ks : List Command) (free : ℕ) {x : ℕ} {k : Command} → get_or ks x no_command ≡ k → k.first ≡ 0 → k.second ≡ 0 → Links ks free x
alone ks free e a b = record { up = λ t h. never t (rw e a) h; down = λ u h. never u (rw e b) h }

-- ---- commands are added: the tags that were outstanding are so, with the same commands

module _ (ks ls : List Command) (f g : ℕ)
    (kept : (x : ℕ) → outstanding f x ≡ true → (outstanding g x ≡ true) × (get_or ls x no_command ≡ get_or ks x no_command)) where
  halves_kept : {t u : ℕ} → Halves ks f t u → Halves ls g t u
  halves_kept {t} {u} h =
      let a = kept t h.first_out in
      let b = kept u h.second_out in
      record {
        first_out = a.0;
        second_out = b.0;
        names_second = rw a.1 h.names_second;
        names_first = rw b.1 h.names_first;
        same_sq = rw (a.1, b.1) h.same_sq;
      }

  links_kept : Linked ks f → (x : ℕ) → outstanding f x ≡ true → Links ls g x
  links_kept l x o =
      let e = (kept x o).1 in
      record { up = λ t h. halves_kept ((l x o).up t (rw e at h)); down = λ u h. halves_kept ((l x o).down u (rw e at h)) }

-- one command that names no other
one_linked : (ks : List Command) {f t left : ℕ} (k : Command) → length ks ≡ 64 → OneTaken f t left → k.first ≡ 0 → k.second ≡ 0
    → Linked ks f → Linked (set ks t k) left
one_linked ks {f} {t} {left} k n w a b l x o =
    ⊎_elim (λ (q : x ≡ t). rw q (alone (set ks t k) left (get_or-set_same ks t k no_command (rw n w.low)) a b))
    (λ (d : x ≡ t → ⊥).
    links_kept ks (set ks t k) f left (λ y p. let e = taken_new w y p in (taken_other w y e ∙ p, get_or-set_other ks t y k no_command e)) l x
    (sym (taken_other w x d) ∙ o)) (same_or_not x t)

-- two commands of one queue that name each other
module _ (ks : List Command) {f t u left : ℕ} (j k : Command) (n : length ks ≡ 64) (w : TwoTaken f t u left) (sq : j.sq ≡ k.sq)
    (j-first : j.first ≡ 0) (j-second : j.second ≡ u + 1) (k-first : k.first ≡ t + 1) (k-second : k.second ≡ 0) where
  abbrev added : List Command
  added = set (set ks t j) u k

  differ : t ≡ u → ⊥
  differ e = omega (arith, w.rising)

  pub at_first : get_or added t no_command ≡ j
  at_first = get_or-set_other (set ks t j) u t k no_command differ ∙ get_or-set_same ks t j no_command (rw n w.first.low)

  pub at_second : get_or added u no_command ≡ k
  at_second = get_or-set_same (set ks t j) u k no_command (rw (length-set ks t j, n) w.second.low)

  new_halves : Halves added left t u
  new_halves =
      record {
        first_out = taken_other w.second t differ ∙ taken_out w.first;
        second_out = taken_out w.second;
        names_second = rw at_first j-second;
        names_first = rw at_second k-first;
        same_sq = rw (at_first, at_second) sq;
      }

  others_kept : (x : ℕ) → outstanding f x ≡ true → (outstanding left x ≡ true) × (get_or added x no_command ≡ get_or ks x no_command)
  others_kept x o =
      let a = taken_new w.first x o in
      let p = taken_other w.first x a ∙ o in
      let b = taken_new w.second x p in
      (taken_other w.second x b ∙ p, get_or-set_other (set ks t j) u x k no_command b ∙ get_or-set_other ks t x j no_command a)

  pair_linked : Linked ks f → Linked added left
  pair_linked l x o =
      ⊎_elim
      (λ (q : x ≡ t). rw q (record {
        up = λ y h. never y (rw at_first j-first) h;
        down = λ y h. let e : y ≡ u = omega (arith, sym h ∙ new_halves.names_second) in rw e new_halves;
      }))
      (λ (d : x ≡ t → ⊥). ⊎_elim
      (λ (q : x ≡ u). rw q (record {
        up = λ y h. let e : y ≡ t = omega (arith, sym h ∙ new_halves.names_first) in rw e new_halves;
        down = λ y h. never y (rw at_second k-second) h;
      }))
      (λ (b : x ≡ u → ⊥). links_kept ks added f left others_kept l x (sym (taken_other w.second x b ∙ taken_other w.first x d) ∙ o))
      (same_or_not x u)) (same_or_not x t)

-- ---- a command is finished that names no first half

module _ (ks : List Command) (f tag status : ℕ) (n : length ks ≡ 64) (o : outstanding f tag ≡ true) (own : (get_or ks tag no_command).first ≡ 0)
    (low : (get_or ks tag no_command).second ≤ 64) where
  abbrev second : ℕ
  second = (get_or ks tag no_command).second

  abbrev finished : List Command
  finished = unlinked ks second status

  abbrev freed : ℕ
  freed = given_back f tag

  halves_finished : {t u : ℕ} → Halves ks f t u → (t ≡ tag → ⊥) → (u ≡ tag → ⊥) → (second ≡ u + 1 → ⊥) → Halves finished freed t u
  halves_finished {t} {u} h a b d =
      record {
        first_out = back_out f tag t a ∙ h.first_out;
        second_out = back_out f tag u b ∙ h.second_out;
        names_second = unlinked_second ks second status t ∙ h.names_second;
        names_first = rw (unlinked_other ks second status u d) h.names_first;
        same_sq = unlinked_sq ks second status t ∙ h.same_sq ∙ sym (unlinked_sq ks second status u);
      }

  finish_linked : Linked ks f → Linked finished freed
  finish_linked l x p =
      let a : x ≡ tag → ⊥ = back_gone f tag (out_set f tag o).0 x p in
      let q = back_was f tag o x p in
      record {
        up = λ t h.
            let d : second ≡ x + 1 → ⊥ = λ e. never t (unlinked_first ks second status n low x e) h in
            let r = (l x q).up t (rw (unlinked_other ks second status x d) at h) in
            halves_finished r (λ e. d (ap (λ (y : ℕ). (get_or ks y no_command).second) (sym e) ∙ r.names_second)) a d;
        down = λ u h.
            let r = (l x q).down u (sym (unlinked_second ks second status x) ∙ h) in
            halves_finished r a (λ e. never x (ap (λ (y : ℕ). (get_or ks y no_command).first) e ∙ own) r.names_first)
            (λ e. a (omega (arith, r.names_first, ((l tag o).down u e).names_first)));
      }

-- ---- every controller that came from a fresh one by calls

abbrev LinkedIn : Controller → Type 0
LinkedIn c = Linked c.commands c.free

linked_kept : {c : Controller} {m : Memory} {call : Call} {o : Outcome} → Valid c → LinkedIn c → Commands c m call o
    → LinkedIn o.controller
unfolding one_taken pair_taken finished_controller
linked_kept v l (refused_leaves call n xs) = l
linked_kept v l (done_leaves call xs ys) = l
linked_kept {c} v l (changes (takes_one id a t left s e w)) = one_linked c.commands _ v.commands_64 w refl refl l
linked_kept {c} v l (changes (takes_pair id a t u left s e w)) =
    pair_linked c.commands _ _ v.commands_64 w refl refl refl refl refl l
linked_kept {c} v l (changes (finishes tag status result r)) =
    finish_linked c.commands c.free tag _ v.commands_64 r.out r.no_first (v.command_ok tag).second_low l

pub linked : {c : Controller} → Reachable c → Linked c.commands c.free
linked (fresh weighted word) = λ x o. absurd (none_out x o)
linked (after {c} r m call) = linked_kept (valid r) (linked r) (of_commands (made c m (valid r).free_64 call))

-- ---- what a reader may take from it

module _ {c : Controller} (r : Reachable c) where
  -- of two outstanding commands, one names the other as its first half exactly if that names it as its second half
  pub named : (t u : ℕ) → outstanding c.free t ≡ true → outstanding c.free u ≡ true
      → ((command_at c u).first ≡ t + 1) ↔ ((command_at c t).second ≡ u + 1)
  named t u o p = (λ e. ((linked r u p).up t e).names_second, λ e. ((linked r t o).down u e).names_first)

  -- where 16 applies, the first half is outstanding
  pub first_half : (u : ℕ) → outstanding c.free u ≡ true → ((command_at c u).first ≡ 0 → ⊥) → (t : ℕ) × Halves c.commands c.free t u
  first_half u o d = let t = (command_at c u).first - 1 in (t, (linked r u o).up t (omega arith))

  -- a tag that another command may take, since it is not outstanding, is named by nobody
  pub unnamed : (t u : ℕ) → outstanding c.free t ≡ false → outstanding c.free u ≡ true → (command_at c u).first ≡ t + 1 → ⊥
  unnamed t u o p e = clash ((linked r u p).up t e).first_out o

-- the call finishes the command that `before` names, and `left` names none
pub record FirstFinished (call : Call) (before left : ℕ) : Type 0 where
  pub tag : ℕ
  pub status : ℕ
  pub result : ℕ
  pub is : call ≡ finish tag status result
  pub was : before ≡ tag + 1
  pub gone : left ≡ 0

-- one call, by cases
module _ {c : Controller} (v : Valid c) (l : LinkedIn c) (u : ℕ) (p : outstanding c.free u ≡ true) where
  first_kept : {m : Memory} {call : Call} {o : Outcome} → Commands c m call o → outstanding o.controller.free u ≡ true
      → ((command_at o.controller u).first ≡ (command_at c u).first) ⊎ FirstFinished call (command_at c u).first
      (command_at o.controller u).first
  unfolding one_taken pair_taken finished_controller
  first_kept (refused_leaves call n xs) q = inl refl
  first_kept (done_leaves call xs ys) q = inl refl
  first_kept (changes (takes_one id a t left s e w)) q =
      inl (ap (λ (k : Command). k.first) (get_or-set_other c.commands t u _ no_command (taken_new w u p)))
  first_kept (changes (takes_pair id a t x left s e w)) q =
      inl (ap (λ (k : Command). k.first) (others_kept c.commands _ _ v.commands_64 w refl refl refl refl refl u p).1)
  first_kept (changes (finishes tag status result r)) q =
      ⊎_elim
      (λ (e : (command_at c tag).second ≡ u + 1). inr (record {
        tag = tag;
        status = status;
        result = result;
        is = refl;
        was = ((l tag r.out).down u e).names_first;
        gone = unlinked_first c.commands _ _ v.commands_64 (v.command_ok tag).second_low u e;
      }))
      (λ d. inl (ap (λ (k : Command). k.first) (unlinked_other c.commands _ _ u d)))
      (same_or_not (command_at c tag).second (u + 1))

-- While a command is outstanding, a call changes its `first` only by finishing the command named there: from then on it is 0,
-- whoever takes the tag.
pub until_finished : {c : Controller} → Reachable c → (m : Memory) (call : Call) (u : ℕ) → outstanding c.free u ≡ true
    → outstanding (perform c m call).controller.free u ≡ true
    → ((command_at (perform c m call).controller u).first ≡ (command_at c u).first)
    ⊎ FirstFinished call (command_at c u).first (command_at (perform c m call).controller u).first
until_finished {c} r m call u p = first_kept (valid r) (linked r) u p (of_commands (made c m (valid r).free_64 call))
