-- An inspector who has the answers alone matches each completion to its start by the number: a finish answers the number under which
-- its tag was last taken, and no number is answered twice. Assumes nothing.
use Prim.Native.Nat.{ℕ}
use mathlib.Core.Bool.{Bool, true}
use mathlib.Core.List.{List, [], ◌∷◌, foldl}
use mathlib.Core.Path.{◌≡◌, refl, sym, ◌∙◌}
use lib.ListN.{length, get_or, set, length-set}
use borrow.Author.Tests.{eq-eqb, ne_eqb}
use Rattle.bits.specs.Tags.{given_back}
use Rattle.bits.proofs.Tags.{OneTaken}
use Rattle.le.specs.Memory.{Memory}
use Rattle.controller.specs.declared.Command.{Command}
use Rattle.controller.specs.Controller.{Controller}
use Rattle.controller.specs.State.{no_command, command_at, outstanding, fresh_controller}
use Rattle.controller.specs.Valid.{Valid}
use Rattle.controller.specs.Starting.{one_taken, pair_taken}
use Rattle.controller.specs.Finishing.{unlinked, finished_controller}
use Rattle.controller.specs.Answers.{FinishAnswer, finished, starts_in, Outcome}
use Rattle.controller.specs.Calls.{Call, finish, perform, Reachable, fresh, after}
use Rattle.controller.specs.Steps.{Given, Step, steps, final}
use Rattle.controller.specs.Book.{update}
use Rattle.controller.specs.Numbers.{noted, notes, numbers_finished}
use Rattle.controller.proofs.Lists.{set_ind}
use Rattle.controller.proofs.Outstanding.{taken_other, back_was}
use Rattle.controller.proofs.Unlinked.{unlinked_number}
use Rattle.controller.proofs.Made.{takes_one, takes_pair, finishes, Commands, refused_leaves, done_leaves, changes, of_commands}
use Rattle.controller.proofs.Made.{made}
use Rattle.controller.proofs.Validity.{none_out, valid}
use Rattle.controller.proofs.Numbered.{finish_number}
use Rattle.controller.proofs.Conserved.{Once, conserved}

-- ---- the number under which a tag was last taken

-- the notes have the number of every outstanding command
abbrev Noted : (ℕ → ℕ) → List Command → ℕ → Type 0
Noted f ks free = (t : ℕ) → outstanding free t ≡ true → f t ≡ (get_or ks t no_command).number

taken_noted : (f : ℕ → ℕ) (ks : List Command) {free t left : ℕ} (k : Command) → length ks ≡ 64 → OneTaken free t left
    → Noted f ks free → Noted (update f t k.number) (set ks t k) left
taken_noted f ks {t = t} {left = left} k many w h =
    set_ind ks t k no_command (λ j x. outstanding left j ≡ true → update f t k.number j ≡ x.number) (rw many w.low)
    (λ o. rw (eq-eqb t t refl)) (λ j d o. rw (ne_eqb j t d) (h j (sym (taken_other w j d) ∙ o)))

finished_noted : (f : ℕ → ℕ) (ks : List Command) (free tag second status : ℕ) → outstanding free tag ≡ true
    → Noted f ks free → Noted f (unlinked ks second status) (given_back free tag)
finished_noted f ks free tag second status out h t o = h t (back_was free tag out t o) ∙ sym (unlinked_number ks second status t)

abbrev NotedIn : (ℕ → ℕ) → Controller → Type 0
NotedIn f c = Noted f c.commands c.free

noted_kept : (f : ℕ → ℕ) {c : Controller} {m : Memory} {call : Call} {o : Outcome} → Valid c → NotedIn f c → Commands c m call o
    → NotedIn (foldl noted f (starts_in o.answer)) o.controller
unfolding one_taken pair_taken finished_controller
noted_kept f v h (refused_leaves call n xs) = h
noted_kept f v h (done_leaves call xs ys) = h
noted_kept f {c} v h (changes (takes_one id a t left s e w)) = taken_noted f c.commands _ v.commands_64 w h
noted_kept f {c} v h (changes (takes_pair id a t u left s e w)) =
    taken_noted (update f t _) (set c.commands t _) _ (length-set c.commands t _ ∙ v.commands_64) w.second
    (taken_noted f c.commands _ v.commands_64 w.first h)
noted_kept f {c} v h (changes (finishes tag status result r)) = finished_noted f c.commands c.free tag _ _ r.out h

abbrev takes_notes : (ℕ → ℕ) → Step → ℕ → ℕ
takes_notes f s = foldl noted f (starts_in s.outcome.answer)

notes_kept : (gs : List Given) (f : ℕ → ℕ) {c : Controller} → Reachable c → NotedIn f c
    → NotedIn (foldl takes_notes f (steps c gs)) (final c gs)
notes_kept [] f r h = h
notes_kept (g ∷ gs) f {c} r h =
    notes_kept gs _ (after r g.memory g.call)
    (noted_kept f (valid r) h (of_commands (made c g.memory (valid r).free_64 g.call)))

-- ---- any list of calls from a fresh controller

module _ (weighted : Bool) (word : ℕ) (gs : List Given) where
  abbrev c : Controller
  c = fresh_controller weighted word

  pub noted_number : (t : ℕ) → outstanding (final c gs).free t ≡ true → notes c gs t ≡ (command_at (final c gs) t).number
  noted_number = notes_kept gs (λ t. 0) (fresh weighted word) (λ t o. absurd (none_out t o))

  -- a finish answers the number under which its tag was last taken
  pub matched : (m : Memory) (tag status result : ℕ) {f : FinishAnswer}
      → (perform (final c gs) m (finish tag status result)).answer ≡ finished f → f.number ≡ notes c gs tag
  matched m tag status result e =
      let n = finish_number (final c gs) m tag status result e in n.1 ∙ sym (noted_number tag n.0)

  -- no two finishes answer the same number
  pub never_twice : Once (numbers_finished c gs)
  never_twice = (conserved weighted word gs).once
