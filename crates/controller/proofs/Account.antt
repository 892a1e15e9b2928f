-- What the book has is what the controller has: the invariant of demand 3 over the calls. Assumes nothing.
use Prim.Native.Nat.{ℕ, ◌*◌, ◌<◌, ◌^◌}
use mathlib.Core.Bool.{Bool, true, false}
use mathlib.Core.List.{List, []}
use mathlib.Core.Path.{◌≡◌, refl, sym, ap}
use native.Mathlib.Omega.{arith}
use lib.ListN.{length, get_or, set}
use borrow.Author.Tests.{eq-eqb, ne_eqb}
use Rattle.rules.proofs.Tests.{clash}
use Rattle.le.specs.Memory.{Memory, part}
use Rattle.controller.specs.declared.SubmissionQueue.{SubmissionQueue}
use Rattle.controller.specs.declared.CompletionQueue.{CompletionQueue}
use Rattle.controller.specs.declared.Command.{Command}
use Rattle.controller.specs.Controller.{Controller}
use Rattle.controller.specs.State.{no_sq, no_cq, no_command, sq_at, cq_at, command_at, fresh_controller}
use Rattle.controller.specs.Answers.{Outcome}
use Rattle.controller.specs.Calls.{Call}
use Rattle.controller.specs.Book.{Book, BookSq, BookCq, BookCommand, update, new_cq, empty, enter}
use Rattle.controller.specs.Demand.{heads_on, Place, standing, Kept}
use Rattle.controller.proofs.Lists.{set_ind, get_d_same}
use Rattle.ring.proofs.Phase.{Phase}

-- what the book has of a submission queue, and of a command
abbrev pub book_sq : SubmissionQueue → BookSq
book_sq x = record { cq = x.cq; base = x.ring.base; size = x.ring.size; head = x.ring.head }

abbrev pub book_command : Command → BookCommand
book_command k = record { sq = k.sq; cid = k.cid; verdict = k.verdict; second = k.second }

-- a completion queue that exists, the book's account of it, and the memory that holds its ring
pub record Queue (x : CompletionQueue) (y : BookCq) (m : Memory) : Type 0 where
  pub size_same : y.size ≡ x.ring.size
  pub head_same : y.head ≡ x.ring.head
  pub phase :
      let r = x.ring in
      Phase r.size r.head r.tail x.phase y.phase (part m r.base (16 * r.size)) y.waiting

-- where the book has the reader
abbrev pub place_of : BookCq → Place
place_of y = record { head = y.head; phase = y.phase }

-- and the head writes accepted at it, which leave a reader where the book has it
pub record Account (x : CompletionQueue) (y : BookCq) (m : Memory) (vs : List ℕ) : Type 0 where
  pub absent : x.ring.exists ≡ false → y ≡ new_cq 0
  pub queue : x.ring.exists ≡ true → Queue x y m
  pub stands : standing vs ≡ place_of y

-- the book and the controller, with the account of completion queue q where P holds: that no later call deletes it
pub record Agrees (P : Type 0) (q : ℕ) (c : Controller) (b : Book) (m : Memory) (vs : List ℕ) : Type 0 where
  pub sqs : (i : ℕ) → b.sqs i ≡ book_sq (sq_at c i)
  pub commands : (t : ℕ) → b.commands t ≡ book_command (command_at c t)
  pub cids : (t : ℕ) → (command_at c t).cid < 2 ^ 16
  pub account : P → Account (cq_at c q) (b.cqs q) m vs

-- what a call leaves
abbrev pub Next : Type 0 → ℕ → Book → Memory → List ℕ → Call → Outcome → Type 0
Next P q b m vs call o = Agrees P q o.controller (enter b m call o.answer) o.memory (heads_on q vs call o.answer)

-- the same store into the book and into the controller's list
module _ {A B : Type 0} (g : A → B) (l : List A) (d : A) (f : ℕ → B) (k : ℕ) (x : A) (v : B) where
  pub agree_set : k < length l → v ≡ g x → ((i : ℕ) → f i ≡ g (get_or l i d)) → (i : ℕ) → update f k v i ≡ g (get_or (set l k x) i d)
  agree_set h e all = set_ind l k x d (λ i y. update f k v i ≡ g y) h (rw (eq-eqb k k refl) e) (λ i n. rw (ne_eqb i k n) (all i))

-- a fresh controller and an empty book
pub agrees_fresh : {P : Type 0} (weighted : Bool) (word q : ℕ) (m : Memory) → Agrees P q (fresh_controller weighted word) empty m []
agrees_fresh weighted word q m =
    record {
      sqs = λ i. ap book_sq (sym (get_d_same 16 i no_sq));
      commands = λ t. ap book_command (sym (get_d_same 64 t no_command));
      cids = λ t. omega (arith, ap (λ (k : Command). k.cid) (get_d_same 64 t no_command));
      account =
          λ p. record {
            absent = λ e. refl;
            queue = λ e. absurd (clash e (ap (λ (x : CompletionQueue). x.ring.exists) (get_d_same 16 q no_cq)));
            stands = refl;
          };
    }

-- memory that keeps the ring of q keeps it all
pub account_kept : {x : CompletionQueue} {y : BookCq} {m m' : Memory} {vs : List ℕ}
    → (x.ring.exists ≡ true → part m' x.ring.base (16 * x.ring.size) ≡ part m x.ring.base (16 * x.ring.size))
    → Account x y m vs → Account x y m' vs
account_kept k a =
    record {
      absent = a.absent;
      queue = λ e. let z = a.queue e in record { size_same = z.size_same; head_same = z.head_same; phase = rw (k e) z.phase };
      stands = a.stands;
    }

module _ {P : Type 0} {q : ℕ} {c : Controller} {b : Book} {m : Memory} {vs : List ℕ} (w : Agrees P q c b m vs) where
  pub kept : {m' : Memory} → (P → Kept c q m m') → Agrees P q c b m' vs
  kept k = record { sqs = w.sqs; commands = w.commands; cids = w.cids; account = λ p. account_kept (k p) (w.account p) }

  -- where more is known than P
  pub known : {Q : Type 0} → (Q → P) → Agrees Q q c b m vs
  known f = record { sqs = w.sqs; commands = w.commands; cids = w.cids; account = λ z. w.account (f z) }
