-- Creations, deletions and doorbell writes keep the book's agreement with the controller. Assumes nothing.
use Prim.Native.Nat.{ℕ, ◌*◌, ◌<◌}
use mathlib.Core.List.{List, [], ◌∷◌, foldl-append}
use mathlib.Core.Logic.{⊎_elim}
use mathlib.Core.Path.{◌≡◌, refl, sym, subst⁻¹, ◌∙◌}
use native.Mathlib.Omega.{arith}
use lib.ListN.{length, get_or, set}
use lib.Seq.{get_or-set_same, get_or-set_other}
use borrow.Author.Tests.{eq-eqb, ne_eqb}
use Rattle.rules.proofs.Tests.{clash, same_or_not}
use Rattle.le.specs.Memory.{Memory, part}
use Rattle.le.proofs.Parts.{part_length}
use Rattle.ring.proofs.Doorbells.{valid_head_lem}
use Rattle.ring.proofs.Phase.{new, move}
use Rattle.ring.specs.Reader.{phase_in}
use Rattle.controller.specs.declared.SubmissionQueue.{SubmissionQueue}
use Rattle.controller.specs.declared.CompletionQueue.{CompletionQueue}
use Rattle.controller.specs.Controller.{Controller}
use Rattle.controller.specs.State.{no_sq, no_cq, sq_at, cq_at, with_sq, with_cq}
use Rattle.controller.specs.Create.{new_cq, new_sq}
use Rattle.controller.specs.Doorbell.{mark, tail_moved, head_moved}
use Rattle.controller.specs.Answers.{refused, done, Outcome, outcome}
use Rattle.controller.specs.Calls.{Call, create_cq, create_sq, delete_cq, delete_sq, tail_write, head_write}
use Rattle.controller.specs.Valid.{Valid}
use Rattle.controller.specs.Book.{Book, BookCq, update, head_book, enter}
use Rattle.controller.specs.Book as book
use Rattle.controller.specs.Demand.{Cleared}
use Rattle.controller.proofs.Lists.{set_same}
use Rattle.controller.proofs.Made.{NewCq, TakesHead}
use Rattle.controller.proofs.Account.{book_sq, Account, Agrees, Next, agree_set, known}

-- a law of k that is shown of q, and of every other k
pub this_or_other : (P : ℕ → Type 0) (q k : ℕ) → P q → ((k ≡ q → ⊥) → P k) → P k
this_or_other P q k here there = ⊎_elim (λ e. subst⁻¹ P e here) there (same_or_not k q)

-- completion queue q, or another one, is made or changed in controller and book
module _ (q : ℕ) (l : List CompletionQueue) (f : ℕ → BookCq) (m : Memory) (vs : List ℕ) (x : CompletionQueue) (y : BookCq) where
  pub account_this : q < length l → Account x y m vs → Account (get_or (set l q x) q no_cq) (update f q y q) m vs
  account_this h a = rw (get_or-set_same l q x no_cq h, eq-eqb q q refl) a

  pub account_other : (k : ℕ) → (k ≡ q → ⊥) → Account (get_or l q no_cq) (f q) m vs → Account (get_or (set l k x) q no_cq) (update f k y q) m vs
  account_other k n a = rw (get_or-set_other l k q x no_cq (λ e. n (sym e)), ne_eqb q k (λ e. n (sym e))) a

module _ {P : Type 0} (q : ℕ) (c : Controller) (b : Book) (m : Memory) (vs : List ℕ) (valid : Valid c) (w : Agrees P q c b m vs) where
  -- "Refusals .. : nothing."
  pub next_refused : (call : Call) (n : ℕ) → Next P q b m vs call (outcome (refused n) c m)
  unfolding enter
  next_refused call n = w

  -- a submission queue of which the book keeps what it has
  same_sq : (id : ℕ) (x : SubmissionQueue) → book_sq x ≡ book_sq (sq_at c id) → Agrees P q (with_sq c id x) b m vs
  same_sq id x e =
      record {
        sqs = λ i. w.sqs i ∙ sym (set_same c.sqs id x no_sq book_sq e i);
        commands = w.commands;
        cids = w.cids;
        account = w.account;
      }

  -- "tail writes: nothing", refused ones that mark too
  pub next_marked : (id v : ℕ) → Next P q b m vs (tail_write id v) (outcome (refused 10) (with_sq c id (mark (sq_at c id))) m)
  unfolding enter
  next_marked id v = same_sq id _ refl

  pub next_tail : (id v : ℕ) → Next P q b m vs (tail_write id v) (outcome done (with_sq c id (tail_moved (sq_at c id) v)) m)
  unfolding enter
  next_tail id v = same_sq id _ refl

  pub next_create_sq : (id size base cq class : ℕ) → id < 16
      → Next P q b m vs (create_sq id size base cq class) (outcome done (with_sq c id (new_sq size base cq class)) m)
  unfolding enter
  next_create_sq id size base cq class l =
      record {
        sqs = agree_set book_sq c.sqs no_sq b.sqs id (new_sq size base cq class) _ (omega (arith, valid.sqs_16)) refl w.sqs;
        commands = w.commands;
        cids = w.cids;
        account = w.account;
      }

  -- of deletions "they only remove the queue"
  pub next_delete_sq : (id : ℕ) → id < 16 → Next P q b m vs (delete_sq id) (outcome done (with_sq c id no_sq) m)
  unfolding enter
  next_delete_sq id l =
      record {
        sqs = agree_set book_sq c.sqs no_sq b.sqs id no_sq _ (omega (arith, valid.sqs_16)) refl w.sqs;
        commands = w.commands;
        cids = w.cids;
        account = w.account;
      }

  -- a completion queue is made or changed
  world_cq : (k : ℕ) (x : CompletionQueue) (y : BookCq) (us : List ℕ) → (P → Account (cq_at (with_cq c k x) q) (update b.cqs k y q) m us)
      → Agrees P q (with_cq c k x) (book.with_cq b k y) m us
  world_cq k x y us a = record { sqs = w.sqs; commands = w.commands; cids = w.cids; account = a }

  -- queue q itself
  world_this : q < 16 → (x : CompletionQueue) (y : BookCq) (us : List ℕ) → (P → Account x y m us)
      → Agrees P q (with_cq c q x) (book.with_cq b q y) m us
  world_this l x y us a = world_cq q x y us (λ p. account_this q c.cqs b.cqs m us x y (omega (arith, valid.cqs_16)) (a p))

  -- another one
  world_other : (k : ℕ) → (k ≡ q → ⊥) → (x : CompletionQueue) (y : BookCq) → Agrees P q (with_cq c k x) (book.with_cq b k y) m vs
  world_other k n x y = world_cq k x y vs (λ p. account_other q c.cqs b.cqs m vs x y k n (w.account p))

  abbrev created : ℕ → ℕ → ℕ → Outcome
  created id size base = outcome done (with_cq c id (new_cq size base)) m

  create_this : (size base : ℕ) → NewCq c (length m) q size base → (P → Cleared q m c (with_cq c q (new_cq size base)))
      → Next P q b m vs (create_cq q size base) (created q size base)
  unfolding enter
  create_this size base n clear =
      let l : q < length c.cqs = omega (arith, n.id_low, valid.cqs_16) in
      let here : cq_at (with_cq c q (new_cq size base)) q ≡ new_cq size base = get_or-set_same c.cqs q (new_cq size base) no_cq l in
      let zeros : P → (i : ℕ) → i < size → phase_in (part m base (16 * size)) i ≡ 0 = λ p. rw here at (clear p n.absent) refl in
      rw (eq-eqb q q refl)
      (world_this n.id_low (new_cq size base) (book.new_cq size) []
      (λ p. record {
        absent = λ e. absurd (clash refl e);
        queue = λ e. record {
          size_same = refl;
          head_same = refl;
          phase = new size (part m base (16 * size)) n.ring.low (part_length m base (16 * size) n.ring.within) (zeros p);
        };
        stands = refl;
      }))

  create_other : (id size base : ℕ) → (id ≡ q → ⊥) → Next P q b m vs (create_cq id size base) (created id size base)
  unfolding enter
  create_other id size base n = rw (ne_eqb q id (λ e. n (sym e))) (world_other id n (new_cq size base) (book.new_cq size))

  pub next_create_cq : (id size base : ℕ) → NewCq c (length m) id size base → (P → Cleared q m c (with_cq c id (new_cq size base)))
      → Next P q b m vs (create_cq id size base) (created id size base)
  next_create_cq id size base =
      this_or_other
      (λ k. NewCq c (length m) k size base → (P → Cleared q m c (with_cq c k (new_cq size base))) → Next P q b m vs (create_cq k size base)
      (created k size base))
      q id (create_this size base) (λ n new clear. create_other id size base n)

  abbrev headed : ℕ → ℕ → Outcome
  headed id v = outcome done (with_cq c id (head_moved (cq_at c id) v)) m

  head_this : (v : ℕ) → TakesHead c q v → Next P q b m vs (head_write q v) (headed q v)
  unfolding enter
  head_this v r =
      let g = (valid_head_lem _ _ _ v).0 r.valid in
      rw (eq-eqb q q refl)
      (world_this r.id_low (head_moved (cq_at c q) v) (head_book (b.cqs q) v) _
      (λ p. let z = (w.account p).queue r.here in record {
        absent = λ e. absurd (clash r.here e);
        queue = λ e. record {
          size_same = z.size_same;
          head_same = refl;
          phase = rw (z.size_same, z.head_same) (move z.phase v g.0 g.1);
        };
        stands = foldl-append _ _ vs (v ∷ []) ∙ rw (w.account p).stands;
      }))

  head_other : (id v : ℕ) → (id ≡ q → ⊥) → Next P q b m vs (head_write id v) (headed id v)
  unfolding enter
  head_other id v n = rw (ne_eqb q id (λ e. n (sym e))) (world_other id n (head_moved (cq_at c id) v) (head_book (b.cqs id) v))

  pub next_head : (id v : ℕ) → TakesHead c id v → Next P q b m vs (head_write id v) (headed id v)
  next_head id v =
      this_or_other (λ k. TakesHead c k v → Next P q b m vs (head_write k v) (headed k v)) q id (head_this v) (λ n r. head_other id v n)

-- a completion queue is deleted: of queue q itself nothing need be known before
module _ (q : ℕ) (c : Controller) (b : Book) (m : Memory) (vs : List ℕ) (valid : Valid c) where
  abbrev deleted : ℕ → Outcome
  deleted id = outcome done (with_cq c id no_cq) m

  delete_this : {P Q : Type 0} → Agrees P q c b m vs → q < 16 → Next Q q b m vs (delete_cq q) (deleted q)
  unfolding enter
  delete_this w l =
      rw (eq-eqb q q refl) (record {
        sqs = w.sqs;
        commands = w.commands;
        cids = w.cids;
        account =
            λ p. account_this q c.cqs b.cqs m [] no_cq book.no_cq (omega (arith, valid.cqs_16))
            (record { absent = λ e. refl; queue = λ e. absurd (clash e refl); stands = refl });
      })

  delete_other : {P : Type 0} → Agrees P q c b m vs → (id : ℕ) → (id ≡ q → ⊥) → Next P q b m vs (delete_cq id) (deleted id)
  unfolding enter
  delete_other w id n = rw (ne_eqb q id (λ e. n (sym e))) (world_other q c b m vs valid w id n no_cq book.no_cq)

  pub next_delete_cq : {P Q : Type 0} → Agrees P q c b m vs → (id : ℕ) → id < 16 → ((id ≡ q → ⊥) → Q → P)
      → Next Q q b m vs (delete_cq id) (deleted id)
  next_delete_cq {P} {Q} w id =
      this_or_other (λ k. k < 16 → ((k ≡ q → ⊥) → Q → P) → Next Q q b m vs (delete_cq k) (deleted k)) q id
      (λ l f. delete_this w l) (λ n l f. delete_other (known w (f n)) id n)
