-- A finish keeps the book's agreement with the controller. Assumes nothing.
use Prim.Native.Nat.{ℕ, ◌+◌, ◌-◌, ◌<◌, ◌≤◌, ◌^◌}
use mathlib.Core.Bool.{Bool, true, false}
use mathlib.Core.List.{List, [], ◌∷◌, ◌++◌}
use mathlib.Core.Path.{◌≡◌, refl, sym, ◌∙◌}
use native.Mathlib.Omega.{arith}
use lib.Dec.{eqb}
use lib.ListN.{length, get_or, set}
use borrow.Author.Tests.{eqb-false}
use Rattle.rules.specs.Rules.{pick}
use Rattle.rules.proofs.Tests.{clash}
use Rattle.le.specs.Memory.{Memory}
use Rattle.entry.specs.declared.completion.Completion.{Completion}
use Rattle.entry.proofs.Completions.{Within}
use Rattle.ring.specs.Slots.{distance}
use Rattle.ring.proofs.Phase.{post, waiting_length}
use Rattle.controller.specs.declared.Command.{Command}
use Rattle.controller.specs.Controller.{Controller}
use Rattle.controller.specs.State.{no_cq, no_command, cq_at, command_at}
use Rattle.controller.specs.Status.{failed_fused}
use Rattle.controller.specs.Finishing.{cq_of, full, status_of, released, unlinked, posted, finished_controller, completion_of}
use Rattle.controller.specs.Finishing.{finish_answer, posted_memory}
use Rattle.controller.specs.Rings.{outside}
use Rattle.controller.specs.Answers.{finished, outcome}
use Rattle.controller.specs.Calls.{finish, Reachable}
use Rattle.controller.specs.Book.{Book, BookCq, update, with_command, book_status, fail_second, waits, finish_book, enter}
use Rattle.controller.proofs.Lists.{set_same}
use Rattle.rules.proofs.Cases.{pick_cases}
use Rattle.controller.proofs.Made.{Finishable}
use Rattle.controller.proofs.Unlinked.{unlinked_same}
use Rattle.controller.proofs.Validity.{cq_below, valid}
use Rattle.controller.proofs.Written.{posts_to, ring_posted, ring_kept}
use Rattle.controller.proofs.Account.{book_command, Account, Agrees, Next, agree_set, account_kept}
use Rattle.controller.proofs.Booked.{this_or_other, account_this, account_other}

-- ---- the second half of a first half that posted

fail_keeps : (b : Book) (second status : ℕ) → ((fail_second b second status).sqs ≡ b.sqs) × ((fail_second b second status).cqs ≡ b.cqs)
fail_keeps b second status =
    let Same : Book → Type 0 = λ x. (x.sqs ≡ b.sqs) × (x.cqs ≡ b.cqs) in
    pick_cases Same (eqb second 0) _ _ (λ e. (refl, refl)) (λ e. pick_cases Same (eqb status 0) _ _ (λ e. (refl, refl)) (λ e. (refl, refl)))

module _ (ks : List Command) (second status : ℕ) where
  abbrev half : ℕ → Command
  half t = get_or ks t no_command

  fail_agrees : (b : Book) → length ks ≡ 64 → second ≤ 64 → ((t : ℕ) → b.commands t ≡ book_command (half t))
      → (t : ℕ) → (fail_second b second status).commands t ≡ book_command (get_or (unlinked ks second status) t no_command)
  unfolding unlinked released status_of
  fail_agrees b many low all = go (eqb second 0) (eqb status 0) refl
    where
      u : ℕ
      u = second - 1

      x : Bool → Command
      x s =
          record {
            sq = (half u).sq;
            cid = (half u).cid;
            verdict = pick s (half u).verdict (book_status (half u).verdict failed_fused);
            first = 0;
            second = (half u).second;
            number = (half u).number;
          }

      failed : Book
      failed =
          let k = b.commands u in
          with_command b u (record { sq = k.sq; cid = k.cid; verdict = book_status k.verdict failed_fused; second = k.second })

      go : (z s : Bool) → eqb second 0 ≡ z → (t : ℕ)
          → (pick z b (pick s b failed)).commands t ≡ book_command (get_or (pick z ks (set ks u (x s))) t no_command)
      go true s e t = all t
      go false true e t = all t ∙ sym (set_same ks u (x true) no_command book_command refl t)
      go false false e t =
          agree_set book_command ks no_command b.commands u (x false) _ (omega (arith, eqb-false second 0 e)) (rw (all u)) all t

  unlinked_cids : ((t : ℕ) → (half t).cid < 2 ^ 16) → (t : ℕ) → (get_or (unlinked ks second status) t no_command).cid < 2 ^ 16
  unfolding released
  unlinked_cids all t = rw (unlinked_same ks second status (λ k. k.cid) (λ k. refl) t) (all t)

-- ---- the posting

module _ (q : ℕ) {c : Controller} (b : Book) (m : Memory) (vs : List ℕ) (r : Reachable c) (account : Account (cq_at c q) (b.cqs q) m vs)
    (inside : outside c (length m) ≡ false) (e : Completion) (within : Within e) where
  abbrev posted_book : ℕ → BookCq
  posted_book k = let y = b.cqs k in record { size = y.size; head = y.head; phase = y.phase; waiting = y.waiting ++ (e ∷ []) }

  abbrev Posted : ℕ → Type 0
  Posted k =
      (cq_at c k).ring.exists ≡ true → full (cq_at c k).ring ≡ false
      → Account (get_or (set c.cqs k (posted (cq_at c k))) q no_cq) (update b.cqs k (posted_book k) q) (posted_memory c m k e) vs

  post_this : Posted q
  unfolding full posted
  post_this here free =
      let x = (cq_at c q).ring in
      let z = account.queue here in
      let room : length (b.cqs q).waiting + 1 < x.size =
      omega (arith, waiting_length z.phase, z.phase.room, eqb-false (distance x.size x.head x.tail) (x.size - 1) free) in
      account_this q c.cqs b.cqs (posted_memory c m q e) vs (posted (cq_at c q)) (posted_book q)
      (omega (arith, (valid r).cqs_16, cq_below (valid r) here))
      (record {
        absent = λ a. absurd (clash here a);
        queue = λ a. record {
          size_same = z.size_same;
          head_same = z.head_same;
          phase = rw (ring_posted r m inside e q here) (post z.phase e within room);
        };
        stands = account.stands;
      })

  post_other : (k : ℕ) → (k ≡ q → ⊥) → Posted k
  post_other k n here free =
      account_other q c.cqs b.cqs (posted_memory c m k e) vs (posted (cq_at c k)) (posted_book k) k n
      (account_kept (ring_kept r m inside e k here q n) account)

  post_any : (k : ℕ) → Posted k
  post_any k = this_or_other Posted q k post_this (post_other k)

module _ {P : Type 0} (q : ℕ) {c : Controller} (b : Book) (m : Memory) (vs : List ℕ) (r : Reachable c) (w : Agrees P q c b m vs)
    (tag status result : ℕ) (bound : result < 2 ^ 32) (f : Finishable c (length m) tag status) where
  abbrev k : Command
  k = command_at c tag

  abbrev id : ℕ
  id = cq_of c tag

  abbrev e : Completion
  e = completion_of c tag status result

  -- the book's completion is the one that is posted
  enters : finish_book b tag status result ≡ fail_second (waits b id e) k.second (status_of k.verdict status)
  unfolding status_of
  enters = rw (w.commands tag, w.sqs (command_at c tag).sq)

  status_in : (verdict : ℕ) → verdict ≤ 32767 → status_of verdict status ≤ 32767
  unfolding status_of
  status_in verdict h = pick_cases (λ (s : ℕ). s ≤ 32767) (eqb verdict 0) status verdict (λ z. f.status_low) (λ z. h)

  within : Within e
  within =
      let x = (valid r).sq_ok k.sq ((valid r).command_sq tag f.out) in
      record {
        result = bound;
        sqhd = omega (arith, x.head_below, x.high);
        sqid = omega (arith, ((valid r).command_ok tag).sq_low);
        cid = w.cids tag;
        status = status_in k.verdict ((valid r).command_ok tag).verdict_low;
      }

  pub next_finish : Next P q b m vs (finish tag status result)
      (outcome (finished (finish_answer c tag)) (finished_controller c tag (status_of k.verdict status))
      (posted_memory c m id e))
  unfolding enter finished_controller
  next_finish =
      let status' = status_of k.verdict status in
      let kept = fail_keeps (waits b id e) k.second status' in
      rw enters (record {
        sqs = λ i. rw kept.0 (w.sqs i);
        commands =
            fail_agrees c.commands k.second status' (waits b id e) (valid r).commands_64 ((valid r).command_ok tag).second_low
            w.commands;
        cids = unlinked_cids c.commands k.second status' w.cids;
        account =
            λ p. rw kept.1 (post_any q b m vs r (w.account p) f.inside e within id (posts_to (valid r) tag f.out) f.room);
      })
