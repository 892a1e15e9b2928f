-- A start keeps the book's agreement with the controller. Assumes nothing.
use Prim.Native.Nat.{ℕ, ◌+◌, ◌*◌, ◌<◌, ◌^◌}
use mathlib.Core.List.{List}
use native.Mathlib.Omega.{arith}
use lib.ListN.{length, set, length-set}
use Rattle.le.specs.Le.{le_at}
use Rattle.le.specs.Memory.{Memory, Bytes}
use Rattle.le.proofs.Parts.{part_get_d}
use Rattle.entry.specs.Submission.{submission_at}
use Rattle.ring.specs.Slots.{next}
use Rattle.arbiter.specs.declared.Arbiter.{Arbiter}
use Rattle.controller.specs.Controller.{Controller}
use Rattle.controller.specs.State.{no_sq, no_command, sq_at}
use Rattle.controller.specs.Starting.{entry_at, head_entry, next_entry, command, one_taken, pair_taken}
use Rattle.controller.specs.Calls.{start}
use Rattle.controller.specs.Valid.{Valid}
use Rattle.controller.specs.Book.{Book, update, enter}
use Rattle.controller.proofs.Lists.{set_all}
use Rattle.controller.proofs.Account.{book_sq, book_command, Agrees, Next, agree_set}

module _ {P : Type 0} (q : ℕ) (c : Controller) (b : Book) (m : Memory) (vs : List ℕ) (valid : Valid c) (w : Agrees P q c b m vs)
    (bytes : Bytes m) (id : ℕ) (a : Arbiter) (low : id < 16) (v : ℕ) where
  -- a CID has two bytes
  cid_in : (p : ℕ) → (entry_at m (sq_at c id).ring p).cid < 2 ^ 16
  unfolding entry_at submission_at le_at
  cid_in p =
      let place = (sq_at c id).ring.base + 64 * p in
      omega (arith, part_get_d m place 64 2 (omega arith), part_get_d m place 64 3 (omega arith), bytes (place + 2), bytes (place + 3))

  pub next_one : (t left : ℕ) → t < 64 → Next P q b m vs start (one_taken c m id a (head_entry c m id) v t left)
  unfolding one_taken enter entry_at
  next_one t left h =
      let l : t < length c.commands = omega (arith, valid.commands_64) in
      record {
        sqs = agree_set book_sq c.sqs no_sq b.sqs id _ _ (omega (arith, valid.sqs_16)) (rw (w.sqs id)) w.sqs;
        commands = agree_set book_command c.commands no_command b.commands t _ _ l (rw (w.sqs id)) w.commands;
        cids = set_all c.commands t _ no_command (λ k. k.cid < 2 ^ 16) l (cid_in _) w.cids;
        account = w.account;
      }

  pub next_pair : (t u left : ℕ) → t < 64 → u < 64
      → Next P q b m vs start (pair_taken c m id a (head_entry c m id) (next_entry c m id) v t u left)
  unfolding pair_taken enter entry_at next
  next_pair t u left h h' =
      let l : t < length c.commands = omega (arith, valid.commands_64) in
      let k = command id (head_entry c m id).cid v 0 (u + 1) c.next_number in
      let l' : u < length (set c.commands t k) = omega (arith, length-set c.commands t k, valid.commands_64) in
      record {
        sqs = agree_set book_sq c.sqs no_sq b.sqs id _ _ (omega (arith, valid.sqs_16)) (rw (w.sqs id)) w.sqs;
        commands =
            agree_set book_command (set c.commands t k) no_command (update b.commands t _) u _ _ l' (rw (w.sqs id))
            (agree_set book_command c.commands no_command b.commands t k _ l (rw (w.sqs id)) w.commands);
        cids =
            set_all (set c.commands t k) u _ no_command (λ k. k.cid < 2 ^ 16) l' (cid_in _)
            (set_all c.commands t k no_command (λ k. k.cid < 2 ^ 16) l (cid_in _) w.cids);
        account = w.account;
      }
