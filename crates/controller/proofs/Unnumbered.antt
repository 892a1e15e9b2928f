-- "It does not appear in the ring": controllers that differ in start numbers alone do the same, byte for byte. Assumes nothing.
use Rattle.std.specs.Prelude.{Option, Some, None}
use Prim.Native.Nat.{ℕ, zero, suc, ◌+◌, ◌-◌}
use mathlib.Core.Bool.{Bool, true, false, ◌&&◌}
use mathlib.Core.List.{List, [], ◌∷◌, ◌++◌, map}
use mathlib.Core.Logic.{◌⊎◌, inl, inr, ⊎_elim}
use mathlib.Core.Path.{◌≡◌, refl, sym, ap, ap₂, ◌∙◌, fun_ext, subst}
use lib.Dec.{eqb, ltb}
use lib.ListN.{length, get_or, set, get_or-map}
use Rattle.rules.specs.Rules.{pick, first_match, settle}
use Rattle.bits.specs.Bits.{some_below}
use Rattle.bits.specs.Tags.{given_back, taken_one, taken_two}
use Rattle.le.specs.Memory.{Memory}
use Rattle.entry.specs.Completion.{completion}
use Rattle.entry.specs.declared.submission.Submission.{Submission}
use Rattle.arbiter.specs.Arbiter.{choice}
use Rattle.arbiter.specs.declared.Arbiter.{Arbiter}
use Rattle.controller.specs.declared.Command.{Command}
use Rattle.controller.specs.Controller.{Controller}
use Rattle.controller.specs.declared.SubmissionQueue.{SubmissionQueue}
use Rattle.controller.specs.declared.CompletionQueue.{CompletionQueue}
use Rattle.controller.specs.State.{no_command, sq_at, cq_at, command_at, outstanding, with_queues, with_sq, with_cq, with_commands}
use Rattle.controller.specs.State.{with_next_number}
use Rattle.controller.specs.Rings.{some_ring, shares, outside}
use Rattle.controller.specs.Answers.{Answer, refused, done, started, finished, Outcome, outcome, refusing}
use Rattle.controller.specs.Create as create
use Rattle.controller.specs.Delete as delete
use Rattle.controller.specs.Delete.{busy}
use Rattle.controller.specs.Doorbell as doorbell
use Rattle.controller.specs.Verdict.{in_use}
use Rattle.controller.specs.Starting as starting
use Rattle.controller.specs.Starting.{candidate_at, candidates, is_pair, passed, command, used, head_entry, next_entry, one_verdict}
use Rattle.controller.specs.Starting.{pair_verdict, one_taken, pair_taken, last_number, with_numbers, with_one, with_two, take_one}
use Rattle.controller.specs.Starting.{take_pair, take_from}
use Rattle.controller.specs.Finishing as finishing
use Rattle.controller.specs.Finishing.{cq_of, call_rules, posting_rules, finish_refusal, status_of, released, unlinked, posted}
use Rattle.controller.specs.Finishing.{finished_controller, completion_of, posted_memory, finish_answer}
use Rattle.controller.specs.Calls.{Call, create_cq, create_sq, delete_cq, delete_sq, tail_write, head_write, start, finish, perform}
use Rattle.controller.specs.Steps.{Given, Step, made, steps}
use Rattle.controller.specs.Numbers.{unnumbered, unnumbered_controller, unnumbered_answer, unnumbered_outcome}

-- ---- commands that differ in numbers alone

abbrev Same : List Command → List Command → Type 0
Same ks ls = map unnumbered ks ≡ map unnumbered ls

map_set : {A B : Type 0} (f : A → B) (l : List A) (i : ℕ) (v : A) → map f (set l i v) ≡ set (map f l) i (f v)
map_set f [] i v = refl
map_set f (x ∷ l) zero v = refl
map_set f (x ∷ l) (suc i) v = ap (λ ys. f x ∷ ys) (map_set f l i v)

module _ (ks ls : List Command) (h : Same ks ls) where
  at_same : (t : ℕ) → unnumbered (get_or ks t no_command) ≡ unnumbered (get_or ls t no_command)
  at_same t =
      sym (get_or-map unnumbered ks t no_command) ∙ ap (λ xs. get_or xs t no_command) h ∙ get_or-map unnumbered ls t no_command

  -- whatever does not look at the number is the same
  field_same : {B : Type 0} (f : Command → B) → ((k : Command) → f (unnumbered k) ≡ f k) → (t : ℕ)
      → f (get_or ks t no_command) ≡ f (get_or ls t no_command)
  field_same f e t = sym (e _) ∙ ap f (at_same t) ∙ e _

  set_same : (t : ℕ) (j k : Command) → unnumbered j ≡ unnumbered k → Same (set ks t j) (set ls t k)
  set_same t j k e =
      map_set unnumbered ks t j ∙ ap₂ (λ xs x. set xs t x) h e ∙ sym (map_set unnumbered ls t k)

  used_same : (free sq cid : ℕ) → in_use ks free sq cid ≡ in_use ls free sq cid
  unfolding in_use
  used_same free sq cid =
      ap (some_below 64) (fun_ext (λ t. ap₂ (λ a b. outstanding free t && (eqb a sq && eqb b cid))
      (field_same (λ k. k.sq) (λ k. refl) t) (field_same (λ k. k.cid) (λ k. refl) t)))

  unlinked_alike : (second status : ℕ) → Same (unlinked ks second status) (unlinked ls second status)
  unfolding unlinked released
  unlinked_alike second status = go (eqb second 0)
    where
      go : (b : Bool) → Same (pick b ks (set ks (second - 1) (released status (get_or ks (second - 1) no_command))))
          (pick b ls (set ls (second - 1) (released status (get_or ls (second - 1) no_command))))
      go true = h
      go false = set_same (second - 1) _ _ (ap (released status) (at_same (second - 1)))

-- ---- what two calls come to, but for numbers

abbrev pub Alike : Outcome → Outcome → Type 0
Alike o p = unnumbered_outcome o ≡ unnumbered_outcome p

-- or one of them has no number left; the memory is the same even then
pub record AlikeOr32 (o p : Outcome) : Type 0 where
  pub memory : o.memory ≡ p.memory
  pub rest : (o.answer ≡ refused 32) ⊎ ((p.answer ≡ refused 32) ⊎ Alike o p)

both_alike : {o p : Outcome} → Alike o p → AlikeOr32 o p
both_alike e = record { memory = ap (λ (x : Outcome). x.memory) e; rest = inr (inr e) }

-- ---- a controller, and one that differs from it in numbers alone

abbrev renumbered : Controller → List Command → ℕ → Controller
renumbered c ks n = with_next_number (with_commands c ks c.free c.arbiter) n

module _ (c : Controller) (ks : List Command) (n : ℕ) (h : Same c.commands ks) (m : Memory) where
  abbrev d : Controller
  d = renumbered c ks n

  queues_alike : (a : Answer) (xs : List SubmissionQueue) (ys : List CompletionQueue)
      → Alike (outcome a (with_queues c xs ys) m) (outcome a (with_queues d xs ys) m)
  queues_alike a xs ys = ap (λ zs. outcome (unnumbered_answer a) (unnumbered_with xs ys zs) m) h
    where
      unnumbered_with : List SubmissionQueue → List CompletionQueue → List Command → Controller
      unnumbered_with xs ys zs = with_next_number (with_commands (with_queues c xs ys) zs c.free c.arbiter) 0

  refusing_alike : (k : ℕ) → Alike (refusing c m k) (refusing d m k)
  refusing_alike k = queues_alike (refused k) c.sqs c.cqs

  -- a refusal that both find, or what both do
  settle_alike : (k : ℕ) (x y : Outcome) → AlikeOr32 x y → AlikeOr32 (settle k (refusing c m) x) (settle k (refusing d m) y)
  unfolding settle
  settle_alike k x y e = go (eqb k 0)
    where
      go : (b : Bool) → AlikeOr32 (pick b x (refusing c m k)) (pick b y (refusing d m k))
      go true = e
      go false = both_alike (refusing_alike k)

  pick_alike : (b : Bool) (x x' y y' : Outcome) → AlikeOr32 x y → AlikeOr32 x' y' → AlikeOr32 (pick b x x') (pick b y y')
  pick_alike true x x' y y' e f = e
  pick_alike false x x' y y' e f = f

  -- 32 is the one refusal that looks at numbers
  numbers_alike : (i j : ℕ) (x y : Outcome) → x.memory ≡ m → Alike x y → AlikeOr32 (with_numbers c m i x) (with_numbers d m j y)
  unfolding settle
  numbers_alike i j x y k e = go (ltb last_number i) (ltb last_number j)
    where
      go : (a b : Bool) → AlikeOr32 (settle (pick a 32 0) (refusing c m) x) (settle (pick b 32 0) (refusing d m) y)
      go true true = record { memory = refl; rest = inl refl }
      go true false = record { memory = sym k ∙ ap (λ (z : Outcome). z.memory) e; rest = inl refl }
      go false true = record { memory = k; rest = inr (inl refl) }
      go false false = both_alike e

  -- ---- starts

  module _ (id : ℕ) (a : Arbiter) where
    -- what is left where a start has taken commands
    abbrev taking : ℕ → ℕ → ℕ → ℕ → ℕ → List Command → Outcome
    taking count t u v left zs =
        outcome
        (started (record { sq = id; count = count; first = t; second = u; slot = (sq_at c id).ring.head; verdict = v; number = 0 }))
        (with_next_number (with_commands (with_sq c id (passed (sq_at c id) count)) zs left a) 0)
        m

    one_taken_lem : (v t left : ℕ) → Alike (one_taken c m id a (head_entry c m id) v t left) (one_taken d m id a (head_entry c m id) v t left)
    unfolding one_taken
    one_taken_lem v t left =
        let k = command id (head_entry c m id).cid v 0 0 in
        ap (taking 1 t 0 v left) (set_same c.commands ks h t (k c.next_number) (k n) refl)

    pair_taken_lem : (v t u left : ℕ)
        → Alike (pair_taken c m id a (head_entry c m id) (next_entry c m id) v t u left)
        (pair_taken d m id a (head_entry c m id) (next_entry c m id) v t u left)
    unfolding pair_taken
    pair_taken_lem v t u left =
        let j = command id (head_entry c m id).cid v 0 (u + 1) in
        let k = command id (next_entry c m id).cid v (t + 1) 0 in
        let e = set_same c.commands ks h t (j c.next_number) (j n) refl in
        ap (taking 2 t u v left)
        (set_same (set c.commands t (j c.next_number)) (set ks t (j n)) e u (k (c.next_number + 1)) (k (n + 1)) refl)

    with_one_lem : (v : ℕ) (x : Option (ℕ × ℕ))
        → AlikeOr32 (with_one c m (one_taken c m id a (head_entry c m id) v) x) (with_one d m (one_taken d m id a (head_entry c m id) v) x)
    unfolding one_taken
    with_one_lem v None = both_alike (refusing_alike 13)
    with_one_lem v (Some (t, left)) = numbers_alike c.next_number n _ _ refl (one_taken_lem v t left)

    with_two_lem : (v : ℕ) (x : Option (ℕ × ℕ × ℕ))
        → AlikeOr32 (with_two c m (pair_taken c m id a (head_entry c m id) (next_entry c m id) v) x)
        (with_two d m (pair_taken d m id a (head_entry c m id) (next_entry c m id) v) x)
    unfolding pair_taken
    with_two_lem v None = both_alike (refusing_alike 13)
    with_two_lem v (Some (t, u, left)) = numbers_alike (c.next_number + 1) (n + 1) _ _ refl (pair_taken_lem v t u left)

    used_alike : (e : Submission) → used c id e ≡ used d id e
    used_alike e = used_same c.commands ks h c.free id e.cid

    take_one_lem : let e = head_entry c m id in AlikeOr32 (take_one c m id a e) (take_one d m id a e)
    unfolding take_one
    take_one_lem = let e = head_entry c m id in rw (← used_alike e) (with_one_lem (one_verdict c id e) (taken_one c.free))

    take_pair_lem : let e = head_entry c m id in let f = next_entry c m id in AlikeOr32 (take_pair c m id a e f) (take_pair d m id a e f)
    unfolding take_pair
    take_pair_lem =
        let e = head_entry c m id in
        let f = next_entry c m id in
        rw (← used_alike e, ← used_alike f) (with_two_lem (pair_verdict c id e f) (taken_two c.free))

  take_from_lem : (x : Option (ℕ × Arbiter)) → AlikeOr32 (take_from c m x) (take_from d m x)
  take_from_lem None = both_alike (refusing_alike 12)
  take_from_lem (Some (id, a)) = pick_alike (is_pair id (sq_at c id).ring m) _ _ _ _ (take_pair_lem id a) (take_one_lem id a)

  -- ---- finishes

  module _ (tag status result : ℕ) where
    -- whatever does not look at the number of the tag's command
    of_command : {B : Type 0} (f : Command → B) → ((k : Command) → f (unnumbered k) ≡ f k) → f (command_at c tag) ≡ f (command_at d tag)
    of_command f e = field_same c.commands ks h f e tag

    refusal_same : finish_refusal c (length m) tag status ≡ finish_refusal d (length m) tag status
    unfolding finish_refusal outside some_ring
    refusal_same =
        of_command (λ k. first_match (call_rules c (length m) tag status ++ posting_rules k (cq_at c (sq_at c k.sq).cq).ring)) (λ k. refl)

    -- what is left where the command k is posted, and the commands are then zs
    abbrev posting : List Command → Command → Outcome
    posting zs k =
        let q = (sq_at c k.sq).cq in
        outcome (finished (record { slot = (cq_at c q).ring.tail; number = 0 }))
        (with_next_number (with_commands (with_cq c q (posted (cq_at c q))) zs (given_back c.free tag) c.arbiter) 0)
        (posted_memory c m q (completion result (sq_at c k.sq).ring.head k.sq k.cid (status_of k.verdict status)))

    -- what a finish that is not refused comes to
    abbrev accepted : Controller → Outcome
    accepted x =
        outcome (finished (finish_answer x tag)) (finished_controller x tag (status_of (command_at x tag).verdict status))
        (posted_memory x m (cq_of x tag) (completion_of x tag status result))

    posted_alike : Alike (accepted c) (accepted d)
    unfolding finished_controller
    posted_alike =
        ap (λ zs. posting zs (command_at c tag)) (unlinked_alike c.commands ks h (command_at c tag).second _)
        ∙ of_command (λ k. posting (map unnumbered (unlinked ks k.second (status_of k.verdict status))) k) (λ k. refl)

    finish_alike : AlikeOr32 (perform c m (finish tag status result)) (perform d m (finish tag status result))
    unfolding finishing.finish
    finish_alike =
        subst (λ k. AlikeOr32 (perform c m (finish tag status result)) (settle k (refusing d m) (accepted d))) refusal_same
        (settle_alike (finish_refusal c (length m) tag status) (accepted c) (accepted d) (both_alike posted_alike))

  -- ---- deletions: 33 looks at the commands

  busy_same : (id : ℕ) → busy c id ≡ busy d id
  unfolding busy
  busy_same id =
      ap (some_below 64) (fun_ext (λ t. ap (λ a. outstanding c.free t && eqb a id)
      (field_same c.commands ks h (λ k. k.sq) (λ k. refl) t)))

  delete_sq_alike : (id : ℕ) → AlikeOr32 (perform c m (delete_sq id)) (perform d m (delete_sq id))
  unfolding delete.delete_sq delete.delete_sq_refusal
  delete_sq_alike id = rw (← busy_same id) (settle_alike _ _ _ (both_alike (queues_alike done _ _)))

  -- ---- every call

  call_alike : (call : Call) → AlikeOr32 (perform c m call) (perform d m call)
  unfolding create.create_cq create.create_sq create.create_cq_refusal create.create_sq_refusal shares some_ring delete.delete_cq
      delete.delete_cq_refusal delete.named doorbell.tail_write doorbell.tail_refusal doorbell.head_write doorbell.head_refusal starting.start
      outside candidates candidate_at
  call_alike (create_cq id size base) = settle_alike _ _ _ (both_alike (queues_alike done _ _))
  call_alike (create_sq id size base cq class) = settle_alike _ _ _ (both_alike (queues_alike done _ _))
  call_alike (delete_cq id) = settle_alike _ _ _ (both_alike (queues_alike done _ _))
  call_alike (delete_sq id) = delete_sq_alike id
  call_alike (tail_write id v) =
      settle_alike _ _ _
      (pick_alike (doorbell.valid_tail (sq_at c id).ring v) _ _ _ _ (both_alike (queues_alike done _ _))
      (both_alike (queues_alike (refused 10) _ _)))
  call_alike (head_write id v) = settle_alike _ _ _ (both_alike (queues_alike done _ _))
  call_alike start = settle_alike _ _ _ (take_from_lem (choice c.arbiter (candidates c)))
  call_alike (finish tag status result) = finish_alike tag status result

-- ---- what a reader may take from it

-- no call is refused for want of a number
abbrev pub Never32 : List Step → Type 0
Never32 [] = Unit {0}
Never32 (s ∷ ss) = (s.outcome.answer ≡ refused 32 → ⊥) × Never32 ss

module _ (c d : Controller) (e : unnumbered_controller c ≡ unnumbered_controller d) where
  as_renumbered : d ≡ renumbered c d.commands d.next_number
  as_renumbered =
      ap (λ (x : Controller). record {
        sqs = x.sqs;
        cqs = x.cqs;
        commands = d.commands;
        free = x.free;
        arbiter = x.arbiter;
        next_number = d.next_number;
      }) (sym e)

  -- two controllers that differ in start numbers alone come to the same by a call, but for numbers, as long as both have numbers left
  pub alike : (m : Memory) (call : Call) → AlikeOr32 (perform c m call) (perform d m call)
  alike m call =
      subst (λ x. AlikeOr32 (perform c m call) (perform x m call)) (sym as_renumbered)
      (call_alike c d.commands d.next_number (ap (λ (x : Controller). x.commands) e) m call)

  -- and leave the same memory in any case: they make the same postings, byte for byte
  pub same_memory : (m : Memory) (call : Call) → (perform c m call).memory ≡ (perform d m call).memory
  same_memory m call = (alike m call).memory

-- so they do over any list of calls
pub all_alike : (gs : List Given) (c d : Controller) → unnumbered_controller c ≡ unnumbered_controller d
    → Never32 (steps c gs) → Never32 (steps d gs)
    → map (λ s. unnumbered_outcome s.outcome) (steps c gs) ≡ map (λ s. unnumbered_outcome s.outcome) (steps d gs)
all_alike [] c d e p q = refl
all_alike (g ∷ gs) c d e p q =
    let f : Alike (made c g) (made d g) =
    ⊎_elim (λ x. absurd (p.0 x)) (λ x. ⊎_elim (λ y. absurd (q.0 y)) (λ y. y) x) (alike c d e g.memory g.call).rest in
    ap₂ (λ o os. o ∷ os) f (all_alike gs _ _ (ap (λ (o : Outcome). o.controller) f) p.1 q.1)
