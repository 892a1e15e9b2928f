-- Which refusal number a call answers, exactly when: the tables once more, in propositions. Assumes nothing.
use Rattle.std.specs.Prelude.{Option, Some, None}
use Prim.Native.Nat.{ℕ, ◌+◌, ◌*◌, ◌%◌, ◌^◌, ◌≤◌, ◌<◌}
use mathlib.Core.Bool.{Bool, true, false, not}
use mathlib.Core.List.{[], ◌∷◌, ◌++◌}
use mathlib.Core.Logic.{◌⊎◌, inl, inr, ⊎_elim}
use mathlib.Core.Path.{◌≡◌, refl, sym, ap, ◌∙◌}
use native.Mathlib.Omega.{arith}
use lib.Dec.{T, ltb, ltb→lt, eqb, lit≤}
use lib.ListN.{length}
use borrow.Author.Tests.{lt-ltb}
use Rattle.rules.specs.Rules.{pick, Table, first_match, settle}
use Rattle.rules.proofs.Tests.{lt_or_ge, clash, or-true, and_true}
use Rattle.rules.proofs.Tables.{both, numbered, settle_refused}
use Rattle.rules.proofs.Cases.{pick_cases, some_both}
use Rattle.rules.proofs.Exactly.{Says, says_is, says_lt, says_eq, says_not, says_as, says_or, says_pick, says_outside}
use Rattle.rules.proofs.Exactly.{says_iff, says_sure, Reasons, Decided, Matches, decided, NoneOf}
use Rattle.bits.specs.Tags.{free_count, taken_one, taken_two}
use Rattle.bits.proofs.Some.{some_which}
use Rattle.bits.proofs.Tags.{one_taken_lem, two_taken, none_free, too_few, free_pos}
use Rattle.le.specs.Memory.{Memory}
use Rattle.entry.specs.declared.submission.Submission.{Submission}
use Rattle.ring.specs.Slots.{next}
use Rattle.ring.proofs.Exactly.{says_full, TailValue, HeadValue, says_tail, says_head, WrongSize}
use Rattle.arbiter.specs.Arbiter.{choice}
use Rattle.arbiter.specs.declared.Arbiter.{Arbiter}
use Rattle.controller.specs.declared.Ring.{Ring}
use Rattle.controller.specs.Controller.{Controller}
use Rattle.controller.specs.State.{sq_at, cq_at, command_at, outstanding, fresh_controller, new_rules, new_refusal, new_controller}
use Rattle.controller.specs.Rings.{RingTest, existing, either_ring, some_ring, share_byte, sharing, shares, ends_past, outside}
use Rattle.controller.specs.Valid.{Valid}
use Rattle.controller.specs.Answers.{number_of, done, Outcome, outcome, refusing}
use Rattle.controller.specs.Create as create
use Rattle.controller.specs.Delete as delete
use Rattle.controller.specs.Doorbell as doorbell
use Rattle.controller.specs.Starting as starting
use Rattle.controller.specs.Starting.{candidates, is_pair, one_verdict, pair_verdict, one_taken}
use Rattle.controller.specs.Starting.{pair_taken, last_number, number_rules, with_numbers, with_one, with_two, take_one, take_pair}
use Rattle.controller.specs.Starting.{take_from, start_rules}
use Rattle.controller.specs.Finishing as finishing
use Rattle.controller.specs.Finishing.{cq_of, full}
use Rattle.controller.specs.Calls.{create_cq, create_sq, delete_cq, delete_sq, tail_write, head_write, start, finish, Reachable, perform}
use Rattle.controller.proofs.Outstanding.{Outstanding, says_out}
use Rattle.controller.proofs.Deleting.{Busy, says_busy, Named, says_named}
use Rattle.controller.proofs.Choosing.{NoCandidate, nobody_waits}
use Rattle.controller.proofs.Made.{Mixed, needs}
use Rattle.controller.proofs.Validity.{valid}
use Rattle.controller.proofs.Links.{linked, first_half}
use Rattle.controller.proofs.Apart as rings
use Rattle.controller.proofs.Apart.{RingId, ring_at, entry_of, bytes_of, no_ring_lem, share_byte_lem, byte_share}

-- ---- rings

-- an existing ring of which P holds
pub record SomeRing (c : Controller) (P : RingId → Type 0) : Type 0 where
  pub ring : RingId
  pub here : (ring_at c ring).exists ≡ true
  pub is : P ring

-- "a ring does not lie wholly in the memory given", of n bytes
abbrev pub Outside : Controller → ℕ → Type 0
Outside c n = SomeRing c (λ x. n < (ring_at c x).base + bytes_of c x)

-- some byte lies in both: the k bytes at a and the l bytes at b
abbrev pub ByteInBoth : ℕ → ℕ → ℕ → ℕ → Type 0
ByteInBoth a k b l = (x : ℕ) × ((a ≤ x) × (x < a + k)) × ((b ≤ x) × (x < b + l))

-- "the new ring shares a byte with an existing ring": k bytes at a
abbrev pub Shares : Controller → ℕ → ℕ → Type 0
Shares c a k = SomeRing c (λ x. ByteInBoth a k (ring_at c x).base (bytes_of c x))

-- `share_byte` says what its name says
pub share_exactly : (a k b l : ℕ) → Says (share_byte a k b l) (ByteInBoth a k b l)
share_exactly a k b l =
    record { yes = share_byte_lem a k b l; no = λ e w. clash (byte_share a k b l w.0 w.1 w.2) e }

module _ {c : Controller} (v : Valid c) where
  found : (p : RingTest) → some_ring c p ≡ true → SomeRing c (λ x. p (entry_of x) (ring_at c x) ≡ true)
  unfolding some_ring
  found p e =
      let w = some_which 16 (either_ring c p) e in
      ⊎_elim (passing (rings.sq w.0)) (passing (rings.cq w.0)) (or-true (existing p 64 (sq_at c w.0).ring) _ w.2)
    where
      passing : (x : RingId) → existing p (entry_of x) (ring_at c x) ≡ true → SomeRing c (λ y. p (entry_of y) (ring_at c y) ≡ true)
      passing x f = let h = and_true (ring_at c x).exists _ f in record { ring = x; here = h.0; is = h.1 }

  says_some : (p : RingTest) (P : RingId → Type 0) → ((x : RingId) → Says (p (entry_of x) (ring_at c x)) (P x))
      → Says (some_ring c p) (SomeRing c P)
  says_some p P s =
      record {
        yes = λ e. let w = found p e in record { ring = w.ring; here = w.here; is = (s w.ring).yes w.is };
        no = λ e w. (s w.ring).no (no_ring_lem v p e w.ring w.here) w.is;
      }

  pub outside_exactly : (n : ℕ) → Says (outside c n) (Outside c n)
  unfolding outside
  outside_exactly n = says_some (ends_past n) _ (λ x. says_lt n ((ring_at c x).base + bytes_of c x))

  pub shares_exactly : (a k : ℕ) → Says (shares c a k) (Shares c a k)
  unfolding shares
  shares_exactly a k = says_some (sharing a k) _ (λ x. share_exactly a k (ring_at c x).base (bytes_of c x))

-- ---- a call's number, from its table and from what follows

abbrev pub number : Outcome → ℕ
number o = number_of o.answer

module _ (c : Controller) (m : Memory) (x : Outcome) where
  -- the table's number or, where that is 0, that of x
  settled : (t : Table) (rs ss : Reasons) → T (numbered t) → Matches t rs → (NoneOf rs → Decided ss (number x))
      → Decided (rs ++ ss) (number (settle (first_match t) (refusing c m) x))
  unfolding settle
  settled [] [] ss n h d = d tt
  settled [] (r ∷ rs) ss n h d = absurd h
  settled (y ∷ ys) [] ss n h d = absurd h
  settled ((true, k) ∷ ys) (r ∷ rs) ss n h d =
      let l = ltb→lt 0 k (both (ltb 0 k) (numbered ys) n).0 in
      inl (h.1.yes refl, ap number (settle_refused k (refusing c m) x (λ z. omega arith)) ∙ h.0)
  settled ((false, k) ∷ ys) (r ∷ rs) ss n h d =
      let o = h.1.no refl in inr (o, settled ys rs ss (both (ltb 0 k) (numbered ys) n).1 (h.2 o) (λ p. d (o, p)))

-- ---- creations

-- a new ring of size entries at base, in n bytes of memory
abbrev pub ring_reasons : Controller → ℕ → ℕ → ℕ → ℕ → Reasons
ring_reasons c n entry size base =
    (WrongSize size, 3)
    ∷ ((base % 4096 ≡ 0 → ⊥), 4)
    ∷ (n < base + entry * size, 5)
    ∷ (Shares c base (entry * size), 6)
    ∷ []

abbrev pub create_cq_reasons : Controller → ℕ → ℕ → ℕ → ℕ → Reasons
create_cq_reasons c n id size base = (15 < id, 1) ∷ ((cq_at c id).ring.exists ≡ true, 2) ∷ ring_reasons c n 16 size base

-- "the SQ names a CQ that does not exist; or SQ 0 a CQ other than 0; or another SQ the CQ 0"
abbrev pub WrongCq : Controller → ℕ → ℕ → Type 0
WrongCq c id cq = ((cq_at c cq).ring.exists ≡ true → ⊥) ⊎ Mixed id cq

abbrev pub create_sq_reasons : Controller → ℕ → ℕ → ℕ → ℕ → ℕ → ℕ → Reasons
create_sq_reasons c n id size base cq class =
    (15 < id, 1)
    ∷ ((sq_at c id).ring.exists ≡ true, 2)
    ∷ (3 < class, 8)
    ∷ (WrongCq c id cq, 7)
    ∷ ring_reasons c n 64 size base

module _ {c : Controller} (r : Reachable c) (m : Memory) where
  abbrev n : ℕ
  n = length m

  ring_matches : (entry size base : ℕ) → Matches (create.ring_rules c n entry size base) (ring_reasons c n entry size base)
  ring_matches entry size base = (
    refl,
    says_outside 2 1024 size,
    λ a. (
      refl,
      says_not (says_eq (base % 4096) 0),
      λ b. (
        refl,
        says_lt n (base + entry * size),
        λ d. (refl, shares_exactly (valid r) base (entry * size), λ e. tt),
      ),
    ),
  )

  pub create_cq_lem : (id size base : ℕ) → Decided (create_cq_reasons c n id size base) (number (perform c m (create_cq id size base)))
  unfolding create.create_cq create.create_cq_refusal
  create_cq_lem id size base =
      settled c m _ (create.create_cq_rules c n id size base) (create_cq_reasons c n id size base) [] tt
      (refl, says_lt 15 id, λ a. (refl, says_is (cq_at c id).ring.exists, λ b. ring_matches 16 size base)) (λ o. refl)

  pub create_sq_lem : (id size base cq class : ℕ)
      → Decided (create_sq_reasons c n id size base cq class) (number (perform c m (create_sq id size base cq class)))
  unfolding create.create_sq create.create_sq_refusal
  create_sq_lem id size base cq class =
      settled c m _ (create.create_sq_rules c n id size base cq class) (create_sq_reasons c n id size base cq class) [] tt (
        refl,
        says_lt 15 id,
        λ a. (
          refl,
          says_is (sq_at c id).ring.exists,
          λ b. (
            refl,
            says_lt 3 class,
            λ d. (refl, wrong, λ e. ring_matches 64 size base),
          ),
        ),
      ) (λ o. refl)
    where
      wrong : Says (create.wrong_cq c id cq) (WrongCq c id cq)
      wrong =
          says_or (says_not (says_is (cq_at c cq).ring.exists))
          (says_pick (eqb id 0) (says_eq id 0) (says_not (says_eq cq 0)) (says_eq cq 0))

-- ---- deletions

-- a queue that exists, and is in use, which has the number n
abbrev pub delete_reasons : ℕ → Type 0 → Type 0 → ℕ → Reasons
delete_reasons id Exists InUse n = (15 < id, 1) ∷ (id ≡ 0, 35) ∷ ((Exists → ⊥), 9) ∷ (InUse, n) ∷ []

abbrev pub delete_sq_reasons : Controller → ℕ → Reasons
delete_sq_reasons c id = delete_reasons id ((sq_at c id).ring.exists ≡ true) (Busy c id) 33

abbrev pub delete_cq_reasons : Controller → ℕ → Reasons
delete_cq_reasons c id = delete_reasons id ((cq_at c id).ring.exists ≡ true) (Named c id) 34

module _ (c : Controller) (m : Memory) (id : ℕ) where
  -- of both tables, where d is left by the deletion
  deletion : {b u : Bool} {P Q : Type 0} → Says b P → Says u Q → (n : ℕ) → T (numbered (delete.delete_rules id b u n)) → (d : Controller)
      → Decided (delete_reasons id P Q n) (number (settle (first_match (delete.delete_rules id b u n)) (refusing c m) (outcome done d m)))
  deletion {b} {u} {P} {Q} s t n h d =
      settled c m _ (delete.delete_rules id b u n) (delete_reasons id P Q n) [] h (
        refl,
        says_lt 15 id,
        λ x. (refl, says_eq id 0, λ y. (refl, says_not s, λ z. (refl, t, λ w. tt))),
      ) (λ o. refl)

  pub delete_sq_lem : Decided (delete_sq_reasons c id) (number (perform c m (delete_sq id)))
  unfolding delete.delete_sq delete.delete_sq_refusal
  delete_sq_lem = deletion (says_is (sq_at c id).ring.exists) (says_busy c id) 33 tt _

  pub delete_cq_lem : Decided (delete_cq_reasons c id) (number (perform c m (delete_cq id)))
  unfolding delete.delete_cq delete.delete_cq_refusal
  delete_cq_lem = deletion (says_is (cq_at c id).ring.exists) (says_named c id) 34 tt _

-- ---- doorbell writes

abbrev pub tail_reasons : Controller → ℕ → ℕ → Reasons
tail_reasons c id v =
    let q = sq_at c id in
    (15 < id, 1)
    ∷ ((q.ring.exists ≡ true → ⊥), 9)
    ∷ (q.marked ≡ true, 11)
    ∷ ((TailValue q.ring.size q.ring.head q.ring.tail v → ⊥), 10)
    ∷ []

abbrev pub head_reasons : Controller → ℕ → ℕ → Reasons
head_reasons c id v =
    let q = cq_at c id in
    (15 < id, 1)
    ∷ ((q.ring.exists ≡ true → ⊥), 9)
    ∷ ((HeadValue q.ring.size q.ring.head q.ring.tail v → ⊥), 10)
    ∷ []

-- where 10 stands last, and changes something
last_row : {b : Bool} {P : Type 0} (x y : Outcome) → Says b P → number x ≡ 0 → number y ≡ 10
    → Decided (((P → ⊥), 10) ∷ []) (number (pick b x y))
last_row {b} {P} x y s e f = go b s
  where
    go : (t : Bool) → Says t P → Decided (((P → ⊥), 10) ∷ []) (number (pick t x y))
    go true u = inr (λ h. h (u.yes refl), e)
    go false u = inl (u.no refl, f)

module _ {c : Controller} (r : Reachable c) (m : Memory) (id v : ℕ) where
  pub tail_write_lem : Decided (tail_reasons c id v) (number (perform c m (tail_write id v)))
  unfolding doorbell.tail_write doorbell.tail_refusal
  tail_write_lem =
      let q = sq_at c id in
      let k = q.ring in
      settled c m _ (doorbell.tail_rules c id) ((15 < id, 1) ∷ ((k.exists ≡ true → ⊥), 9) ∷ (q.marked ≡ true, 11) ∷ [])
      (((TailValue k.size k.head k.tail v → ⊥), 10) ∷ []) tt
      (refl, says_lt 15 id, λ a. (refl, says_not (says_is k.exists), λ b. (refl, says_is q.marked, λ d. tt)))
      (λ o. let h = (valid r).sq_ok id (says_sure (says_is k.exists) o.1.0) in
      last_row _ _ (says_tail k.size k.head k.tail v h.head_below h.tail_below) refl refl)

  pub head_write_lem : Decided (head_reasons c id v) (number (perform c m (head_write id v)))
  unfolding doorbell.head_write doorbell.head_refusal
  head_write_lem =
      let k = (cq_at c id).ring in
      settled c m _ (doorbell.head_rules c id v) (head_reasons c id v) [] tt (
        refl,
        says_lt 15 id,
        λ a. (
          refl,
          says_not (says_is k.exists),
          λ b.
              let h = (valid r).cq_ok id (says_sure (says_is k.exists) b) in
              (refl, says_not (says_head k.size k.head k.tail v h.head_below h.tail_below), λ d. tt),
        ),
      )
      (λ o. refl)

-- ---- start

-- "If the chosen SQ needs more than are free"
pub record TooFewTags (c : Controller) (m : Memory) : Type 0 where
  pub id : ℕ
  pub left : Arbiter
  pub chosen : choice c.arbiter (candidates c) ≡ Some (id, left)
  pub few : free_count c.free < needs c m id

-- "A start that would need a number above 18,446,744,073,709,551,614": one of those that the chosen SQ's commands would bear
pub record NumberAbove (c : Controller) (m : Memory) : Type 0 where
  pub id : ℕ
  pub left : Arbiter
  pub chosen : choice c.arbiter (candidates c) ≡ Some (id, left)
  pub needed : ℕ
  pub from_next : c.next_number ≤ needed
  pub to_last : needed < c.next_number + needs c m id
  pub above : 18446744073709551614 < needed

-- of the queue chosen
abbrev pub take_reasons : Controller → Memory → Reasons
take_reasons c m = (TooFewTags c m, 13) ∷ (NumberAbove c m, 32) ∷ []

abbrev pub start_reasons : Controller → Memory → Reasons
start_reasons c m = (Outside c (length m), 5) ∷ (NoCandidate c, 12) ∷ take_reasons c m

not_nobody : {i : ℕ} {a : Arbiter} {x : Option (ℕ × Arbiter)} → x ≡ Some (i, a) → x ≡ None → ⊥
not_nobody e f = let z : ◌≡◌ {A = ℕ} 0 1 = cc in omega arith

module _ {c : Controller} (r : Reachable c) (m : Memory) where
  -- 13 or 32 or neither, of the queue chosen
  module _ (id : ℕ) (a : Arbiter) (e : choice c.arbiter (candidates c) ≡ Some (id, a)) where
    few : {k : ℕ} → needs c m id ≡ k → free_count c.free < k → Decided (take_reasons c m) 13
    few f h = inl (record { id = id; left = a; chosen = e; few = rw f h }, refl)

    -- n is the highest number that is needed
    says_above : (n : ℕ) → c.next_number + needs c m id ≡ n + 1 → Says (ltb last_number n) (NumberAbove c m)
    says_above n f =
        says_as (says_lt last_number n)
        (λ h. record {
          id = id;
          left = a;
          chosen = e;
          needed = n;
          from_next = omega (arith, f, needs_some);
          to_last = omega (arith, f);
          above = h;
        })
        (λ w. let g = ap (needs c m) (some_both (sym w.chosen ∙ e)).0 in omega (arith, w.to_last, w.above, g, f))
      where
        needs_some : 1 ≤ needs c m id
        needs_some = pick_cases (λ (k : ℕ). 1 ≤ k) (is_pair id (sq_at c id).ring m) 2 1 (λ h. lit≤ tt) (λ h. lit≤ tt)

    enough : {k : ℕ} (n : ℕ) (o : Outcome) → needs c m id ≡ k → k ≤ free_count c.free → c.next_number + k ≡ n + 1 → number o ≡ 0
        → Decided (take_reasons c m) (number (with_numbers c m n o))
    enough n o f h l z =
        inr (
          λ w. let g = ap (needs c m) (some_both (sym w.chosen ∙ e)).0 in omega (arith, w.few, g, f, h),
          settled c m o (number_rules n) ((NumberAbove c m, 32) ∷ []) [] tt (refl, says_above n (rw f l), λ w. tt) (λ w. z),
        )

    one : (first : Submission) → is_pair id (sq_at c id).ring m ≡ false → Decided (take_reasons c m) (number (take_one c m id a first))
    unfolding take_one one_taken
    one first p = go (taken_one c.free) refl
      where
        h : c.free < 2 ^ 64
        h = (valid r).free_64

        go : (x : Option (ℕ × ℕ)) → taken_one c.free ≡ x
            → Decided (take_reasons c m) (number (with_one c m (one_taken c m id a first (one_verdict c id first)) x))
        go None q =
            let z = (none_free c.free h).0 q in
            few {k = 1} (rw p)
            (⊎_elim (λ (l : free_count c.free < 1). l)
            (λ (l : 1 ≤ free_count c.free). absurd (omega (arith, (free_pos c.free h).0 l))) (lt_or_ge (free_count c.free) 1))
        go (Some (t, left)) q = enough {k = 1} c.next_number _ (rw p) (omega (arith, (one_taken_lem c.free h q).fewer)) refl refl

    pair : (first second : Submission) → is_pair id (sq_at c id).ring m ≡ true
        → Decided (take_reasons c m) (number (take_pair c m id a first second))
    unfolding take_pair pair_taken
    pair first second p = go (taken_two c.free) refl
      where
        h : c.free < 2 ^ 64
        h = (valid r).free_64

        go : (x : Option (ℕ × ℕ × ℕ)) → taken_two c.free ≡ x
            → Decided (take_reasons c m) (number (with_two c m (pair_taken c m id a first second (pair_verdict c id first second)) x))
        go None q = few {k = 2} (rw p) ((too_few c.free h).0 q)
        go (Some (t, u, left)) q =
            enough {k = 2} (c.next_number + 1) _ (rw p) (omega (arith, (two_taken c.free h q).fewer)) (omega arith) refl

  chosen_decided : (x : Option (ℕ × Arbiter)) → choice c.arbiter (candidates c) ≡ x
      → Decided ((NoCandidate c, 12) ∷ take_reasons c m) (number (take_from c m x))
  chosen_decided None e = inl ((nobody_waits c (valid r)).0 e, refl)
  chosen_decided (Some (id, a)) e =
      inr (
        λ n. not_nobody e ((nobody_waits c (valid r)).1 n),
        pick_cases (λ o. Decided (take_reasons c m) (number o)) (is_pair id (sq_at c id).ring m) _ _ (pair id a e _ _) (one id a e _),
      )

  pub start_refusal : Decided (start_reasons c m) (number (perform c m start))
  unfolding starting.start
  start_refusal =
      settled c m _ (start_rules c (length m)) ((Outside c (length m), 5) ∷ []) ((NoCandidate c, 12) ∷ take_reasons c m) tt
      (refl, outside_exactly (valid r) (length m), λ o. tt) (λ o. chosen_decided (choice c.arbiter (candidates c)) refl)

-- ---- finish

-- an outstanding command has the command with that tag as its second half
pub record FirstHalfOut (c : Controller) (tag : ℕ) : Type 0 where
  pub first : ℕ
  pub out : Outstanding c first
  pub second : (command_at c first).second ≡ tag + 1

-- the slot after the tail is the head
abbrev pub NoFreeSlot : Ring → Type 0
NoFreeSlot k = next k.size k.tail ≡ k.head

-- all but the last
abbrev pub before_full : Controller → ℕ → ℕ → ℕ → Reasons
before_full c n tag status =
    (Outside c n, 5) ∷ ((Outstanding c tag → ⊥), 14) ∷ (32767 < status, 15) ∷ (FirstHalfOut c tag, 16) ∷ []

abbrev pub finish_reasons : Controller → ℕ → ℕ → ℕ → Reasons
finish_reasons c n tag status = before_full c n tag status ++ ((NoFreeSlot (cq_at c (cq_of c tag)).ring, 17) ∷ [])

module _ {c : Controller} (r : Reachable c) (m : Memory) (tag status result : ℕ) where
  abbrev ring : Ring
  ring = (cq_at c (cq_of c tag)).ring

  first_says : outstanding c.free tag ≡ true → Says (not (eqb (command_at c tag).first 0)) (FirstHalfOut c tag)
  first_says o =
      says_as (says_not (says_eq (command_at c tag).first 0))
      (λ d. let w = first_half r tag o d in
      record { first = w.0; out = (says_out c w.0).yes w.1.first_out; second = w.1.names_second })
      (λ w e. let t = (says_iff (says_out c w.first)).1 w.out in
      omega (arith, e, ((linked r w.first t).down tag w.second).names_first))

  full_says : outstanding c.free tag ≡ true → Says (full ring) (NoFreeSlot ring)
  unfolding full
  full_says o =
      let v = valid r in
      let k = v.cq_ok (cq_of c tag) (v.sq_cq (command_at c tag).sq (v.command_sq tag o)) in
      says_full ring.size ring.head ring.tail k.head_below k.tail_below

  pub finish_refusal_lem : Decided (finish_reasons c (length m) tag status) (number (perform c m (finish tag status result)))
  unfolding finishing.finish finishing.finish_refusal
  finish_refusal_lem =
      settled c m _ (finishing.finish_rules c (length m) tag status) (finish_reasons c (length m) tag status) [] tt (
        refl,
        outside_exactly (valid r) (length m),
        λ a. (
          refl,
          says_not (says_out c tag),
          λ b.
              let o = (says_iff (says_out c tag)).1 (says_sure (says_out c tag) b) in
              (refl, says_lt 32767 status, λ d. (refl, first_says o, λ e. (refl, full_says o, λ f. tt))),
        ),
      ) (λ o. refl)

-- ---- a fresh controller

pub new_refusal_lem : (mechanism : ℕ) → Decided ((1 < mechanism, 23) ∷ []) (new_refusal mechanism)
unfolding new_refusal
new_refusal_lem mechanism = decided (new_rules mechanism) ((1 < mechanism, 23) ∷ []) (refl, says_lt 1 mechanism, λ a. tt)

-- "A controller refused with 23 is one of mechanism 0, word 0, no queues."
pub new_controller_lem : (word : ℕ)
    → (new_controller 0 word ≡ fresh_controller false word)
    × (new_controller 1 word ≡ fresh_controller true word)
    × ((mechanism : ℕ) → 1 < mechanism → new_controller mechanism word ≡ fresh_controller false 0)
unfolding new_controller new_refusal settle
new_controller_lem word = (refl, refl, λ mechanism h. rw (lt-ltb 1 mechanism h))
