-- No two existing rings share a byte; and where none lies outside a memory, each lies in it. Assumes nothing.
use Prim.Native.Nat.{ℕ, ◌+◌, ◌*◌, ◌≤◌, ◌<◌, min, max}
use mathlib.Core.Bool.{Bool, true, false, true≢false}
use mathlib.Core.List.{List}
use mathlib.Core.Logic.{◌⊎◌, inl, inr, ⊎_elim, ⊎_swap}
use mathlib.Core.Path.{◌≡◌, refl, sym, ap, subst⁻¹, ◌∙◌}
use native.Mathlib.Omega.{arith}
use lib.ListN.{get_or}
use lib.Seq.{get_or-set_same, get_or-set_other}
use borrow.Author.Tests.{ltb-true, ltb-false, lt-ltb}
use Rattle.rules.proofs.Tests.{or-false, same_or_not, lt_or_ge}
use Rattle.arbiter.specs.declared.Arbiter.{Arbiter}
use Rattle.bits.proofs.Some.{none_some}
use Rattle.le.specs.Memory.{Memory}
use Rattle.controller.specs.declared.Ring.{Ring}
use Rattle.controller.specs.declared.SubmissionQueue.{SubmissionQueue}
use Rattle.controller.specs.declared.CompletionQueue.{CompletionQueue}
use Rattle.controller.specs.declared.Command.{Command}
use Rattle.controller.specs.Controller.{Controller}
use Rattle.controller.specs.State.{no_sq, no_cq, sq_at, cq_at, with_sq, with_cq, with_commands, with_head, with_tail, fresh_controller}
use Rattle.controller.specs.State.{no_ring, with_next_number}
use Rattle.controller.specs.Rings.{RingTest, existing, either_ring, some_ring, share_byte, sharing, shares, ends_past, outside}
use Rattle.controller.specs.Valid.{RingOk, Valid}
use Rattle.controller.specs.Create.{new_cq, new_sq}
use Rattle.controller.specs.Starting.{one_taken, pair_taken}
use Rattle.controller.specs.Finishing.{cq_of, finished_controller, posted}
use Rattle.controller.specs.Answers.{done, Outcome, outcome}
use Rattle.controller.specs.Calls.{Call, delete_cq, delete_sq, Reachable, fresh, after}
use Rattle.controller.proofs.Lists.{set_same, get_d_same}
use Rattle.controller.proofs.Made.{takes_one, takes_pair, finishes, Made, refuses, marks, creates_cq, creates_sq, moves_tail}
use Rattle.controller.proofs.Made.{deletes_cq, deletes_sq, moves_head, commands, made}
use Rattle.controller.proofs.Validity.{sq_below, cq_below, valid}

-- ---- the rings of a controller, by kind and id

pub data RingId : Type 0 where
  sq : ℕ → RingId
  cq : ℕ → RingId

abbrev ring_in : List SubmissionQueue → List CompletionQueue → RingId → Ring
ring_in xs ys (sq i) = (get_or xs i no_sq).ring
ring_in xs ys (cq i) = (get_or ys i no_cq).ring

abbrev pub ring_at : Controller → RingId → Ring
ring_at c = ring_in c.sqs c.cqs

-- the bytes of an entry, and of the whole ring
abbrev pub entry_of : RingId → ℕ
entry_of (sq i) = 64
entry_of (cq i) = 16

abbrev pub bytes_of : Controller → RingId → ℕ
bytes_of c x = entry_of x * (ring_at c x).size

module _ {c : Controller} (v : Valid c) where
  pub ring_ok : (x : RingId) → (ring_at c x).exists ≡ true → RingOk (ring_at c x)
  ring_ok (sq i) = v.sq_ok i
  ring_ok (cq i) = v.cq_ok i

  -- where no ring passes a test, each that exists fails it
  pub no_ring_lem : (p : RingTest) → some_ring c p ≡ false → (x : RingId) → (ring_at c x).exists ≡ true → p (entry_of x) (ring_at c x) ≡ false
  unfolding some_ring
  no_ring_lem p e (sq i) h = rw h at (or-false (existing p 64 (sq_at c i).ring) _ (none_some 16 (either_ring c p) e i (sq_below v h))).0
  no_ring_lem p e (cq i) h = rw h at (or-false (existing p 64 (sq_at c i).ring) _ (none_some 16 (either_ring c p) e i (cq_below v h))).1

  -- "a ring does not lie wholly in the memory given" is said of none
  pub ring_inside : {n : ℕ} → outside c n ≡ false → (x : RingId) → (ring_at c x).exists ≡ true → (ring_at c x).base + bytes_of c x ≤ n
  unfolding outside
  ring_inside {n} e x h = ltb-false n _ (no_ring_lem (ends_past n) e x h)

  -- "the new ring shares a byte with an existing ring" is said of none
  ring_alone : (a k : ℕ) → shares c a k ≡ false → (x : RingId) → (ring_at c x).exists ≡ true
      → share_byte a k (ring_at c x).base (bytes_of c x) ≡ false
  unfolding shares
  ring_alone a k e x h = no_ring_lem (sharing a k) e x h

-- ---- bytes

-- `share_byte` says what its name says: some byte lies in both
module _ (a k b l : ℕ) where
  pub share_byte_lem : share_byte a k b l ≡ true → (x : ℕ) × ((a ≤ x) × (x < a + k)) × ((b ≤ x) × (x < b + l))
  unfolding share_byte
  share_byte_lem e = let h = ltb-true (max a b) (min (a + k) (b + l)) e in (max a b, (omega arith, omega arith), (omega arith, omega arith))

  pub byte_share : (x : ℕ) → (a ≤ x) × (x < a + k) → (b ≤ x) × (x < b + l) → share_byte a k b l ≡ true
  unfolding share_byte
  byte_share x p q = lt-ltb (max a b) (min (a + k) (b + l)) (omega arith)

-- the k bytes at a end before the l bytes at b begin, or these before those
abbrev pub Disjoint : ℕ → ℕ → ℕ → ℕ → Type 0
Disjoint a k b l = (a + k ≤ b) ⊎ (b + l ≤ a)

disjoint : (a k b l : ℕ) → 0 < k → 0 < l → share_byte a k b l ≡ false → Disjoint a k b l
unfolding share_byte
disjoint a k b l p q e =
    let h = ltb-false (max a b) (min (a + k) (b + l)) e in
    ⊎_elim (λ (n : b < a + k). inr (omega arith)) (λ (n : a + k ≤ b). inl n) (lt_or_ge b (a + k))

-- ---- rings

abbrev Apart : (RingId → Ring) → Type 0
Apart f =
    (x y : RingId) → (x ≡ y → ⊥) → (f x).exists ≡ true → (f y).exists ≡ true
    → Disjoint (f x).base (entry_of x * (f x).size) (f y).base (entry_of y * (f y).size)

-- a ring but for its head and tail, which have no part in this
abbrev still : Ring → Ring
still r = with_head (with_tail r 0) 0

same_apart : (f g : RingId → Ring) → ((x : RingId) → still (g x) ≡ still (f x)) → Apart f → Apart g
same_apart f g e h x y d =
    let P : Ring → Ring → Type 0 =
    λ r s. r.exists ≡ true → s.exists ≡ true → Disjoint r.base (entry_of x * r.size) s.base (entry_of y * s.size) in
    subst⁻¹ (λ r. P r (still (g y))) (e x) (subst⁻¹ (P (still (f x))) (e y) (h x y d))

pub same_ring : (x y : RingId) → (x ≡ y) ⊎ (x ≡ y → ⊥)
same_ring (sq i) (sq j) = ⊎_elim (λ (e : i ≡ j). inl (ap sq e)) (λ (d : i ≡ j → ⊥). inr (λ e. d (cc))) (same_or_not i j)
same_ring (cq i) (cq j) = ⊎_elim (λ (e : i ≡ j). inl (ap cq e)) (λ (d : i ≡ j → ⊥). inr (λ e. d (cc))) (same_or_not i j)
same_ring (sq i) (cq j) = inr (λ e. let z : ◌≡◌ {A = ℕ} 0 1 = cc in omega arith)
same_ring (cq i) (sq j) = inr (λ e. let z : ◌≡◌ {A = ℕ} 0 1 = cc in omega arith)

-- a new ring r at w, apart from all others
new_apart : (f g : RingId → Ring) (w : RingId) (r : Ring) → g w ≡ r → ((x : RingId) → (x ≡ w → ⊥) → g x ≡ f x)
    → ((x : RingId) → (f x).exists ≡ true → Disjoint r.base (entry_of w * r.size) (f x).base (entry_of x * (f x).size)) → Apart f → Apart g
new_apart f g w r e o n h x y d =
    ⊎_elim
    (λ (p : x ≡ w). ⊎_elim (λ (q : y ≡ w). absurd (d (p ∙ sym q)))
    (λ (q : y ≡ w → ⊥). rw (p, e, o y q) (λ a b. n y b)) (same_ring y w))
    (λ (p : x ≡ w → ⊥). ⊎_elim (λ (q : y ≡ w). rw (q, e, o x p) (λ a b. ⊎_swap (n x a)))
    (λ (q : y ≡ w → ⊥). rw (o x p, o y q) (h x y d)) (same_ring y w))
    (same_ring x w)

-- the ring at w is gone
gone_apart : (f g : RingId → Ring) (w : RingId) → g w ≡ no_ring → ((x : RingId) → (x ≡ w → ⊥) → g x ≡ f x) → Apart f → Apart g
gone_apart f g w e o h x y d =
    ⊎_elim (λ (p : x ≡ w). rw (p, e) (λ a b. absurd (true≢false (sym a))))
    (λ (p : x ≡ w → ⊥). ⊎_elim (λ (q : y ≡ w). rw (q, e) (λ a b. absurd (true≢false (sym b))))
    (λ (q : y ≡ w → ⊥). rw (o x p, o y q) (h x y d)) (same_ring y w))
    (same_ring x w)

some_bytes : (x : RingId) (n : ℕ) → 2 ≤ n → 0 < entry_of x * n
some_bytes (sq i) n h = omega arith
some_bytes (cq i) n h = omega arith

-- ---- what a call does to the rings: it moves heads and tails, adds one that is apart from all others, or removes one

-- the controller without the queue of a ring, and the call that leaves it so
abbrev pub without : Controller → RingId → Controller
without c (sq i) = with_sq c i no_sq
without c (cq i) = with_cq c i no_cq

abbrev pub deletion : RingId → Call
deletion (sq i) = delete_sq i
deletion (cq i) = delete_cq i

pub data Grown (c d : Controller) : Type 0 where
  still_rings : ((x : RingId) → still (ring_at d x) ≡ still (ring_at c x)) → Grown c d
  adds_ring : (w : RingId) (r : Ring) → r.exists ≡ true → ring_at d w ≡ r → ((x : RingId) → (x ≡ w → ⊥) → ring_at d x ≡ ring_at c x)
      → ((x : RingId) → (ring_at c x).exists ≡ true → Disjoint r.base (entry_of w * r.size) (ring_at c x).base (bytes_of c x))
      → Grown c d

pub data RingsMade (c : Controller) (m : Memory) : Call → Outcome → Type 0 where
  grows : {call : Call} {o : Outcome} → Grown c o.controller → RingsMade c m call o
  removes : (w : RingId) → ring_at (without c w) w ≡ no_ring → RingsMade c m (deletion w) (outcome done (without c w) m)

-- another ring is as it was
module _ (c : Controller) (i : ℕ) where
  other_sq : (q : SubmissionQueue) (x : RingId) → (x ≡ sq i → ⊥) → ring_at (with_sq c i q) x ≡ ring_at c x
  other_sq q (sq j) d = ap (λ x. x.ring) (get_or-set_other c.sqs i j q no_sq (λ e. d (ap sq e)))
  other_sq q (cq j) d = refl

  other_cq : (q : CompletionQueue) (x : RingId) → (x ≡ cq i → ⊥) → ring_at (with_cq c i q) x ≡ ring_at c x
  other_cq q (sq j) d = refl
  other_cq q (cq j) d = ap (λ x. x.ring) (get_or-set_other c.cqs i j q no_cq (λ e. d (ap cq e)))

pub others : (c : Controller) (w x : RingId) → (x ≡ w → ⊥) → ring_at (without c w) x ≡ ring_at c x
others c (sq i) = other_sq c i no_sq
others c (cq i) = other_cq c i no_cq

module _ {c : Controller} (v : Valid c) where
  -- the new ring r at w shares no byte with another
  alone : (w : RingId) (r : Ring) → 2 ≤ r.size → shares c r.base (entry_of w * r.size) ≡ false
      → (x : RingId) → (ring_at c x).exists ≡ true → Disjoint r.base (entry_of w * r.size) (ring_at c x).base (bytes_of c x)
  alone w r s e x h =
      disjoint r.base (entry_of w * r.size) (ring_at c x).base (bytes_of c x) (some_bytes w r.size s)
      (some_bytes x _ (ring_ok v x h).low)
      (ring_alone v r.base (entry_of w * r.size) e x h)

  adds_sq : (i : ℕ) (q : SubmissionQueue) → i < 16 → q.ring.exists ≡ true → 2 ≤ q.ring.size
      → shares c q.ring.base (64 * q.ring.size) ≡ false → Grown c (with_sq c i q)
  adds_sq i q l h s e =
      adds_ring (sq i) q.ring h (ap (λ x. x.ring) (get_or-set_same c.sqs i q no_sq (rw v.sqs_16 l))) (other_sq c i q)
      (alone (sq i) q.ring s e)

  adds_cq : (i : ℕ) (q : CompletionQueue) → i < 16 → q.ring.exists ≡ true → 2 ≤ q.ring.size
      → shares c q.ring.base (16 * q.ring.size) ≡ false → Grown c (with_cq c i q)
  adds_cq i q l h s e =
      adds_ring (cq i) q.ring h (ap (λ x. x.ring) (get_or-set_same c.cqs i q no_cq (rw v.cqs_16 l))) (other_cq c i q)
      (alone (cq i) q.ring s e)

  pub sq_gone : (i : ℕ) → i < 16 → sq_at (with_sq c i no_sq) i ≡ no_sq
  sq_gone i l = get_or-set_same c.sqs i no_sq no_sq (rw v.sqs_16 l)

  pub cq_gone : (i : ℕ) → i < 16 → cq_at (with_cq c i no_cq) i ≡ no_cq
  cq_gone i l = get_or-set_same c.cqs i no_cq no_cq (rw v.cqs_16 l)

module _ (c : Controller) (i : ℕ) where
  -- a queue whose ring is the same but for its head and tail
  sq_still : (q : SubmissionQueue) → still q.ring ≡ still (sq_at c i).ring → Grown c (with_sq c i q)
  sq_still q e = still_rings same
    where
      same : (x : RingId) → still (ring_at (with_sq c i q) x) ≡ still (ring_at c x)
      same (sq j) = set_same c.sqs i q no_sq (λ x. still x.ring) e j
      same (cq j) = refl

  cq_still : (q : CompletionQueue) → still q.ring ≡ still (cq_at c i).ring → Grown c (with_cq c i q)
  cq_still q e = still_rings same
    where
      same : (x : RingId) → still (ring_at (with_cq c i q) x) ≡ still (ring_at c x)
      same (sq j) = refl
      same (cq j) = set_same c.cqs i q no_cq (λ x. still x.ring) e j

-- the commands have no part in it
with_commands_lem : {c d : Controller} (ks : List Command) (free : ℕ) (a : Arbiter) → Grown c d → Grown c (with_commands d ks free a)
with_commands_lem ks free a (still_rings e) = still_rings e
with_commands_lem ks free a (adds_ring w r h e o n) = adds_ring w r h e o n

with_number : {c d : Controller} (n : ℕ) → Grown c d → Grown c (with_next_number d n)
with_number n (still_rings e) = still_rings e
with_number n (adds_ring w r h e o k) = adds_ring w r h e o k

pub of_rings : {c : Controller} {m : Memory} {call : Call} {o : Outcome} → Valid c → Made c m call o → RingsMade c m call o
unfolding one_taken pair_taken finished_controller posted
of_rings v (refuses call n) = grows (still_rings (λ x. refl))
of_rings {c} v (marks id x r e) = grows (sq_still c id _ refl)
of_rings v (creates_cq id size base r) = grows (adds_cq v id (new_cq size base) r.id_low refl r.ring.low r.ring.alone)
of_rings v (creates_sq id size base k class r) =
    grows (adds_sq v id (new_sq size base k class) r.id_low refl r.ring.low r.ring.alone)
of_rings v (deletes_cq id r) = removes (cq id) (ap (λ x. x.ring) (cq_gone v id r.id_low))
of_rings v (deletes_sq id r) = removes (sq id) (ap (λ x. x.ring) (sq_gone v id r.id_low))
of_rings {c} v (moves_tail id x r e) = grows (sq_still c id _ refl)
of_rings {c} v (moves_head id x r) = grows (cq_still c id _ refl)
of_rings {c} v (commands (takes_one id a t left s e w)) = grows (with_number _ (with_commands_lem _ _ _ (sq_still c id _ refl)))
of_rings {c} v (commands (takes_pair id a t u left s e w)) = grows (with_number _ (with_commands_lem _ _ _ (sq_still c id _ refl)))
of_rings {c} v (commands (finishes tag status result r)) = grows (with_commands_lem _ _ _ (cq_still c (cq_of c tag) _ refl))

-- ---- no two rings share a byte

apart_kept : {c : Controller} {m : Memory} {call : Call} {o : Outcome} → RingsMade c m call o → Apart (ring_at c)
    → Apart (ring_at o.controller)
apart_kept {c} {o = o} (grows (still_rings e)) = same_apart (ring_at c) (ring_at o.controller) e
apart_kept {c} {o = o} (grows (adds_ring w r h e n p)) = new_apart (ring_at c) (ring_at o.controller) w r e n p
apart_kept {c} (removes w e) = gone_apart (ring_at c) (ring_at (without c w)) w e (others c w)

no_rings : (weighted : Bool) (word : ℕ) (x : RingId) → (ring_at (fresh_controller weighted word) x).exists ≡ true → ⊥
no_rings weighted word (sq i) = rw (get_d_same 16 i no_sq) (λ e. true≢false (sym e))
no_rings weighted word (cq i) = rw (get_d_same 16 i no_cq) (λ e. true≢false (sym e))

-- no two existing rings share a byte
pub apart : {c : Controller} → Reachable c → (x y : RingId) → (x ≡ y → ⊥) → (ring_at c x).exists ≡ true → (ring_at c y).exists ≡ true
    → Disjoint (ring_at c x).base (bytes_of c x) (ring_at c y).base (bytes_of c y)
apart (fresh weighted word) = λ x y d a b. absurd (no_rings weighted word x a)
apart (after {c} r m call) = apart_kept (of_rings (valid r) (made c m (valid r).free_64 call)) (apart r)

-- ---- a ring that exists stays, until its queue is deleted

abbrev pub Here : Controller → RingId → Type 0
Here c x = (ring_at c x).exists ≡ true

lasts : {c d : Controller} → Grown c d → (x : RingId) → Here c x → Here d x
lasts (still_rings e) x h = ap (λ (r : Ring). r.exists) (e x) ∙ h
lasts (adds_ring w r h e o n) x y = ⊎_elim (λ (p : x ≡ w). rw (p, e) h) (λ (p : x ≡ w → ⊥). rw (o x p) y) (same_ring x w)

pub stays_or_deleted : {c : Controller} {m : Memory} {call : Call} {o : Outcome} → RingsMade c m call o → (x : RingId) → Here c x
    → Here o.controller x ⊎ ((call ≡ deletion x) × (o ≡ outcome done (without c x) m))
stays_or_deleted (grows g) x h = inl (lasts g x h)
stays_or_deleted {c} (removes w e) x h =
    ⊎_elim (λ (p : x ≡ w). inr (rw p refl, rw p refl)) (λ (d : x ≡ w → ⊥). inl (rw (others c w x d) h)) (same_ring x w)
