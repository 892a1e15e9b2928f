-- What stores do to the controller that the words hold: one queue, one command, the mask, the arbiter or the next start number is
-- another. Assumes nothing.
use Prim.Native.Nat.{ℕ, ◌+◌, ◌*◌, ◌≤◌, ◌<◌}
use mathlib.Core.List.{List}
use mathlib.Core.Path.{◌≡◌}
use native.Mathlib.Omega.{arith}
use lib.Dec.{lit≤, lit<}
use lib.ListN.{length, set}
use Rattle.controller.specs.State.{no_sq, no_cq, no_command, sq_at, cq_at, command_at, with_sq, with_cq, with_commands, with_next_number}
use Rattle.store.specs.Held.{word, from, sq_from, cq_from, command_from, arbiter_from, sq_of, cq_of, command_of, arbiter_of, table, held}
use Rattle.store.specs.Held.{Sound, Holds}
use Rattle.store.proofs.Tables.{table_length, table_at, table_same, table_set}
use Rattle.store.proofs.Words.{stored, after, Fields, Narrow, stored_here, stored_there, stored_sound}

-- ---- what is read

pub sqs_16 : (w : List ℕ) → length (held w).sqs ≡ 16
sqs_16 w = table_length 16 (sq_of w)

pub cqs_16 : (w : List ℕ) → length (held w).cqs ≡ 16
cqs_16 w = table_length 16 (cq_of w)

pub sq_held : (w : List ℕ) (i : ℕ) → i < 16 → sq_at (held w) i ≡ sq_of w i
sq_held w i h = table_at 16 (sq_of w) i no_sq h

pub cq_held : (w : List ℕ) (i : ℕ) → i < 16 → cq_at (held w) i ≡ cq_of w i
cq_held w i h = table_at 16 (cq_of w) i no_cq h

pub command_held : (w : List ℕ) (t : ℕ) → t < 64 → command_at (held w) t ≡ command_of w t
command_held w t h = table_at 64 (command_of w) t no_command h

-- ---- parts whose words are the same

module _ (f g : ℕ → ℕ) where
  pub sq_from_lem : ((a : ℕ) → a < 8 → f (16 * a) ≡ g (16 * a)) → sq_from f ≡ sq_from g
  sq_from_lem e =
      rw (e 0 (lit< tt), e 1 (lit< tt), e 2 (lit< tt), e 3 (lit< tt), e 4 (lit< tt), e 5 (lit< tt), e 6 (lit< tt), e 7 (lit< tt))

  pub cq_from_lem : ((a : ℕ) → a < 6 → f (16 * a) ≡ g (16 * a)) → cq_from f ≡ cq_from g
  cq_from_lem e = rw (e 0 (lit< tt), e 1 (lit< tt), e 2 (lit< tt), e 3 (lit< tt), e 4 (lit< tt), e 5 (lit< tt))

  pub command_from_lem : ((a : ℕ) → a < 6 → f (64 * a) ≡ g (64 * a)) → command_from f ≡ command_from g
  command_from_lem e = rw (e 0 (lit< tt), e 1 (lit< tt), e 2 (lit< tt), e 3 (lit< tt), e 4 (lit< tt), e 5 (lit< tt))

  arbiter_from_lem : ((a : ℕ) → a < 13 → f (1 * a) ≡ g (1 * a)) → arbiter_from f ≡ arbiter_from g
  arbiter_from_lem e =
      rw (
        e 0 (lit< tt),
        e 1 (lit< tt),
        e 2 (lit< tt),
        e 3 (lit< tt),
        e 4 (lit< tt),
        e 5 (lit< tt),
        e 6 (lit< tt),
        e 7 (lit< tt),
        e 8 (lit< tt),
        e 9 (lit< tt),
        e 10 (lit< tt),
        e 11 (lit< tt),
        e 12 (lit< tt),
      )

-- the words from a on and below b are the same
abbrev Same : List ℕ → List ℕ → ℕ → ℕ → Type 0
Same w u a b = (k : ℕ) → a ≤ k → k < b → word u k ≡ word w k

module _ (w u : List ℕ) where
  pub sqs_same : Same w u 0 128 → table 16 (sq_of u) ≡ table 16 (sq_of w)
  unfolding sq_of
  sqs_same s = table_same 16 _ _ (λ j h. sq_from_lem (from u j) (from w j) (λ a l. s (j + 16 * a) (omega arith) (omega arith)))

  pub cqs_same : Same w u 128 224 → table 16 (cq_of u) ≡ table 16 (cq_of w)
  unfolding cq_of
  cqs_same s =
      table_same 16 _ _
      (λ j h. cq_from_lem (from u (j + 128)) (from w (j + 128)) (λ a l. s (j + 128 + 16 * a) (omega arith) (omega arith)))

  pub commands_same : Same w u 224 608 → table 64 (command_of u) ≡ table 64 (command_of w)
  unfolding command_of
  commands_same s =
      table_same 64 _ _
      (λ t h. command_from_lem (from u (t + 224)) (from w (t + 224)) (λ a l. s (t + 224 + 64 * a) (omega arith) (omega arith)))

  pub arbiter_same : Same w u 609 622 → arbiter_of u ≡ arbiter_of w
  unfolding arbiter_of
  arbiter_same s = arbiter_from_lem (from u 609) (from w 609) (λ a l. s (609 + 1 * a) (omega arith) (omega arith))

-- ---- one part is another

module _ (w : List ℕ) (h : Sound w) (fs : List (ℕ × ℕ)) where
  module _ (i : ℕ) (l : i < 16) where
    sq_in : (a : ℕ) → a < 8 → i + 16 * a < 623
    sq_in a b = omega arith

    -- of submission queue i
    pub sq_stored : Fields 16 8 fs → Narrow i fs → Holds (stored w i fs) (with_sq (held w) i (sq_from (after fs w i)))
    unfolding sq_of
    sq_stored ok b =
        let u = stored w i fs in
        let there = stored_there 16 8 i sq_in w fs ok in
        let s : Same w u 128 623 = λ k x y. there k (λ a c e. omega arith) in
        let sqs =
        table_set 16 (sq_of w) (sq_of u) i (sq_from (after fs w i)) l
        (sq_from_lem (from u i) (after fs w i) (λ a c. stored_here 16 8 i sq_in w fs h.sized ok (16 * a)))
        (λ j d m. sq_from_lem (from u j) (from w j) (λ a c. there (j + 16 * a) (λ b e f. d (omega arith)))) in
        let cqs = cqs_same w u (λ k x y. s k x (omega arith)) in
        let commands = commands_same w u (λ k x y. s k (omega arith) (omega arith)) in
        let arbiter = arbiter_same w u (λ k x y. s k (omega arith) (omega arith)) in
        let free = s 608 (lit≤ tt) (lit< tt) in
        let next = s 622 (lit≤ tt) (lit< tt) in
        record { sound = stored_sound 16 8 i sq_in w fs h ok b; is = cc }

    cq_in : (a : ℕ) → a < 6 → i + 128 + 16 * a < 623
    cq_in a b = omega arith

    -- of completion queue i
    pub cq_stored : Fields 16 6 fs → Narrow (i + 128) fs
        → Holds (stored w (i + 128) fs) (with_cq (held w) i (cq_from (after fs w (i + 128))))
    unfolding cq_of
    cq_stored ok b =
        let p = i + 128 in
        let u = stored w p fs in
        let there = stored_there 16 6 p cq_in w fs ok in
        let sqs = sqs_same w u (λ k x y. there k (λ a c e. omega arith)) in
        let cqs =
        table_set 16 (cq_of w) (cq_of u) i (cq_from (after fs w p)) l
        (cq_from_lem (from u p) (after fs w p) (λ a c. stored_here 16 6 p cq_in w fs h.sized ok (16 * a)))
        (λ j d m. cq_from_lem (from u (j + 128)) (from w (j + 128)) (λ a c. there (j + 128 + 16 * a) (λ b e f. d (omega arith)))) in
        let s : Same w u 224 623 = λ k x y. there k (λ a c e. omega arith) in
        let commands = commands_same w u (λ k x y. s k x (omega arith)) in
        let arbiter = arbiter_same w u (λ k x y. s k (omega arith) (omega arith)) in
        let free = s 608 (lit≤ tt) (lit< tt) in
        let next = s 622 (lit≤ tt) (lit< tt) in
        record { sound = stored_sound 16 6 p cq_in w fs h ok b; is = cc }

  module _ (t : ℕ) (l : t < 64) where
    command_in : (a : ℕ) → a < 6 → t + 224 + 64 * a < 623
    command_in a b = omega arith

    -- of the command of tag t
    pub command_stored : Fields 64 6 fs → Narrow (t + 224) fs
        → Holds (stored w (t + 224) fs)
        (let c = held w in with_commands c (set c.commands t (command_from (after fs w (t + 224)))) c.free c.arbiter)
    unfolding command_of
    command_stored ok b =
        let p = t + 224 in
        let u = stored w p fs in
        let there = stored_there 64 6 p command_in w fs ok in
        let r : Same w u 0 224 = λ k x y. there k (λ a c e. omega arith) in
        let s : Same w u 608 623 = λ k x y. there k (λ a c e. omega arith) in
        let sqs = sqs_same w u (λ k x y. r k x (omega arith)) in
        let cqs = cqs_same w u (λ k x y. r k (omega arith) (omega arith)) in
        let commands =
        table_set 64 (command_of w) (command_of u) t (command_from (after fs w p)) l
        (command_from_lem (from u p) (after fs w p) (λ a c. stored_here 64 6 p command_in w fs h.sized ok (64 * a)))
        (λ j d m. command_from_lem (from u (j + 224)) (from w (j + 224)) (λ a c. there (j + 224 + 64 * a) (λ b e f. d (omega arith)))) in
        let arbiter = arbiter_same w u (λ k x y. s k (omega arith) (omega arith)) in
        let free = s 608 (lit≤ tt) (lit< tt) in
        let next = s 622 (lit≤ tt) (lit< tt) in
        record { sound = stored_sound 64 6 p command_in w fs h ok b; is = cc }

  free_in : (a : ℕ) → a < 1 → 608 + 1 * a < 623
  free_in a b = omega arith

  -- the mask of free tags
  pub free_stored : Fields 1 1 fs → Narrow 608 fs
      → Holds (stored w 608 fs) (let c = held w in with_commands c c.commands (after fs w 608 0) c.arbiter)
  free_stored ok b =
      let u = stored w 608 fs in
      let there = stored_there 1 1 608 free_in w fs ok in
      let sqs = sqs_same w u (λ k x y. there k (λ a c e. omega arith)) in
      let cqs = cqs_same w u (λ k x y. there k (λ a c e. omega arith)) in
      let commands = commands_same w u (λ k x y. there k (λ a c e. omega arith)) in
      let arbiter = arbiter_same w u (λ k x y. there k (λ a c e. omega arith)) in
      let free = stored_here 1 1 608 free_in w fs h.sized ok 0 in
      let next = there 622 (λ a c e. omega arith) in
      record { sound = stored_sound 1 1 608 free_in w fs h ok b; is = cc }

  arbiter_in : (a : ℕ) → a < 13 → 609 + 1 * a < 623
  arbiter_in a b = omega arith

  pub arbiter_stored : Fields 1 13 fs → Narrow 609 fs
      → Holds (stored w 609 fs) (let c = held w in with_commands c c.commands c.free (arbiter_from (after fs w 609)))
  unfolding arbiter_of
  arbiter_stored ok b =
      let u = stored w 609 fs in
      let there = stored_there 1 13 609 arbiter_in w fs ok in
      let sqs = sqs_same w u (λ k x y. there k (λ a c e. omega arith)) in
      let cqs = cqs_same w u (λ k x y. there k (λ a c e. omega arith)) in
      let commands = commands_same w u (λ k x y. there k (λ a c e. omega arith)) in
      let free = there 608 (λ a c e. omega arith) in
      let next = there 622 (λ a c e. omega arith) in
      let arbiter =
      arbiter_from_lem (from u 609) (after fs w 609) (λ a c. stored_here 1 13 609 arbiter_in w fs h.sized ok (1 * a)) in
      record { sound = stored_sound 1 13 609 arbiter_in w fs h ok b; is = cc }

  next_in : (a : ℕ) → a < 1 → 622 + 1 * a < 623
  next_in a b = omega arith

  -- the next start number
  pub next_stored : Fields 1 1 fs → Narrow 622 fs → Holds (stored w 622 fs) (with_next_number (held w) (after fs w 622 0))
  next_stored ok b =
      let u = stored w 622 fs in
      let there = stored_there 1 1 622 next_in w fs ok in
      let sqs = sqs_same w u (λ k x y. there k (λ a c e. omega arith)) in
      let cqs = cqs_same w u (λ k x y. there k (λ a c e. omega arith)) in
      let commands = commands_same w u (λ k x y. there k (λ a c e. omega arith)) in
      let free = there 608 (λ a c e. omega arith) in
      let arbiter = arbiter_same w u (λ k x y. there k (λ a c e. omega arith)) in
      let next = stored_here 1 1 622 next_in w fs h.sized ok 0 in
      record { sound = stored_sound 1 1 622 next_in w fs h ok b; is = cc }
