-- What each setter stores, and which controller the words then hold. Assumes nothing.
use Prim.Native.Nat.{ℕ, ◌+◌, ◌≤◌, ◌<◌, ◌^◌}
use mathlib.Core.Bool.{Bool, true, false}
use mathlib.Core.List.{List, [], ◌∷◌}
use mathlib.Core.Path.{◌≡◌, refl, subst}
use native.Mathlib.Nat.{mod-eq_of_lt}
use native.Mathlib.Omega.{arith}
use lib.Dec.{lit<}
use lib.ListN.{set}
use borrow.Author.Tests.{lt-ltb, le-ltb}
use Rattle.std.specs.Int.{from_bool}
use Rattle.arbiter.specs.declared.Arbiter.{Arbiter}
use Rattle.arbiter.specs.declared.Remainder.{Remainder}
use Rattle.controller.specs.declared.Ring.{Ring}
use Rattle.controller.specs.declared.SubmissionQueue.{SubmissionQueue}
use Rattle.controller.specs.declared.CompletionQueue.{CompletionQueue}
use Rattle.controller.specs.declared.Command.{Command}
use Rattle.controller.specs.Controller.{Controller}
use Rattle.controller.specs.State.{sq_at, cq_at, with_head, with_tail, sq_with_ring, with_sq, with_cq, with_commands, with_next_number}
use Rattle.controller.specs.Doorbell.{tail_moved, head_moved, mark}
use Rattle.store.specs.Held.{flag, remainder_from, sq_of, cq_of, held, limit_at, Sound, Holds}
use Rattle.store.proofs.Words.{stored}
use Rattle.store.proofs.Stores.{sq_held, cq_held, sq_stored, cq_stored, command_stored, free_stored, next_stored}
use Rattle.store.proofs.Stores.{arbiter_stored}

-- ---- how wide the words are

module _ (k : ℕ) where
  pub limit_16 : k < 16 → limit_at k ≡ 2 ^ 64
  unfolding limit_at
  limit_16 h = rw (lt-ltb k 16 h)

  pub limit_64 : 16 ≤ k → k < 64 → limit_at k ≡ 65536
  unfolding limit_at
  limit_64 l h = rw (le-ltb k 16 l, lt-ltb k 64 h)

  pub limit_96 : 64 ≤ k → k < 96 → limit_at k ≡ 2
  unfolding limit_at
  limit_96 l h = rw (le-ltb k 16 (omega arith), le-ltb k 64 l, lt-ltb k 96 h)

  pub limit_128 : 96 ≤ k → k < 128 → limit_at k ≡ 256
  unfolding limit_at
  limit_128 l h = rw (le-ltb k 16 (omega arith), le-ltb k 64 (omega arith), le-ltb k 96 l, lt-ltb k 128 h)

  pub limit_144 : 128 ≤ k → k < 144 → limit_at k ≡ 2 ^ 64
  unfolding limit_at
  limit_144 l h = rw (le-ltb k 16 (omega arith), le-ltb k 64 (omega arith), le-ltb k 96 (omega arith), le-ltb k 128 l, lt-ltb k 144 h)

  pub limit_192 : 144 ≤ k → k < 192 → limit_at k ≡ 65536
  unfolding limit_at
  limit_192 l h =
      rw (
        le-ltb k 16 (omega arith),
        le-ltb k 64 (omega arith),
        le-ltb k 96 (omega arith),
        le-ltb k 128 (omega arith),
        le-ltb k 144 l,
        lt-ltb k 192 h,
      )

  pub limit_208 : 192 ≤ k → k < 208 → limit_at k ≡ 2
  unfolding limit_at
  limit_208 l h =
      rw (
        le-ltb k 16 (omega arith),
        le-ltb k 64 (omega arith),
        le-ltb k 96 (omega arith),
        le-ltb k 128 (omega arith),
        le-ltb k 144 (omega arith),
        le-ltb k 192 l,
        lt-ltb k 208 h,
      )

  pub limit_288 : 208 ≤ k → k < 288 → limit_at k ≡ 256
  unfolding limit_at
  limit_288 l h =
      rw (
        le-ltb k 16 (omega arith),
        le-ltb k 64 (omega arith),
        le-ltb k 96 (omega arith),
        le-ltb k 128 (omega arith),
        le-ltb k 144 (omega arith),
        le-ltb k 192 (omega arith),
        le-ltb k 208 l,
        lt-ltb k 288 h,
      )

  pub limit_416 : 288 ≤ k → k < 416 → limit_at k ≡ 65536
  unfolding limit_at
  limit_416 l h =
      rw (
        le-ltb k 16 (omega arith),
        le-ltb k 64 (omega arith),
        le-ltb k 96 (omega arith),
        le-ltb k 128 (omega arith),
        le-ltb k 144 (omega arith),
        le-ltb k 192 (omega arith),
        le-ltb k 208 (omega arith),
        le-ltb k 288 l,
        lt-ltb k 416 h,
      )

  pub limit_544 : 416 ≤ k → k < 544 → limit_at k ≡ 256
  unfolding limit_at
  limit_544 l h =
      rw (
        le-ltb k 16 (omega arith),
        le-ltb k 64 (omega arith),
        le-ltb k 96 (omega arith),
        le-ltb k 128 (omega arith),
        le-ltb k 144 (omega arith),
        le-ltb k 192 (omega arith),
        le-ltb k 208 (omega arith),
        le-ltb k 288 (omega arith),
        le-ltb k 416 l,
        lt-ltb k 544 h,
      )

  pub limit_609 : 544 ≤ k → k < 609 → limit_at k ≡ 2 ^ 64
  unfolding limit_at
  limit_609 l h =
      rw (
        le-ltb k 16 (omega arith),
        le-ltb k 64 (omega arith),
        le-ltb k 96 (omega arith),
        le-ltb k 128 (omega arith),
        le-ltb k 144 (omega arith),
        le-ltb k 192 (omega arith),
        le-ltb k 208 (omega arith),
        le-ltb k 288 (omega arith),
        le-ltb k 416 (omega arith),
        le-ltb k 544 l,
        lt-ltb k 609 h,
      )

-- ---- the words of each part, by their distance from the first

abbrev ring_words : Ring → List (ℕ × ℕ) → List (ℕ × ℕ)
ring_words r more = (0, r.base) ∷ (16, r.size) ∷ (32, r.head) ∷ (48, r.tail) ∷ (64, from_bool r.exists) ∷ more

abbrev pub sq_words : SubmissionQueue → List (ℕ × ℕ)
sq_words q = ring_words q.ring ((80, from_bool q.marked) ∷ (96, q.cq) ∷ (112, q.class) ∷ [])

abbrev pub cq_words : CompletionQueue → List (ℕ × ℕ)
cq_words q = ring_words q.ring ((80, q.phase) ∷ [])

abbrev pub command_words : Command → List (ℕ × ℕ)
command_words k = (0, k.sq) ∷ (64, k.cid) ∷ (128, k.verdict) ∷ (192, k.first) ∷ (256, k.second) ∷ (320, k.number) ∷ []

abbrev pub arbiter_words : Arbiter → (group high medium low : ℕ) → List (ℕ × ℕ)
arbiter_words a group high medium low =
    (0, from_bool a.weighted) ∷ (1, a.word) ∷ (2, a.group.holder) ∷ (3, group)
    ∷ (4, a.high.group.holder) ∷ (5, high) ∷ (6, a.high.credit)
    ∷ (7, a.medium.group.holder) ∷ (8, medium) ∷ (9, a.medium.credit)
    ∷ (10, a.low.group.holder) ∷ (11, low) ∷ (12, a.low.credit) ∷ []

-- the numbers of an arbiter have 32 bits
pub record Wide (a : Arbiter) : Type 0 where
  pub word : a.word < 4294967296
  pub holder : a.group.holder < 4294967296
  pub high_holder : a.high.group.holder < 4294967296
  pub high_credit : a.high.credit < 4294967296
  pub medium_holder : a.medium.group.holder < 4294967296
  pub medium_credit : a.medium.credit < 4294967296
  pub low_holder : a.low.group.holder < 4294967296
  pub low_credit : a.low.credit < 4294967296

-- a flag is the word of its truth
flagged : (b : Bool) → (flag (from_bool b) ≡ b) × (from_bool b < 2)
flagged true = (refl, lit< tt)
flagged false = (refl, lit< tt)

-- the same controller, worded otherwise
holds : {w : List ℕ} {c d : Controller} → Holds w c → c ≡ d → Holds w d
holds h e = subst (Holds _) e h

module _ (w : List ℕ) (h : Sound w) where
  abbrev c : Controller
  c = held w

  module _ (i : ℕ) (l : i < 16) where
    -- ---- submission queues

    pub sq_put : (q : SubmissionQueue)
        → q.ring.base < 2 ^ 64 → q.ring.size < 65536 → q.ring.head < 65536 → q.ring.tail < 65536 → q.cq < 256 → q.class < 256
        → Holds (stored w i (sq_words q)) (with_sq c i q)
    sq_put q b s d t cq cl =
        let x = flagged q.ring.exists in
        let y = flagged q.marked in
        holds
        (sq_stored w h (sq_words q) i l (
          (0, lit< tt, refl),
          (
            (1, lit< tt, refl),
            (
              (2, lit< tt, refl),
              ((3, lit< tt, refl), ((4, lit< tt, refl), ((5, lit< tt, refl), ((6, lit< tt, refl), ((7, lit< tt, refl), tt))))),
            ),
          ),
        ) (
          rw (limit_16 (i + 0) (omega arith)) b,
          (
            rw (limit_64 (i + 16) (omega arith) (omega arith)) s,
            (
              rw (limit_64 (i + 32) (omega arith) (omega arith)) d,
              (
                rw (limit_64 (i + 48) (omega arith) (omega arith)) t,
                (
                  rw (limit_96 (i + 64) (omega arith) (omega arith)) x.1,
                  (
                    rw (limit_96 (i + 80) (omega arith) (omega arith)) y.1,
                    (
                      rw (limit_128 (i + 96) (omega arith) (omega arith)) cq,
                      (rw (limit_128 (i + 112) (omega arith) (omega arith)) cl, tt),
                    ),
                  ),
                ),
              ),
            ),
          ),
        ))
        (rw (x.0, y.0, mod-eq_of_lt s, mod-eq_of_lt d, mod-eq_of_lt t, mod-eq_of_lt cq, mod-eq_of_lt cl))

    pub sq_head_put : (v : ℕ) → v < 65536 → Holds (set w (i + 32) v) (with_sq c i (sq_with_ring (sq_at c i) (with_head (sq_at c i).ring v)))
    unfolding sq_of
    sq_head_put v b =
        holds (sq_stored w h ((32, v) ∷ []) i l ((2, lit< tt, refl), tt) (rw (limit_64 (i + 32) (omega arith) (omega arith)) b, tt))
        (rw (sq_held w i l, mod-eq_of_lt b))

    pub sq_tail_put : (v : ℕ) → v < 65536 → Holds (set w (i + 48) v) (with_sq c i (tail_moved (sq_at c i) v))
    unfolding sq_of
    sq_tail_put v b =
        holds (sq_stored w h ((48, v) ∷ []) i l ((3, lit< tt, refl), tt) (rw (limit_64 (i + 48) (omega arith) (omega arith)) b, tt))
        (rw (sq_held w i l, mod-eq_of_lt b))

    pub mark_put : Holds (set w (i + 80) 1) (with_sq c i (mark (sq_at c i)))
    unfolding sq_of
    mark_put =
        holds (sq_stored w h ((80, 1) ∷ []) i l ((5, lit< tt, refl), tt) (rw (limit_96 (i + 80) (omega arith) (omega arith)) (lit< tt), tt))
        (rw (sq_held w i l))

    -- ---- completion queues

    pub cq_put : (q : CompletionQueue)
        → q.ring.base < 2 ^ 64 → q.ring.size < 65536 → q.ring.head < 65536 → q.ring.tail < 65536 → q.phase < 256
        → Holds (stored w (i + 128) (cq_words q)) (with_cq c i q)
    cq_put q b s d t p =
        let x = flagged q.ring.exists in
        holds
        (cq_stored w h (cq_words q) i l (
          (0, lit< tt, refl),
          ((1, lit< tt, refl), ((2, lit< tt, refl), ((3, lit< tt, refl), ((4, lit< tt, refl), ((5, lit< tt, refl), tt))))),
        ) (
          rw (limit_144 (i + 128 + 0) (omega arith) (omega arith)) b,
          (
            rw (limit_192 (i + 128 + 16) (omega arith) (omega arith)) s,
            (
              rw (limit_192 (i + 128 + 32) (omega arith) (omega arith)) d,
              (
                rw (limit_192 (i + 128 + 48) (omega arith) (omega arith)) t,
                (
                  rw (limit_208 (i + 128 + 64) (omega arith) (omega arith)) x.1,
                  (rw (limit_288 (i + 128 + 80) (omega arith) (omega arith)) p, tt),
                ),
              ),
            ),
          ),
        ))
        (rw (x.0, mod-eq_of_lt s, mod-eq_of_lt d, mod-eq_of_lt t, mod-eq_of_lt p))

    pub cq_head_put : (v : ℕ) → v < 65536 → Holds (set w (i + 128 + 32) v) (with_cq c i (head_moved (cq_at c i) v))
    unfolding cq_of
    cq_head_put v b =
        holds (cq_stored w h ((32, v) ∷ []) i l ((2, lit< tt, refl), tt) (rw (limit_192 (i + 128 + 32) (omega arith) (omega arith)) b, tt))
        (rw (cq_held w i l, mod-eq_of_lt b))

    pub cq_tail_put : (v p : ℕ) → v < 65536 → p < 256
        → Holds (set (set w (i + 128 + 48) v) (i + 128 + 80) p) (with_cq c i (record { ring = with_tail (cq_at c i).ring v; phase = p }))
    unfolding cq_of
    cq_tail_put v p b d =
        holds
        (cq_stored w h ((48, v) ∷ (80, p) ∷ []) i l ((3, lit< tt, refl), ((5, lit< tt, refl), tt))
        (rw (limit_192 (i + 128 + 48) (omega arith) (omega arith)) b, (rw (limit_288 (i + 128 + 80) (omega arith) (omega arith)) d, tt)))
        (rw (cq_held w i l, mod-eq_of_lt b, mod-eq_of_lt d))

  -- ---- commands

  pub command_put : (t : ℕ) → t < 64 → (k : Command) → k.sq < 256 → k.cid < 65536 → k.verdict < 65536 → k.first < 256 → k.second < 256
      → k.number < 2 ^ 64
      → Holds (stored w (t + 224) (command_words k))
      (with_commands c (set c.commands t k) c.free c.arbiter)
  command_put t l k s d v f n x =
      holds
      (command_stored w h (command_words k) t l (
        (0, lit< tt, refl),
        ((1, lit< tt, refl), ((2, lit< tt, refl), ((3, lit< tt, refl), ((4, lit< tt, refl), ((5, lit< tt, refl), tt))))),
      ) (
        rw (limit_288 (t + 224 + 0) (omega arith) (omega arith)) s,
        (
          rw (limit_416 (t + 224 + 64) (omega arith) (omega arith)) d,
          (
            rw (limit_416 (t + 224 + 128) (omega arith) (omega arith)) v,
            (
              rw (limit_544 (t + 224 + 192) (omega arith) (omega arith)) f,
              (
                rw (limit_544 (t + 224 + 256) (omega arith) (omega arith)) n,
                (rw (limit_609 (t + 224 + 320) (omega arith) (omega arith)) x, tt),
              ),
            ),
          ),
        ),
      ))
      (rw (mod-eq_of_lt s, mod-eq_of_lt d, mod-eq_of_lt v, mod-eq_of_lt f, mod-eq_of_lt n))

  pub free_put : (mask : ℕ) → mask < 2 ^ 64 → Holds (set w 608 mask) (with_commands c c.commands mask c.arbiter)
  unfolding limit_at
  free_put mask b = free_stored w h ((0, mask) ∷ []) ((0, lit< tt, refl), tt) (b, tt)

  -- ---- the next start number

  pub next_put : (n : ℕ) → n < 2 ^ 64 → Holds (set w 622 n) (with_next_number c n)
  unfolding limit_at
  next_put n b = next_stored w h ((0, n) ∷ []) ((0, lit< tt, refl), tt) (b, tt)

  -- ---- the arbiter

  -- x stands for a remainder
  abbrev pub For : ℕ → Remainder → Type 0
  For x r = (remainder_from x ≡ r) × (x < 4294967297)

  pub arbiter_put : (a : Arbiter) → Wide a → (g hi me lo : ℕ)
      → For g a.group.remainder → For hi a.high.group.remainder → For me a.medium.group.remainder
      → For lo a.low.group.remainder
      → Holds (stored w 609 (arbiter_words a g hi me lo)) (with_commands c c.commands c.free a)
  unfolding limit_at
  arbiter_put a k g hi me lo p q r s =
      let x = flagged a.weighted in
      holds
      (arbiter_stored w h (arbiter_words a g hi me lo) (
        (0, lit< tt, refl),
        (
          (1, lit< tt, refl),
          (
            (2, lit< tt, refl),
            (
              (3, lit< tt, refl),
              (
                (4, lit< tt, refl),
                (
                  (5, lit< tt, refl),
                  (
                    (6, lit< tt, refl),
                    (
                      (7, lit< tt, refl),
                      ((8, lit< tt, refl), ((9, lit< tt, refl), ((10, lit< tt, refl), ((11, lit< tt, refl), ((12, lit< tt, refl), tt))))),
                    ),
                  ),
                ),
              ),
            ),
          ),
        ),
      ) (
        x.1,
        (
          k.word,
          (
            k.holder,
            (
              p.1,
              (
                k.high_holder,
                (
                  q.1,
                  (
                    k.high_credit,
                    (k.medium_holder, (r.1, (k.medium_credit, (k.low_holder, (s.1, (k.low_credit, tt)))))),
                  ),
                ),
              ),
            ),
          ),
        ),
      ))
      (rw (
        x.0,
        p.0,
        q.0,
        r.0,
        s.0,
        mod-eq_of_lt k.word,
        mod-eq_of_lt k.holder,
        mod-eq_of_lt k.high_holder,
        mod-eq_of_lt k.high_credit,
        mod-eq_of_lt k.medium_holder,
        mod-eq_of_lt k.medium_credit,
        mod-eq_of_lt k.low_holder,
        mod-eq_of_lt k.low_credit,
      ))
