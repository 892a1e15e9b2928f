-- No two lists of words hold the same controller. Assumes nothing.
use Prim.Native.Nat.{ℕ, zero, suc, ◌+◌, ◌-◌, ◌*◌, ◌/◌, ◌%◌, ◌≤◌, ◌<◌}
use mathlib.Core.Bool.{true≢false}
use mathlib.Core.List.{List}
use mathlib.Core.Logic.{◌⊎◌, inl, inr, ⊎_elim}
use mathlib.Core.Path.{◌≡◌, refl, sym, ap, ◌∙◌}
use native.Mathlib.Nat.{mod-lt, mod-eq_of_lt}
use native.Mathlib.Omega.{arith}
use lib.Dec.{lit<}
use lib.Seq.{ext_get_or}
use borrow.Author.Tests.{lt-ltb, le-ltb, ne_eqb}
use Rattle.rules.proofs.Tests.{lt_or_ge}
use Rattle.le.specs.Memory.{Memory}
use Rattle.arbiter.specs.declared.Remainder.TheVariants.{Left, NoLimit}
use Rattle.arbiter.specs.declared.Arbiter.{Arbiter}
use Rattle.controller.specs.declared.SubmissionQueue.{SubmissionQueue}
use Rattle.controller.specs.declared.CompletionQueue.{CompletionQueue}
use Rattle.controller.specs.declared.Command.{Command}
use Rattle.controller.specs.Controller.{Controller}
use Rattle.controller.specs.State.{sq_at, cq_at, command_at}
use Rattle.controller.specs.Answers.{refused, outcome}
use Rattle.controller.specs.Calls.{Call, perform}
use Rattle.controller.proofs.Validity.{valid}
use Rattle.controller.proofs.Made.{made}
use Rattle.controller.proofs.Refusals.{Marked, refusal_leaves}
use Rattle.store.specs.Held.{word, from, flag, remainder_from, sq_from, cq_from, command_from, arbiter_from, sq_of, cq_of, command_of}
use Rattle.store.specs.Held.{arbiter_of, held, limit_at, Sound, Reached}
use Rattle.store.proofs.Stores.{sq_held, cq_held, command_held}
use Rattle.store.proofs.Setters.{limit_64, limit_96, limit_128}
use Rattle.store.proofs.Setters.{limit_192, limit_208, limit_288, limit_416, limit_544}

-- ---- numbers that stand for the same

same_low : (n : ℕ) {x y : ℕ} → x < n → y < n → x % n ≡ y % n → x ≡ y
same_low n a b e = sym (mod-eq_of_lt a) ∙ e ∙ mod-eq_of_lt b

same_flag : (x y : ℕ) → x < 2 → y < 2 → flag x ≡ flag y → x ≡ y
same_flag zero zero a b e = refl
same_flag zero (suc y) a b e = absurd (true≢false (sym (rw (ne_eqb (suc y) 0 (λ z. omega arith)) at e)))
same_flag (suc x) zero a b e = absurd (true≢false (rw (ne_eqb (suc x) 0 (λ z. omega arith)) at e))
same_flag (suc x) (suc y) a b e = omega arith

left_same : {x y : ℕ} → Left x ≡ Left y → x ≡ y
left_same e = cc

left_limit : {x : ℕ} → Left x ≡ NoLimit → ⊥
left_limit e = let z : ◌≡◌ {A = ℕ} 0 1 = cc in omega arith

same_remainder : (x y : ℕ) → x < 4294967297 → y < 4294967297 → remainder_from x ≡ remainder_from y → x ≡ y
same_remainder x y a b e =
    ⊎_elim
    (λ (p : x < 4294967296). ⊎_elim (λ (q : y < 4294967296). left_same (rw (lt-ltb _ _ p, lt-ltb _ _ q) at e))
    (λ (q : 4294967296 ≤ y). absurd (left_limit (rw (lt-ltb _ _ p, le-ltb _ _ q) at e))) (lt_or_ge y 4294967296))
    (λ (p : 4294967296 ≤ x). ⊎_elim (λ (q : y < 4294967296). absurd (left_limit (sym (rw (le-ltb _ _ p, lt-ltb _ _ q) at e))))
    (λ (q : 4294967296 ≤ y). omega arith) (lt_or_ge y 4294967296))
    (lt_or_ge x 4294967296)

-- ---- words that hold the same

module _ (w u : List ℕ) (h : Sound w) (g : Sound u) (e : held w ≡ held u) where
  -- the words at a place are below what its field allows
  low : (k n : ℕ) → k < 623 → limit_at k ≡ n → (word w k < n) × (word u k < n)
  low k n l q = (rw q at (h.narrow k l), rw q at (g.narrow k l))

  numbers : (k n : ℕ) → k < 623 → limit_at k ≡ n → word w k % n ≡ word u k % n → word w k ≡ word u k
  numbers k n l q f = let b = low k n l q in same_low n b.0 b.1 f

  flags : (k : ℕ) → k < 623 → limit_at k ≡ 2 → flag (word w k) ≡ flag (word u k) → word w k ≡ word u k
  flags k l q f = let b = low k 2 l q in same_flag _ _ b.0 b.1 f

  module _ (i : ℕ) (l : i < 16) where
    sq : sq_from (from w i) ≡ sq_from (from u i)
    unfolding sq_of
    sq = sym (sq_held w i l) ∙ ap (λ c. sq_at c i) e ∙ sq_held u i l

    sq_words : (a : ℕ) → a < 8 → word w (i + 16 * a) ≡ word u (i + 16 * a)
    sq_words zero b = ap (λ (q : SubmissionQueue). q.ring.base) sq
    sq_words (suc zero) b =
        numbers (i + 16) _ (omega arith) (limit_64 _ (omega arith) (omega arith)) (ap (λ (q : SubmissionQueue). q.ring.size) sq)
    sq_words (suc (suc zero)) b =
        numbers (i + 32) _ (omega arith) (limit_64 _ (omega arith) (omega arith)) (ap (λ (q : SubmissionQueue). q.ring.head) sq)
    sq_words (suc (suc (suc zero))) b =
        numbers (i + 48) _ (omega arith) (limit_64 _ (omega arith) (omega arith)) (ap (λ (q : SubmissionQueue). q.ring.tail) sq)
    sq_words (suc (suc (suc (suc zero)))) b =
        flags (i + 64) (omega arith) (limit_96 _ (omega arith) (omega arith)) (ap (λ (q : SubmissionQueue). q.ring.exists) sq)
    sq_words (suc (suc (suc (suc (suc zero))))) b =
        flags (i + 80) (omega arith) (limit_96 _ (omega arith) (omega arith)) (ap (λ (q : SubmissionQueue). q.marked) sq)
    sq_words (suc (suc (suc (suc (suc (suc zero)))))) b =
        numbers (i + 96) _ (omega arith) (limit_128 _ (omega arith) (omega arith)) (ap (λ (q : SubmissionQueue). q.cq) sq)
    sq_words (suc (suc (suc (suc (suc (suc (suc zero))))))) b =
        numbers (i + 112) _ (omega arith) (limit_128 _ (omega arith) (omega arith)) (ap (λ (q : SubmissionQueue). q.class) sq)
    sq_words (suc (suc (suc (suc (suc (suc (suc (suc a)))))))) b = absurd (omega arith)

    cq : cq_from (from w (i + 128)) ≡ cq_from (from u (i + 128))
    unfolding cq_of
    cq = sym (cq_held w i l) ∙ ap (λ c. cq_at c i) e ∙ cq_held u i l

    cq_words : (a : ℕ) → a < 6 → word w (i + 128 + 16 * a) ≡ word u (i + 128 + 16 * a)
    cq_words zero b = ap (λ (q : CompletionQueue). q.ring.base) cq
    cq_words (suc zero) b =
        numbers (i + 128 + 16) _ (omega arith) (limit_192 _ (omega arith) (omega arith)) (ap (λ (q : CompletionQueue). q.ring.size) cq)
    cq_words (suc (suc zero)) b =
        numbers (i + 128 + 32) _ (omega arith) (limit_192 _ (omega arith) (omega arith)) (ap (λ (q : CompletionQueue). q.ring.head) cq)
    cq_words (suc (suc (suc zero))) b =
        numbers (i + 128 + 48) _ (omega arith) (limit_192 _ (omega arith) (omega arith)) (ap (λ (q : CompletionQueue). q.ring.tail) cq)
    cq_words (suc (suc (suc (suc zero)))) b =
        flags (i + 128 + 64) (omega arith) (limit_208 _ (omega arith) (omega arith)) (ap (λ (q : CompletionQueue). q.ring.exists) cq)
    cq_words (suc (suc (suc (suc (suc zero))))) b =
        numbers (i + 128 + 80) _ (omega arith) (limit_288 _ (omega arith) (omega arith)) (ap (λ (q : CompletionQueue). q.phase) cq)
    cq_words (suc (suc (suc (suc (suc (suc a)))))) b = absurd (omega arith)

  module _ (t : ℕ) (l : t < 64) where
    command : command_from (from w (t + 224)) ≡ command_from (from u (t + 224))
    unfolding command_of
    command = sym (command_held w t l) ∙ ap (λ c. command_at c t) e ∙ command_held u t l

    command_words : (a : ℕ) → a < 6 → word w (t + 224 + 64 * a) ≡ word u (t + 224 + 64 * a)
    command_words zero b =
        numbers (t + 224 + 0) _ (omega arith) (limit_288 _ (omega arith) (omega arith)) (ap (λ (k : Command). k.sq) command)
    command_words (suc zero) b =
        numbers (t + 224 + 64) _ (omega arith) (limit_416 _ (omega arith) (omega arith)) (ap (λ (k : Command). k.cid) command)
    command_words (suc (suc zero)) b =
        numbers (t + 224 + 128) _ (omega arith) (limit_416 _ (omega arith) (omega arith)) (ap (λ (k : Command). k.verdict) command)
    command_words (suc (suc (suc zero))) b =
        numbers (t + 224 + 192) _ (omega arith) (limit_544 _ (omega arith) (omega arith)) (ap (λ (k : Command). k.first) command)
    command_words (suc (suc (suc (suc zero)))) b =
        numbers (t + 224 + 256) _ (omega arith) (limit_544 _ (omega arith) (omega arith)) (ap (λ (k : Command). k.second) command)
    command_words (suc (suc (suc (suc (suc zero))))) b = ap (λ (k : Command). k.number) command
    command_words (suc (suc (suc (suc (suc (suc a)))))) b = absurd (omega arith)

  arbiter : arbiter_from (from w 609) ≡ arbiter_from (from u 609)
  unfolding arbiter_of
  arbiter = ap (λ (c : Controller). c.arbiter) e

  remainders : (k : ℕ) → k < 623 → limit_at k ≡ 4294967297 → remainder_from (word w k) ≡ remainder_from (word u k) → word w k ≡ word u k
  remainders k l q f = let b = low k 4294967297 l q in same_remainder _ _ b.0 b.1 f

  arbiter_words : (a : ℕ) → a < 13 → word w (609 + a) ≡ word u (609 + a)
  unfolding limit_at
  arbiter_words zero b = flags 609 (lit< tt) refl (ap (λ (a : Arbiter). a.weighted) arbiter)
  arbiter_words (suc zero) b = numbers 610 4294967296 (lit< tt) refl (ap (λ (a : Arbiter). a.word) arbiter)
  arbiter_words (suc (suc zero)) b = numbers 611 4294967296 (lit< tt) refl (ap (λ (a : Arbiter). a.group.holder) arbiter)
  arbiter_words (suc (suc (suc zero))) b = remainders 612 (lit< tt) refl (ap (λ (a : Arbiter). a.group.remainder) arbiter)
  arbiter_words (suc (suc (suc (suc zero)))) b =
      numbers 613 4294967296 (lit< tt) refl (ap (λ (a : Arbiter). a.high.group.holder) arbiter)
  arbiter_words (suc (suc (suc (suc (suc zero))))) b =
      remainders 614 (lit< tt) refl (ap (λ (a : Arbiter). a.high.group.remainder) arbiter)
  arbiter_words (suc (suc (suc (suc (suc (suc zero)))))) b =
      numbers 615 4294967296 (lit< tt) refl (ap (λ (a : Arbiter). a.high.credit) arbiter)
  arbiter_words (suc (suc (suc (suc (suc (suc (suc zero))))))) b =
      numbers 616 4294967296 (lit< tt) refl (ap (λ (a : Arbiter). a.medium.group.holder) arbiter)
  arbiter_words (suc (suc (suc (suc (suc (suc (suc (suc zero)))))))) b =
      remainders 617 (lit< tt) refl (ap (λ (a : Arbiter). a.medium.group.remainder) arbiter)
  arbiter_words (suc (suc (suc (suc (suc (suc (suc (suc (suc zero))))))))) b =
      numbers 618 4294967296 (lit< tt) refl (ap (λ (a : Arbiter). a.medium.credit) arbiter)
  arbiter_words (suc (suc (suc (suc (suc (suc (suc (suc (suc (suc zero)))))))))) b =
      numbers 619 4294967296 (lit< tt) refl (ap (λ (a : Arbiter). a.low.group.holder) arbiter)
  arbiter_words (suc (suc (suc (suc (suc (suc (suc (suc (suc (suc (suc zero))))))))))) b =
      remainders 620 (lit< tt) refl (ap (λ (a : Arbiter). a.low.group.remainder) arbiter)
  arbiter_words (suc (suc (suc (suc (suc (suc (suc (suc (suc (suc (suc (suc zero)))))))))))) b =
      numbers 621 4294967296 (lit< tt) refl (ap (λ (a : Arbiter). a.low.credit) arbiter)
  arbiter_words (suc (suc (suc (suc (suc (suc (suc (suc (suc (suc (suc (suc (suc a))))))))))))) b = absurd (omega arith)

  -- every word is the same
  same : (k : ℕ) → k < 623 → word w k ≡ word u k
  same k l =
      ⊎_elim (λ (a : k < 128). rw (sq_place k) (sq_words (k % 16) (mod-lt k (lit< tt)) (k / 16) (omega arith)))
      (λ (a : 128 ≤ k).
      ⊎_elim (λ (b : k < 224). rw (cq_place k a) (cq_words ((k - 128) % 16) (mod-lt _ (lit< tt)) ((k - 128) / 16) (omega arith)))
      (λ (b : 224 ≤ k).
      ⊎_elim (λ (c : k < 608). rw (command_place k b) (command_words ((k - 224) % 64) (mod-lt _ (lit< tt)) ((k - 224) / 64) (omega arith)))
      (λ (c : 608 ≤ k).
      ⊎_elim (λ (d : k < 609). rw (free_place k c d) (ap (λ (x : Controller). x.free) e))
      (λ (d : 609 ≤ k).
      ⊎_elim (λ (x : k < 622). rw (arbiter_place k d) (arbiter_words (k - 609) (omega arith)))
      (λ (x : 622 ≤ k). rw (next_place k x l) (ap (λ (x : Controller). x.next_number) e)) (lt_or_ge k 622))
      (lt_or_ge k 609))
      (lt_or_ge k 608))
      (lt_or_ge k 224))
      (lt_or_ge k 128)
    where
      sq_place : (k : ℕ) → k ≡ k % 16 + 16 * (k / 16)
      sq_place k = omega arith

      cq_place : (k : ℕ) → 128 ≤ k → k ≡ (k - 128) % 16 + 128 + 16 * ((k - 128) / 16)
      cq_place k a = omega arith

      command_place : (k : ℕ) → 224 ≤ k → k ≡ (k - 224) % 64 + 224 + 64 * ((k - 224) / 64)
      command_place k a = omega arith

      free_place : (k : ℕ) → 608 ≤ k → k < 609 → k ≡ 608
      free_place k a b = omega arith

      arbiter_place : (k : ℕ) → 609 ≤ k → k ≡ 609 + (k - 609)
      arbiter_place k a = omega arith

      next_place : (k : ℕ) → 622 ≤ k → k < 623 → k ≡ 622
      next_place k a b = omega arith

  -- so a call's contract, which says what controller the words left hold, fixes every word of them
  pub unique : w ≡ u
  unique = ext_get_or 0 w u (h.sized ∙ sym g.sized) (λ k l. same k (rw h.sized at l))

-- "A refusal changes nothing, save that 10 on a tail write marks the SQ": not a word, nor the memory
pub refused_words : {w u : List ℕ} (m : Memory) (call : Call) {n : ℕ} {left : Memory} → Reached w → Sound u
    → outcome (refused n) (held u) left ≡ perform (held w) m call
    → ((u ≡ w) ⊎ Marked (held w) call n (held u)) × (left ≡ m)
refused_words {w = w} {u = u} m call r s e =
    let p = refusal_leaves (rw (sym e) at (made (held w) m (valid r.reachable).free_64 call)) refl in
    (⊎_elim (λ q. inl (unique u w s r.sound q)) inr p.0, p.1)
