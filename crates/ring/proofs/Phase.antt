-- The phase tags of one completion ring tell its reader exactly what waits. Assumes nothing.
use Prim.Native.Nat.{ℕ, zero, suc, ◌+◌, ◌-◌, ◌*◌, ◌%◌, ◌<◌, ◌≤◌}
use mathlib.Core.Path.{◌≡◌, refl, sym, ap, ap₂, ◌∙◌}
use mathlib.Core.List.{List, [], ◌∷◌, ◌++◌}
use mathlib.Core.Logic.{⊎_elim}
use native.Mathlib.Nat.{mod-lt, mod-add-mod, mod-eq_of_lt, add-mod_right, sub-zero, suc-sub-suc, not-suc-le-zero}
use native.Mathlib.Omega.{arith}
use lib.Dec.{ltb}
use lib.ListN.{length, drop, length-append, length-drop}
use borrow.Author.Tests.{lt-ltb, le-ltb}
use Rattle.rules.specs.Rules.{pick}
use Rattle.rules.proofs.Tests.{lt_or_ge, same_or_not}
use Rattle.entry.specs.Completion.{completion_at}
use Rattle.entry.specs.declared.completion.Completion.{Completion}
use Rattle.entry.proofs.Completions.{Within}
use Rattle.ring.specs.Slots.{next, distance, phase_after}
use Rattle.ring.specs.Reader.{slot_in, phase_in, read_count, read_slots, found}
use Rattle.ring.proofs.Wrap.{Wrapped, low, high, wrapped}
use Rattle.ring.proofs.Steps.{Step, on, over, step, Distance, ahead, around, distance_is, next_below}
use Rattle.ring.proofs.Exact.{place, place_zero, place_suc, count_exact}
use Rattle.ring.proofs.Posting.{posted_in, posted_length, posted_entry, posted_phase, posted_other}

-- A ring of s slots. h: head; t: tail; w: the phase tag of the next posting; r: the one that the reader expects at the head; ws: what
-- waits. The slots below the tail have this pass's phase tag, w, and all others the other one; the reader's is w exactly if the head is
-- not past the tail.
pub record Phase (s h t w r : ℕ) (ring : List ℕ) (ws : List Completion) : Type 0 where
  pub sized : length ring ≡ 16 * s
  pub head_in : h < s
  pub tail_in : t < s
  pub phase_in_lem : w < 2
  pub room : length ws < s
  pub tail_at : t ≡ place s h (length ws)
  pub same_pass : h ≤ t → r ≡ w
  pub next_pass : t < h → r + w ≡ 1
  pub below : (i : ℕ) → i < t → phase_in ring i ≡ w
  pub above : (i : ℕ) → t ≤ i → i < s → phase_in ring i + w ≡ 1
  pub slots : read_slots (length ws) ring s h ≡ ws

-- a new ring, in which every phase tag is 0
pub new : (s : ℕ) (ring : List ℕ) → 2 ≤ s → length ring ≡ 16 * s → ((i : ℕ) → i < s → phase_in ring i ≡ 0) → Phase s 0 0 1 1 ring []
unfolding read_slots
new s ring two len zeros =
    record {
      sized = len;
      head_in = omega arith;
      tail_in = omega arith;
      phase_in_lem = omega arith;
      room = omega arith;
      tail_at = sym (mod-eq_of_lt (omega arith));
      same_pass = λ l. refl;
      next_pass = λ l. omega arith;
      below = λ i l. omega arith;
      above = λ i a l. omega (arith, zeros i l);
      slots = refl;
    }

-- ---- the slots that the reader walks

place_next : (s h k : ℕ) → next s (place s h k) ≡ place s h (suc k)
unfolding next
place_next s h k = mod-add-mod (h + k) s 1 ∙ ap (λ (x : ℕ). x % s) (omega arith)

slots_last : (n : ℕ) (ring : List ℕ) (s p : ℕ) → p < s
    → read_slots (suc n) ring s p ≡ read_slots n ring s p ++ completion_at (slot_in ring (place s p n)) ∷ []
unfolding read_slots
slots_last zero ring s p l = rw (place_zero s p l)
slots_last (suc n) ring s p l =
    ap (λ (x : List Completion). completion_at (slot_in ring p) ∷ x)
    (slots_last n ring s (next s p) (next_below s p (omega arith))
    ∙ ap (λ (x : ℕ). read_slots n ring s (next s p) ++ completion_at (slot_in ring x) ∷ []) (sym (place_suc s p n)))

slots_drop : (d n : ℕ) (ring : List ℕ) (s p : ℕ) → p < s → d ≤ n → drop d (read_slots n ring s p) ≡ read_slots (n - d) ring s (place s p d)
unfolding read_slots
slots_drop zero n ring s p l h = rw (place_zero s p l, sub-zero n)
slots_drop (suc d) zero ring s p l h = absurd (not-suc-le-zero h)
slots_drop (suc d) (suc n) ring s p l h =
    slots_drop d n ring s (next s p) (next_below s p (omega arith)) (omega arith) ∙ rw (place_suc s p d, suc-sub-suc n d)

slots_same : (n : ℕ) (ring ring' : List ℕ) (s p : ℕ) → p < s
    → ((j : ℕ) → j < n → slot_in ring' (place s p j) ≡ slot_in ring (place s p j)) → read_slots n ring' s p ≡ read_slots n ring s p
unfolding read_slots
slots_same zero ring ring' s p l h = refl
slots_same (suc n) ring ring' s p l h =
    ap₂ (λ (x : Completion) (y : List Completion). x ∷ y) (ap completion_at (rw (place_zero s p l) at (h 0 (omega arith))))
    (slots_same n ring ring' s (next s p) (next_below s p (omega arith)) (λ j k. rw (← place_suc s p j) (h (suc j) (omega arith))))

distance_back : (s a b d : ℕ) → b < s → Distance s a b d → place s a d ≡ b
distance_back s a b d l (ahead x e) = ap (λ (y : ℕ). y % s) (omega arith) ∙ mod-eq_of_lt l
distance_back s a b d l (around x e) = ap (λ (y : ℕ). y % s) (omega arith) ∙ add-mod_right b s ∙ mod-eq_of_lt l

module _ {s h t w r : ℕ} {ring : List ℕ} {ws : List Completion} (v : Phase s h t w r ring ws) where
  tail_wrapped : Wrapped s (h + length ws) t
  tail_wrapped = rw v.tail_at (wrapped s (h + length ws) (omega arith))

  pub reader_phase_in : r < 2
  reader_phase_in = ⊎_elim (λ l. omega (arith, v.next_pass l)) (λ l. omega (arith, v.same_pass l)) (lt_or_ge t h)

  -- ---- the reader

  -- a slot that waits has the phase tag that the reader expects there
  hit : (k p : ℕ) → k < length ws → Wrapped s (h + k) p → Wrapped s (h + length ws) t → phase_in ring p ≡ pick (ltb (h + k) s) r (1 - r)
  hit k p l (low a b) (low c d) = rw (lt-ltb (h + k) s a) (omega (arith, v.same_pass (omega arith), v.below p (omega arith)))
  hit k p l (low a b) (high c d e) =
      rw (lt-ltb (h + k) s a) (omega (arith, v.next_pass (omega arith), v.above p (omega arith) (omega arith)))
  hit k p l (high a b q) (low c d) = absurd (omega arith)
  hit k p l (high a b q) (high c d e) = rw (le-ltb (h + k) s a) (omega (arith, v.next_pass (omega arith), v.below p (omega arith)))

  -- and the slot at the tail has not
  miss : Wrapped s (h + length ws) t → phase_in ring t ≡ pick (ltb (h + length ws) s) r (1 - r) → ⊥
  miss (low a b) e =
      let q = rw (lt-ltb (h + length ws) s a) at e in omega (arith, v.same_pass (omega arith), v.above t (omega arith) v.tail_in)
  miss (high a b c) e =
      let q = rw (le-ltb (h + length ws) s a) at e in omega (arith, v.next_pass (omega arith), v.above t (omega arith) v.tail_in)

  -- the reader counts exactly what waits
  pub counts : read_count (s - 1) ring s h r ≡ length ws
  counts =
      count_exact ring s (s - 1) (length ws) h r v.head_in reader_phase_in (omega arith) (omega arith)
      (λ i l. hit i (place s h i) l (wrapped s (h + i) (omega arith)) tail_wrapped)
      (λ l e. miss tail_wrapped (ap (phase_in ring) v.tail_at ∙ e))

  -- and finds exactly that
  pub finds : found ring s h r ≡ ws
  unfolding found
  finds = rw counts v.slots

  -- as many wait as the distance from head to tail
  waiting_is : (d : ℕ) → Wrapped s (h + length ws) t → Distance s h t d → d ≡ length ws
  waiting_is d (low a b) (ahead x e) = omega arith
  waiting_is d (low a b) (around x e) = omega arith
  waiting_is d (high a b c) (ahead x e) = omega arith
  waiting_is d (high a b c) (around x e) = omega arith

  pub waiting_length : distance s h t ≡ length ws
  waiting_length = waiting_is (distance s h t) tail_wrapped (distance_is s h t v.head_in v.tail_in)

  -- ---- a posting

  -- the tail is no slot that waits
  not_tail : (j p : ℕ) → j < length ws → Wrapped s (h + j) p → Wrapped s (h + length ws) t → p ≡ t → ⊥
  not_tail j p l (low a b) (low c d) q = omega arith
  not_tail j p l (low a b) (high c d z) q = omega arith
  not_tail j p l (high a b z) (low c d) q = omega arith
  not_tail j p l (high a b z) (high c d y) q = omega arith

  pub unread : (j : ℕ) → j < length ws → place s h j ≡ t → ⊥
  unread j l = not_tail j (place s h j) l (wrapped s (h + j) (omega arith)) tail_wrapped

  fit : 16 * t + 16 ≤ length ring
  fit = omega arith

  -- whatever is posted there, the slots that wait stay
  pub unread_stays : (e : Completion) (g j : ℕ) → j < length ws → slot_in (posted_in ring t e g) (place s h j) ≡ slot_in ring (place s h j)
  unread_stays e g j l = posted_other ring t e g fit (place s h j) (omega (arith, mod-lt (h + j) {m = s} (omega arith))) (unread j l)

  module _ (e : Completion) (within : Within e) (free : length ws + 1 < s) where
    -- a ring that is not full: the head is not the slot after the tail
    not_behind : Wrapped s (h + length ws) t → h ≡ t + 1 → ⊥
    not_behind (low a b) q = omega arith
    not_behind (high a b z) q = omega arith

    not_over : Wrapped s (h + length ws) t → t + 1 ≡ s → h ≡ 0 → ⊥
    not_over (low a b) q z = omega arith
    not_over (high a b y) q z = omega arith

    more : length (ws ++ e ∷ []) ≡ suc (length ws)
    more = length-append ws (e ∷ []) ∙ omega arith

    phase_tail : phase_in (posted_in ring t e w) t ≡ w
    phase_tail = posted_phase ring t e w fit within v.phase_in_lem

    phase_rest : (i : ℕ) → i < s → (i ≡ t → ⊥) → phase_in (posted_in ring t e w) i ≡ phase_in ring i
    unfolding phase_in
    phase_rest i l ne = rw (posted_other ring t e w fit i (omega arith) ne)

    post_slots : read_slots (length (ws ++ e ∷ [])) (posted_in ring t e w) s h ≡ ws ++ e ∷ []
    post_slots =
        rw (more, slots_last (length ws) (posted_in ring t e w) s h v.head_in, ← v.tail_at, posted_entry ring t e w fit within)
        (ap (λ (x : List Completion). x ++ e ∷ [])
        (slots_same (length ws) ring (posted_in ring t e w) s h v.head_in (unread_stays e w) ∙ v.slots))

    post_at : (t' w' : ℕ) → Step s t w t' w' → t' ≡ place s h (length (ws ++ e ∷ []))
        → Phase s h t' w' r (posted_in ring t e w) (ws ++ e ∷ [])
    post_at t' w' (on a b c) q =
        record {
          sized = posted_length ring t e w fit ∙ v.sized;
          head_in = v.head_in;
          tail_in = omega arith;
          phase_in_lem = omega arith;
          room = omega (arith, more);
          tail_at = q;
          same_pass = λ l. v.same_pass (omega (arith, not_behind tail_wrapped)) ∙ sym c;
          next_pass = λ l. ap (λ (x : ℕ). r + x) c ∙ v.next_pass (omega arith);
          below = λ i l. ⊎_elim (λ (f : i ≡ t). ap (phase_in (posted_in ring t e w)) f ∙ phase_tail ∙ sym c)
              (λ f. phase_rest i (omega arith) f ∙ v.below i (omega arith) ∙ sym c) (same_or_not i t);
          above = λ i k l. ap₂ (λ (x y : ℕ). x + y) (phase_rest i l (omega arith)) c ∙ v.above i (omega arith) l;
          slots = post_slots;
        }
    post_at t' w' (over a b c) q =
        record {
          sized = posted_length ring t e w fit ∙ v.sized;
          head_in = v.head_in;
          tail_in = omega arith;
          phase_in_lem = omega arith;
          room = omega (arith, more);
          tail_at = q;
          same_pass = λ l. absurd (not_over tail_wrapped a (omega arith));
          next_pass = λ l. omega (arith, v.same_pass (omega arith));
          below = λ i l. omega arith;
          above = λ i k l. ⊎_elim (λ (f : i ≡ t). omega (arith, ap (phase_in (posted_in ring t e w)) f, phase_tail))
              (λ (f : i ≡ t → ⊥). omega (arith, phase_rest i l f, v.below i (omega arith))) (same_or_not i t);
          slots = post_slots;
        }

    -- a posting at the tail: the entry waits last
    pub post : Phase s h (next s t) (phase_after s t w) r (posted_in ring t e w) (ws ++ e ∷ [])
    post = post_at (next s t) (phase_after s t w) (step s t w v.tail_in) (rw (v.tail_at, more) (place_next s h (length ws)))

  -- ---- a head write

  module _ (u : ℕ) (in-ring : u < s) where
    move_same : (d : ℕ) → Distance s h u d → d ≤ length ws → Wrapped s (h + length ws) t → u ≤ t → pick (ltb u h) (1 - r) r ≡ w
    move_same d (ahead x e) l (low a b) k = rw (le-ltb u h x) (v.same_pass (omega arith))
    move_same d (ahead x e) l (high a b c) k = omega arith
    move_same d (around x e) l (low a b) k = omega arith
    move_same d (around x e) l (high a b c) k = rw (lt-ltb u h x) (omega (arith, v.next_pass (omega arith)))

    move_next : (d : ℕ) → Distance s h u d → d ≤ length ws → Wrapped s (h + length ws) t → t < u → pick (ltb u h) (1 - r) r + w ≡ 1
    move_next d (ahead x e) l (low a b) k = omega arith
    move_next d (ahead x e) l (high a b c) k = rw (le-ltb u h x) (v.next_pass (omega arith))
    move_next d (around x e) l (low a b) k = omega arith
    move_next d (around x e) l (high a b c) k = omega arith

    move_at : (d : ℕ) → Distance s h u d → d ≤ length ws → Phase s u t w (pick (ltb u h) (1 - r) r) ring (drop d ws)
    move_at d x l =
        record {
          sized = v.sized;
          head_in = in-ring;
          tail_in = v.tail_in;
          phase_in_lem = v.phase_in_lem;
          room = omega (arith, length-drop d ws);
          tail_at =
              sym (ap₂ (λ (y z : ℕ). (y + z) % s) (sym (distance_back s h u d in-ring x)) (length-drop d ws)
              ∙ mod-add-mod (h + d) s (length ws - d)
              ∙ ap (λ (y : ℕ). y % s) (omega arith)
              ∙ sym v.tail_at);
          same_pass = move_same d x l tail_wrapped;
          next_pass = move_next d x l tail_wrapped;
          below = v.below;
          above = v.above;
          slots =
              rw (length-drop d ws, ← (distance_back s h u d in-ring x), ← (slots_drop d (length ws) ring s h v.head_in l))
              (ap (drop d) v.slots);
        }

    -- a head write that is accepted: as many as its distance leave, and a value below the head turns the reader's phase tag
    pub move : distance s h u ≤ distance s h t → Phase s u t w (pick (ltb u h) (1 - r) r) ring (drop (distance s h u) ws)
    move valid = move_at (distance s h u) (distance_is s h u v.head_in in-ring) (omega (arith, waiting_length))
