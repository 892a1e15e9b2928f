-- Laws of the numbers that a page walk leaves. Assumes nothing.
use mathlib.Core.Path.{◌≡◌, refl, sym, ap, ◌∙◌}
use mathlib.Core.Bool.{Bool, true, false, ◌&&◌}
use mathlib.Core.List.{List, [], ◌∷◌, ◌++◌, append_assoc}
use Prim.Native.Nat.{ℕ, zero, suc, ◌+◌, ◌-◌, ◌*◌, ◌%◌, ◌^◌, ◌≤◌, ◌<◌}
use native.Mathlib.Nat.{mul-zero, mul-suc}
use native.Mathlib.Numerals.{add-one}
use native.Mathlib.Omega.{arith}
use lib.Dec.{ltb, eqb}
use lib.ListN.{length, get_or, set, take, drop}
use lib.Seq.{sets, sets-eq, length-take-le, take_at, drop_at, drop-drop}
use Rattle.std.specs.Prelude.{Result, Ok, Err}
use Rattle.rules.specs.Rules.{pick, settle, first_match}
use Rattle.le.specs.Le.{le, le_at}
use Rattle.le.specs.Memory.{Memory, Bytes, put}
use Rattle.le.proofs.Numbers.{length_le, le_at_lt, le_at_field}
use Rattle.prp.specs.Pages.{most_pages, page_size, pages_touched, byte_counts, split}
use Rattle.prp.specs.Walk.{Walk, refused, found, after, in_memory, last_of_page, read_entry, list, data_pages, before_walk, page_walk}
use Rattle.prp.specs.Answer.{answer, refusal_of, pages_of, reads_of, addresses_of, numbers}
use Rattle.prp.specs.declared.Walked.{Walked}
use Rattle.prp.proofs.Touched.{page_low, page_high, by_offset, touched_most}
use Rattle.prp.proofs.Counts.{counts_length}
use Rattle.prp.proofs.Facts.{counts_within}
use Rattle.prp.proofs.Outcomes.{complete}
use Rattle.print.specs.Put.{Put}
use Rattle.print.proofs.Puts.{put_then, put_as}
use Rattle.language.specs.declared.command.Command.TheVariants as K
use Rattle.language.specs.Vocabulary.{form, walk_bytes}
use Rattle.language.specs.Replies.{told}
use Rattle.language.specs.Commands.{nth, in_turn, walked}
use Rattle.stateless.specs.Leaving.{Narrow, firsts, readings}

-- ---- the numbers, put by two

module _ (a c : List ℕ) where
  -- address and count of k pages from page i on
  unfoldable pub pairs : ℕ → ℕ → List ℕ
  pairs i k = in_turn (readings 8 i k a) (readings 4 i k c)

  pairs_length : (i k : ℕ) → length (pairs i k) ≡ 2 * k
  unfolding pairs
  pairs_length i zero = refl
  pairs_length i (suc k) = omega (arith, pairs_length (suc i) k)

  -- one more is put
  pub pairs_more : (l : List ℕ) (to i n : ℕ) {x y : ℕ} → i < n → x ≡ le_at 8 a (8 * i) → y ≡ le_at 4 c (4 * i)
      → sets (set (set l to x) (to + 1) y) (to + 2) (pairs (i + 1) (n - (i + 1))) ≡ sets l to (pairs i (n - i))
  unfolding pairs
  pairs_more l to i n h p q =
      let e : n - i ≡ suc (n - (i + 1)) = omega arith in
      let t : to + 2 ≡ suc (suc to) = omega arith in
      rw (e, add-one to, t, add-one i, p, q)

  -- all are
  pub pairs_done : (l₀ l : List ℕ) (place to i n : ℕ) → n ≤ i → i ≤ n → to ≡ place + 2 * i
      → sets l to (pairs i (n - i)) ≡ sets l₀ place (pairs 0 n) → Put l₀ place (pairs 0 n) l to
  unfolding pairs
  pairs_done l₀ l place to i n h g t e =
      let z : n - i ≡ 0 = omega arith in
      record {
        holds = sym (ap (λ (k : ℕ). sets l to (pairs i k)) z) ∙ e;
        ends = omega (arith, pairs_length 0 n);
      }

-- ---- the answer of a walk

-- its numbers, given what stands in its buffers
abbrev pub walk_numbers : Result Walked ℕ → List ℕ → List ℕ → List ℕ
walk_numbers w a c = refusal_of w ∷ pages_of w ∷ reads_of w ∷ in_turn (readings 8 0 (pages_of w) a) (readings 4 0 (pages_of w) c)

module _ (a c : List ℕ) {w : Result Walked ℕ} {o o₁ : List ℕ} {p : ℕ} where
  -- the pages put behind three numbers
  pub pages_put : {x : Walked} {e : ℕ} {o₂ : List ℕ} → w ≡ Ok x → Put o 0 (0 ∷ x.pages ∷ x.reads ∷ []) o₁ p
      → Put o₁ p (in_turn (readings 8 0 x.pages a) (readings 4 0 x.pages c)) o₂ e → Put o 0 (walk_numbers w a c) o₂ e
  pages_put is f g = put_as (put_then f g) (sym (ap (λ (x : Result Walked ℕ). walk_numbers x a c) is))

  -- and none behind those of a refusal
  pub refusal_put : {n : ℕ} → w ≡ Err n → Put o 0 (n ∷ 0 ∷ 0 ∷ []) o₁ p → Put o 0 (walk_numbers w a c) o₁ p
  refusal_put is f = put_as f (sym (ap (λ (x : Result Walked ℕ). walk_numbers x a c) is))

numbers_length : (w : Result Walked ℕ) (a c : List ℕ) → length (walk_numbers w a c) ≡ 3 + 2 * pages_of w
unfolding pairs
numbers_length w a c = omega (arith, pairs_length a c 0 (pages_of w))

-- what was put at the start is what stands there
pub put_first : {o o₁ t : List ℕ} {n : ℕ} → Put o 0 t o₁ n → length t ≤ length o → take n o₁ ≡ t
put_first {o} {o₁} {t} {n} p h =
    let f : 0 + length t ≤ length o = omega arith in
    ap (take n) (p.holds ∙ sets-eq t o 0 f) ∙ take_at t (drop (0 + length t) o) n (omega (arith, p.ends))

-- ---- addresses fit

-- every element is below n
abbrev Below : ℕ → List ℕ → Type 0
Below n l = (i : ℕ) → get_or l i 0 < n

below_append : (n : ℕ) (l k : List ℕ) → Below n l → Below n k → Below n (l ++ k)
below_append n [] k g h i = h i
below_append n (x ∷ l) k g h zero = g 0
below_append n (x ∷ l) k g h (suc i) = below_append n l k (λ j. g (suc j)) h i

-- what a walk has found is below 2 to the power 64
unfoldable Fits : Walk → Type 0
Fits (refused x) = Unit
Fits (found l reads) = Below (256 ^ 8) l

fits_pick : (t : Bool) (v w : Walk) → Fits v → Fits w → Fits (pick t v w)
fits_pick true v w g h = g
fits_pick false v w g h = h

fits_after : (l : List ℕ) (n : ℕ) (w : Walk) → Below (256 ^ 8) l → Fits w → Fits (after l n w)
unfolding Fits after
fits_after l n (refused x) g h = tt
fits_after l n (found k reads) g h = below_append (256 ^ 8) l k g h

one_below : (n x : ℕ) → x < n → Below n (x ∷ [])
one_below n x h zero = h
one_below n x h (suc i) = omega arith

module _ (m : Memory) (bytes : Bytes m) where
  fits_entry : (page a : ℕ) (next : ℕ → Walk) → ((x : ℕ) → x < 256 ^ 8 → Fits (next x)) → Fits (read_entry page m a next)
  unfolding read_entry Fits
  fits_entry page a next h =
      let x = le_at 8 m a in
      fits_pick (in_memory m a) _ (refused 19)
      (fits_pick (eqb (x % page) 0) _ (refused 18) (fits_after [] 1 (next x) (λ i. omega arith) (h x (le_at_lt 8 m a bytes))) tt) tt

  fits_data : (page n b : ℕ) → ((a : ℕ) → Fits (list page m n a))
      → Fits (read_entry page m b (λ x. after (x ∷ []) 0 (list page m n (b + 8))))
  fits_data page n b h = fits_entry page b _ (λ x l. fits_after (x ∷ []) 0 _ (one_below (256 ^ 8) x l) (h (b + 8)))

  fits_list : (page n a : ℕ) → Fits (list page m n a)
  unfolding list Fits
  fits_list page zero a = λ i. omega arith
  fits_list page (suc n) a =
      fits_pick (last_of_page page a && ltb 1 (suc n)) _ _ (fits_entry page a _ (λ b l. fits_data page n b (fits_list page n)))
      (fits_data page n a (fits_list page n))

  module _ (prp1 prp2 : ℕ) (low1 : prp1 < 256 ^ 8) (low2 : prp2 < 256 ^ 8) where
    both_below : Below (256 ^ 8) (prp1 ∷ prp2 ∷ [])
    both_below zero = low1
    both_below (suc i) = one_below (256 ^ 8) prp2 low2 i

    fits_pages : (page n : ℕ) → Fits (data_pages page m prp1 prp2 n)
    unfolding data_pages Fits
    fits_pages page n =
        fits_pick (eqb n 1) _ _ (one_below (256 ^ 8) prp1 low1)
        (fits_pick (eqb n 2) _ _ (fits_pick (eqb (prp2 % page) 0) _ (refused 18) both_below tt)
        (fits_pick (eqb (prp2 % 8) 0) _ (refused 18)
        (fits_after (prp1 ∷ []) 0 _ (one_below (256 ^ 8) prp1 low1) (fits_list page (n - 1) prp2)) tt))

    fits_walk : (len k address_room count_room : ℕ) → Fits (page_walk m prp1 prp2 len k address_room count_room)
    unfolding page_walk settle Fits
    fits_walk len k address_room count_room =
        let x = first_match (before_walk prp1 len k address_room count_room) in
        let pages = data_pages (page_size k) m prp1 prp2 (pages_touched (page_size k) prp1 len) in
        fits_pick (eqb x 0) pages (refused x) (fits_pages (page_size k) (pages_touched (page_size k) prp1 len)) tt

-- ---- the buffers read back

-- numbers that stand from number i on
readings_from : (w i : ℕ) (b xs q : List ℕ) → drop (w * i) b ≡ numbers w xs ++ q → Below (256 ^ w) xs → readings w i (length xs) b ≡ xs
unfolding numbers
readings_from w i b [] q e h = refl
readings_from w i b (x ∷ xs) q e h =
    let rest = numbers w xs ++ q in
    let at_i : drop (w * i) b ≡ le w x ++ rest = e ∙ append_assoc (le w x) (numbers w xs) q in
    let place : w * suc i ≡ w * i + w = mul-suc w i in
    let next : drop (w * suc i) b ≡ rest =
    ap (λ (n : ℕ). drop n b) place ∙ sym (drop-drop w (w * i) b) ∙ ap (drop w) at_i ∙ drop_at (le w x) rest w (length_le w x) in
    rw (le_at_field w x (w * i) b rest at_i (h 0), readings_from w (suc i) b xs q next (λ j. h (suc j)))

-- numbers that were put at the start, whatever stands behind them
read_back : (w : ℕ) (old rest xs : List ℕ) → Below (256 ^ w) xs → readings w 0 (length xs) (put old 0 (numbers w xs) ++ rest) ≡ xs
unfolding put
read_back w old rest xs h =
    readings_from w 0 _ xs _ (ap (λ (n : ℕ). drop n (put old 0 (numbers w xs) ++ rest)) (mul-zero w) ∙ append_assoc (numbers w xs) _
    rest) h

-- ---- the whole walk

module _ (m : Memory) (prp1 prp2 len k address_room count_room : ℕ) where
  abbrev walk : Walk
  walk = page_walk m prp1 prp2 len k address_room count_room

  abbrev counts : List ℕ
  counts = byte_counts (page_size k) prp1 len (pages_of (answer walk))

  -- no more pages than a transfer touches
  few : pages_of (answer walk) ≤ most_pages
  unfolding answer
  few = by walk refl
    where
      by : (w : Walk) → walk ≡ w → pages_of (answer w) ≤ most_pages
      by (refused x) e = omega arith
      by (found l reads) e =
          let g = complete m prp1 prp2 len k address_room count_room e in
          let right = g.0.right in
          let same = by_offset (page_size k) prp1 len (page_low k) right.0 in
          omega (arith, g.1.many, same, touched_most (page_size k) prp1 len (page_low k) right.0 right.1)

  read_addresses : Bytes m → prp1 < 256 ^ 8 → prp2 < 256 ^ 8 → (old rest : List ℕ)
      → readings 8 0 (pages_of (answer walk)) (put old 0 (numbers 8 (addresses_of walk)) ++ rest) ≡ addresses_of walk
  unfolding answer addresses_of Fits
  read_addresses bytes low1 low2 old rest = by walk (fits_walk m bytes prp1 prp2 low1 low2 len k address_room count_room)
    where
      by : (w : Walk) → Fits w → readings 8 0 (pages_of (answer w)) (put old 0 (numbers 8 (addresses_of w)) ++ rest) ≡ addresses_of w
      by (refused x) h = refl
      by (found l reads) h = read_back 8 old rest l h

  read_counts : (old rest : List ℕ) → readings 4 0 (pages_of (answer walk)) (put old 0 (numbers 4 counts) ++ rest) ≡ counts
  unfolding answer byte_counts split
  read_counts old rest = by walk refl
    where
      by : (w : Walk) → walk ≡ w → let cs = byte_counts (page_size k) prp1 len (pages_of (answer w)) in
          readings 4 0 (pages_of (answer w)) (put old 0 (numbers 4 cs) ++ rest) ≡ cs
      by (refused x) e = refl
      by (found l reads) e =
          let cs = byte_counts (page_size k) prp1 len (length l) in
          let size = (complete m prp1 prp2 len k address_room count_room e).0.size in
          let low : Below (256 ^ 4) cs =
          λ i. omega (arith, counts_within (page_size k) prp1 len (page_low k) (length l) i, page_high k size) in
          ap (λ (n : ℕ). readings 4 0 n (put old 0 (numbers 4 cs) ++ rest)) (sym (counts_length (page_size k) prp1 len (length l)))
          ∙ read_back 4 old rest cs low

  numbers_read : Bytes m → prp1 < 256 ^ 8 → prp2 < 256 ^ 8 → (a a₁ c c₁ : List ℕ)
      → walk_numbers (answer walk) (put a 0 (numbers 8 (addresses_of walk)) ++ a₁) (put c 0 (numbers 4 counts) ++ c₁)
      ≡ refusal_of (answer walk) ∷ pages_of (answer walk) ∷ reads_of (answer walk) ∷ in_turn (addresses_of walk) counts
  numbers_read bytes low1 low2 a a₁ c c₁ = rw (read_addresses bytes low1 low2 a a₁, read_counts c c₁)

-- ---- the command, with the numbers of its line, walking into the first parts of two buffers

module _ (m : Memory) (ns xs ys : List ℕ) (narrow : Narrow (form K.Walk).largest 0 ns) (in-xs : walk_bytes ≤ length xs)
    (in_ys : walk_bytes ≤ length ys) where
  -- the walk that the line asks for, with so much room
  abbrev by_line : ℕ → ℕ → Walk
  by_line address_room count_room = page_walk m (nth ns 0) (nth ns 1) (nth ns 2) (nth ns 3) address_room count_room

  -- as the borrow checker has the rooms
  abbrev parted : Walk
  parted = by_line (length (take (nth ns 4) xs)) (length (take (nth ns 5) ys))

  same : parted ≡ by_line (nth ns 4) (nth ns 5)
  same =
      let a : nth ns 4 ≤ length xs = omega arith in
      let c : nth ns 5 ≤ length ys = omega arith in
      rw (length-take-le (nth ns 4) xs a, length-take-le (nth ns 5) ys c)

  pub walk_few : {r : Result Walked ℕ} → r ≡ answer parted → pages_of r ≤ most_pages
  walk_few e = rw (e, same) (few m (nth ns 0) (nth ns 1) (nth ns 2) (nth ns 3) (nth ns 4) (nth ns 5))

  -- the numbers put are those that the command says
  pub walk_says : {r : Result Walked ℕ} {o o₁ a c : List ℕ} {n : ℕ} → Bytes m → 3 + 2 * most_pages ≤ length o
      → r ≡ answer parted → a ≡ put (take (nth ns 4) xs) 0 (numbers 8 (addresses_of parted))
      → c ≡ put (take (nth ns 5) ys) 0 (numbers 4 (byte_counts (page_size (nth ns 3)) (nth ns 0) (nth ns 2) (pages_of r)))
      → Put o 0 (walk_numbers r (a ++ drop (nth ns 4) xs) (c ++ drop (nth ns 5) ys)) o₁ n
      → (told (take n o₁) ≡ walked m (firsts 6 0 ns)) × (n ≤ 3 + 2 * most_pages)
  unfolding walked
  walk_says {r} {o} {o₁} {a} {c} {n} bytes room is a-is c-is p =
      let l = numbers_length r (a ++ drop (nth ns 4) xs) (c ++ drop (nth ns 5) ys) in
      let most = walk_few is in
      let t = put_first p (omega (arith, l, most)) in
      let read =
      numbers_read m (nth ns 0) (nth ns 1) (nth ns 2) (nth ns 3) (nth ns 4) (nth ns 5) bytes (omega arith) (omega arith)
      (take (nth ns 4) xs) (drop (nth ns 4) xs) (take (nth ns 5) ys) (drop (nth ns 5) ys) in
      (ap told (t ∙ rw (a-is, c-is, is, same) read), omega (arith, p.ends, l, most))
