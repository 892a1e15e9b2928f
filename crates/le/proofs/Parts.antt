-- Laws of a part of a memory, and of what bytes that are put in leave. Assumes nothing.
use mathlib.Core.Path.{◌≡◌, refl, sym, ap, ◌∙◌}
use mathlib.Core.List.{List, ◌++◌, append-nil, append_assoc}
use mathlib.Core.Logic.{◌⊎◌, inl, inr, ⊎_elim}
use Prim.Native.Nat.{ℕ, ◌+◌, ◌-◌, ◌<◌, ◌≤◌}
use native.Mathlib.Nat.{le_of_eq}
use native.Mathlib.Omega.{arith}
use lib.ListN.{length, take, drop, get_or, length-append, length-take, length-drop, drop_of_length-le, get_or-append}
use lib.Seq.{length-take-le, get_or-append-add, get_or-take, get_or-drop, ext_get_or, take_all, take-add, drop-drop, sets, sets-eq}
use Rattle.rules.proofs.Tests.{lt_or_ge}
use Rattle.le.specs.Memory.{part, put}

-- stores of bytes one after the other put them in
pub sets_put : (m : List ℕ) (place : ℕ) (b : List ℕ) → place + length b ≤ length m → sets m place b ≡ put m place b
unfolding put
sets_put m place b fit = sets-eq b m place fit ∙ append_assoc (take place m) b (drop (place + length b) m)

-- the rest of a slice from a place on, as the borrow checker has it
pub rest_part : (o : ℕ) (m : List ℕ) → take (length m - o) (drop o m) ≡ drop o m
rest_part o m = take_all (length m - o) (drop o m) (le_of_eq (length-drop o m))

pub rest_put : (o : ℕ) (m b : List ℕ) → take o m ++ (b ++ drop (length m - o) (drop o m)) ≡ take o m ++ b
rest_put o m b =
    ap (λ (l : List ℕ). take o m ++ l)
    (ap (λ (l : List ℕ). b ++ l) (drop_of_length-le (drop o m) (le_of_eq (length-drop o m))) ∙ append-nil b)

pub part_length : (m : List ℕ) (place n : ℕ) → place + n ≤ length m → length (part m place n) ≡ n
unfolding part
part_length m place n h = simp (length-take, length-drop) (omega arith)

pub part_get_d : (m : List ℕ) (place n i : ℕ) → i < n → get_or (part m place n) i 0 ≡ get_or m (place + i) 0
unfolding part
part_get_d m place n i h = get_or-take n (drop place m) i 0 h ∙ get_or-drop place m i 0

-- two parts, one after the other, are one
pub part_add : (m : List ℕ) (i j k : ℕ) → part m i j ++ part m (i + j) k ≡ part m i (j + k)
unfolding part
part_add m i j k = rw (take-add j k (drop i m), drop-drop)

-- an element past the seam of two lists
past : (xs ys : List ℕ) (n k i : ℕ) → length xs ≡ n → i ≡ n + k → get_or (xs ++ ys) i 0 ≡ get_or ys k 0
past xs ys n k i e d = ap (λ (j : ℕ). get_or (xs ++ ys) j 0) (d ∙ ap (λ (j : ℕ). j + k) (sym e)) ∙ get_or-append-add xs ys k 0

module _ (m : List ℕ) (place : ℕ) (b : List ℕ) (fit : place + length b ≤ length m) where
  pub put_length : length (put m place b) ≡ length m
  unfolding put
  put_length = simp (length-append, length-take, length-drop) (omega arith)

  front : length (take place m) ≡ place
  front = length-take-le place m (omega arith)

  -- the bytes put in
  pub put_in : (k : ℕ) → k < length b → get_or (put m place b) (place + k) 0 ≡ get_or b k 0
  unfolding put
  put_in k h =
      past (take place m) (b ++ drop (place + length b) m) place k (place + k) front refl
      ∙ get_or-append b (drop (place + length b) m) 0 k h

  -- the bytes before and after
  pub put_out : (i : ℕ) → ((i < place) ⊎ (place + length b ≤ i)) → get_or (put m place b) i 0 ≡ get_or m i 0
  unfolding put
  put_out i (inl h) = get_or-append (take place m) (b ++ drop (place + length b) m) 0 i (omega (arith, front)) ∙ get_or-take place m i 0 h
  put_out i (inr h) =
      past (take place m) (b ++ drop (place + length b) m) place (i - place) i front (omega arith)
      ∙ past b (drop (place + length b) m) (length b) (i - place - length b) (i - place) refl (omega arith)
      ∙ get_or-drop (place + length b) m (i - place - length b) 0
      ∙ ap (λ (k : ℕ). get_or m k 0) (omega arith)

  -- a part that holds none of the bytes put in
  pub part_out : (lo n : ℕ) → lo + n ≤ length m → ((lo + n ≤ place) ⊎ (place + length b ≤ lo)) → part (put m place b) lo n ≡ part m lo n
  part_out lo n l h =
      let len : length (part (put m place b) lo n) ≡ n = part_length (put m place b) lo n (omega (arith, put_length)) in
      ext_get_or 0 (part (put m place b) lo n) (part m lo n) (len ∙ sym (part_length m lo n l))
      (λ i j. let k : i < n = omega arith in
      part_get_d (put m place b) lo n i k
      ∙ put_out (lo + i) (⊎_elim (λ a. inl (omega arith)) (λ a. inr (omega arith)) h)
      ∙ sym (part_get_d m lo n i k))

  -- the part that is the bytes put in
  pub part_put : part (put m place b) place (length b) ≡ b
  part_put =
      let len : length (part (put m place b) place (length b)) ≡ length b = part_length (put m place b) place (length b)
      (omega (arith, put_length)) in
      ext_get_or 0 (part (put m place b) place (length b)) b len
      (λ i j. let k : i < length b = omega arith in part_get_d (put m place b) place (length b) i k ∙ put_in i k)

-- a part that holds all of the bytes put in
module _ (m b : List ℕ) (lo n k : ℕ) (l : lo + n ≤ length m) (h : k + length b ≤ n) where
  fits : lo + k + length b ≤ length m
  fits = omega arith

  inner : k + length b ≤ length (part m lo n)
  inner = omega (arith, part_length m lo n l)

  len : length (part (put m (lo + k) b) lo n) ≡ n
  len = part_length (put m (lo + k) b) lo n (omega (arith, put_length m (lo + k) b fits))

  out : (i : ℕ) → i < n → ((i < k) ⊎ (k + length b ≤ i)) → get_or (part (put m (lo + k) b) lo n) i 0 ≡ get_or (put (part m lo n) k b) i 0
  out i u w =
      part_get_d (put m (lo + k) b) lo n i u
      ∙ put_out m (lo + k) b fits (lo + i) (⊎_elim (λ a. inl (omega arith)) (λ a. inr (omega arith)) w)
      ∙ sym (put_out (part m lo n) k b inner i w ∙ part_get_d m lo n i u)

  inside : (i : ℕ) → i < n → k ≤ i → i < k + length b → get_or (part (put m (lo + k) b) lo n) i 0 ≡ get_or (put (part m lo n) k b) i 0
  inside i u v w =
      part_get_d (put m (lo + k) b) lo n i u
      ∙ ap (λ (x : ℕ). get_or (put m (lo + k) b) x 0) (omega arith)
      ∙ put_in m (lo + k) b fits (i - k) (omega arith)
      ∙ sym (put_in (part m lo n) k b inner (i - k) (omega arith))
      ∙ ap (λ (x : ℕ). get_or (put (part m lo n) k b) x 0) (omega arith)

  pub part_in : part (put m (lo + k) b) lo n ≡ put (part m lo n) k b
  part_in =
      ext_get_or 0 (part (put m (lo + k) b) lo n) (put (part m lo n) k b)
      (len ∙ sym (put_length (part m lo n) k b inner ∙ part_length m lo n l))
      (λ i j. let u : i < n = omega (arith, len) in
      ⊎_elim (λ a. out i u (inl a)) (λ a. ⊎_elim (λ c. inside i u a c) (λ c. out i u (inr c)) (lt_or_ge i (k + length b))) (lt_or_ge i k))
