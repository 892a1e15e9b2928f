-- The records of traces: one for each begun 16 bytes, all whole but the last, and joined where traces are. Assumes nothing.
use Prim.Native.Nat.{ℕ, zero, suc, ◌+◌, ◌*◌, ◌%◌, ◌/◌, ◌<◌, ◌≤◌}
use mathlib.Core.List.{List, [], ◌∷◌, ◌++◌}
use mathlib.Core.Path.{◌≡◌, refl, sym, ap, ◌∙◌}
use native.Mathlib.Nat.{zero-add, suc-add}
use native.Mathlib.Omega.{arith}
use lib.ListN.{length, take, drop, length-append, length-take, length-drop}
use lib.Seq.{take-append-le, drop-append-le}
use Rattle.trace.specs.Trace.{begun, first_records, records}
use Rattle.trace.proofs.Cutting.{count}

-- as many as fill the bytes, the last perhaps in part
pub begun_exact : (n : ℕ) → (n ≤ 16 * begun n) × (16 * begun n < n + 16)
unfolding begun
begun_exact n = (omega arith, omega arith)

-- one for each begun record
pub one_each : (t : List ℕ) → length (records t) ≡ begun (length t)
unfolding records
one_each t = count (begun (length t)) t

no_bytes : (s : List ℕ) → length s ≡ 0 → s ≡ []
no_bytes [] e = refl
no_bytes (x ∷ s) e = absurd (omega (arith, e))

first_join : (k n : ℕ) (s t : List ℕ) → length s ≡ 16 * k → first_records (k + n) (s ++ t) ≡ first_records k s ++ first_records n t
first_join zero n s t e = rw (no_bytes s (omega (arith, e)), zero-add n)
first_join (suc k) n s t e =
    let h : 16 ≤ length s = omega (arith, e) in
    let ih : first_records (k + n) (drop 16 s ++ t) ≡ first_records k (drop 16 s) ++ first_records n t =
    first_join k n (drop 16 s) t (length-drop 16 s ∙ omega (arith, e)) in
    rw (suc-add, take-append-le 16 s t h, drop-append-le 16 s t h, ih)

-- two traces joined at a record's end
pub records_join : (s t : List ℕ) → length s % 16 ≡ 0 → records (s ++ t) ≡ records s ++ records t
unfolding records begun
records_join s t e =
    let k = length s / 16 in
    let sized : length s ≡ 16 * k = omega arith in
    let b : begun (length (s ++ t)) ≡ k + begun (length t) = rw (length-append s t) (omega arith) in
    let a : begun (length s) ≡ k = omega arith in
    rw (b, a) (first_join k (begun (length t)) s t sized)

-- a short record is the last
module _ (r : List ℕ) (ys : List (List ℕ)) (short : length r < 16) where
  last_of : (n : ℕ) (t : List ℕ) (xs : List (List ℕ)) → n ≡ begun (length t) → first_records n t ≡ xs ++ r ∷ ys → ys ≡ []
  unfolding begun
  last_of zero t xs b e =
      let n : length xs + suc (length ys) ≡ 0 = sym (length-append xs (r ∷ ys)) ∙ ap length (sym e) in
      absurd (omega (arith, n))
  last_of (suc n) t [] b e =
      let f : take 16 t ≡ r = cc in
      let g : first_records n (drop 16 t) ≡ ys = cc in
      let few : length t < 16 = omega (arith, short, ap length f, length-take 16 t) in
      let z : n ≡ 0 = omega (arith, b, few) in
      sym g ∙ ap (λ k. first_records k (drop 16 t)) z
  last_of (suc n) t (x ∷ xs) b e = last_of n (drop 16 t) xs (omega (arith, b, length-drop 16 t)) (cc)

  pub short_last : (t : List ℕ) (xs : List (List ℕ)) → records t ≡ xs ++ r ∷ ys → ys ≡ []
  unfolding records
  short_last t xs e = last_of (begun (length t)) t xs refl e
