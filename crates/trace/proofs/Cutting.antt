-- A trace cut into records, from a place on. Assumes nothing.
use Prim.Native.Nat.{ℕ, zero, suc, ◌+◌, ◌*◌, ◌-◌, ◌<◌, ◌≤◌}
use mathlib.Core.List.{List, [], ◌∷◌}
use mathlib.Core.Logic.{◌⊎◌, inl, inr, ⊎_elim}
use mathlib.Core.Path.{◌≡◌, refl, sym, ap, ◌∙◌}
use native.Mathlib.Omega.{arith}
use lib.ListN.{length, drop}
use lib.Seq.{drop-drop}
use Rattle.rules.proofs.Tests.{lt_or_ge}
use Rattle.le.specs.Memory.{part}
use Rattle.trace.specs.Trace.{begun, first_records, next_at}

-- the records from a place on
abbrev pub records_from : List ℕ → ℕ → List (List ℕ)
records_from t place = first_records (begun (length t - place)) (drop place t)

pub count : (n : ℕ) (t : List ℕ) → length (first_records n t) ≡ n
count zero t = refl
count (suc n) t = ap suc (count n (drop 16 t))

-- nothing is left at the trace's end
pub at_end : (t : List ℕ) (place : ℕ) → length t ≤ place → records_from t place ≡ []
unfolding begun
at_end t place h = let z : begun (length t - place) ≡ 0 = omega arith in rw z

-- before it, what stands there, and then the records from 16 bytes on
module _ (t : List ℕ) (place : ℕ) where
  -- a whole record, or the last, short one
  whole : place + 16 ≤ length t → records_from t place ≡ part t place 16 ∷ records_from t (place + 16)
  unfolding begun part
  whole h =
      let n : begun (length t - place) ≡ suc (begun (length t - (place + 16))) = omega arith in
      rw (n, drop-drop 16 place t)

  last : place < length t → length t < place + 16 → records_from t place ≡ part t place 16 ∷ records_from t (place + 16)
  unfolding begun part
  last l h =
      let n : begun (length t - place) ≡ 1 = omega arith in
      let z : begun (length t - (place + 16)) ≡ 0 = omega arith in
      rw (n, z)

  pub by_16 : place < length t → records_from t place ≡ part t place 16 ∷ records_from t (place + 16)
  by_16 l = ⊎_elim (last l) whole (lt_or_ge (length t) (place + 16))

  -- those are the records from the next place on
  pub from_next : place < length t → records_from t (next_at t place) ≡ records_from t (place + 16)
  unfolding next_at
  from_next l =
      ⊎_elim (λ h. at_end t (next_at t place) (omega arith) ∙ sym (at_end t (place + 16) (omega arith)))
      (λ h. let e : next_at t place ≡ place + 16 = omega arith in ap (records_from t) e) (lt_or_ge (length t) (place + 16))

  pub unrolled : place < length t → records_from t place ≡ part t place 16 ∷ records_from t (next_at t place)
  unrolled l = rw (from_next l) (by_16 l)

  -- the next place is the next record's, or no record is left
  pub next_place : place < length t → (next_at t place ≡ place + 16) ⊎ (records_from t (next_at t place) ≡ [])
  unfolding next_at
  next_place l =
      ⊎_elim (λ h. inr (at_end t (next_at t place) (omega arith))) (λ h. inl (omega arith)) (lt_or_ge (length t) (place + 16))

  -- 16 bytes for each record from here on are 16 for this one, and enough for each from 16 bytes on, or from the next place on
  pub room_here : place < length t → place + 16 ≤ place + 16 * begun (length t - place)
  unfolding begun
  room_here l = omega arith

  pub room_16 : place < length t → place + 16 + 16 * begun (length t - (place + 16)) ≤ place + 16 * begun (length t - place)
  unfolding begun
  room_16 l = omega arith

  pub room_next : place < length t → next_at t place + 16 * begun (length t - next_at t place) ≤ place + 16 * begun (length t - place)
  unfolding begun next_at
  room_next l = omega arith
