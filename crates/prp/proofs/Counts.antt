-- Laws of how the bytes of a transfer are split over its pages. Assumes nothing.
use Prim.Native.Nat.{ℕ, zero, suc, ◌+◌, ◌-◌, ◌*◌, ◌/◌, ◌%◌, ◌<◌, ◌≤◌, min}
use mathlib.Core.Path.{◌≡◌, refl, ap}
use mathlib.Core.List.{◌∷◌}
use native.Mathlib.Nat.{mod-lt, div-mul-le_self, lt-div-mul-add, suc-mul}
use native.Mathlib.Omega.{arith}
use lib.ListN.{length}
use Rattle.prp.specs.Pages.{pages_touched, split, byte_counts}
use Rattle.prp.proofs.Touched.{by_offset}

split_length : (page room len n : ℕ) → length (split page room len n) ≡ n
unfolding split
split_length page room len zero = refl
split_length page room len (suc n) = ap suc (split_length page page (len - min room len) n)

pub counts_length : (page prp1 len n : ℕ) → length (byte_counts page prp1 len n) ≡ n
unfolding byte_counts
counts_length page prp1 len n = split_length page _ len n

-- the count of the next page, and what is left for those after it
pub split_next :
    (page room len n i : ℕ) {here : ℕ} → i < n → here ≡ min room len →
    split page room len (n - i) ≡ here ∷ split page page (len - here) (n - suc i)
unfolding split
split_next page room len n i h e =
    let more : n - i ≡ suc (n - suc i) = omega arith in
    rw (more, e)

-- Bytes that are left end on the n-th page after one with room for so many of them.
pub record Ends (page room len n : ℕ) : Type 0 where
  pub low : room + n * page < len + page
  pub high : len ≤ room + n * page

pub ends_touched : (page prp1 len : ℕ) → 4096 ≤ page → 0 < len → Ends page (page - prp1 % page) len (pages_touched page prp1 len - 1)
ends_touched page prp1 len low some =
    let pos : 0 < page = omega arith in
    let x = prp1 % page + len - 1 in
    let n : pages_touched page prp1 len - 1 ≡ x / page = omega (arith, by_offset page prp1 len low some) in
    rw n (record {
      low = omega (arith, mod-lt prp1 pos, div-mul-le_self x page);
      high = omega (arith, mod-lt prp1 pos, lt-div-mul-add {a = x} pos);
    })

-- a page that is not the last is full
pub ends_full : {page room len n : ℕ} → 0 < n → Ends page room len n → room < len
ends_full {n = zero} h e = absurd (omega arith)
ends_full {page} {n = suc n} h e = omega (arith, suc-mul n page)

pub ends_next : {page room len n : ℕ} (k : ℕ) → n ≡ suc k → Ends page room len n → Ends page page (len - room) k
ends_next {page} {room} {len} k h e =
    let e' : Ends page room len (suc k) = rw h at e in
    record { low = omega (arith, suc-mul k page); high = omega (arith, suc-mul k page) }

-- the last holds the rest
pub ends_last : {page room len n : ℕ} → n ≡ 0 → Ends page room len n → len ≤ room
ends_last {page} {room} {len} h e =
    let e' : Ends page room len 0 = rw h at e in
    omega arith
