-- What a reader may ask of the pages touched and of the byte counts: the pages are those on which the bytes lie, and the counts say how
-- many lie on each. Assumes nothing.
use Prim.Native.Nat.{ℕ, zero, suc, ◌+◌, ◌-◌, ◌*◌, ◌/◌, ◌%◌, ◌≤◌, ◌<◌, min}
use mathlib.Core.Path.{◌≡◌}
use mathlib.Core.List.{List, [], ◌∷◌}
use native.Mathlib.Nat.{div-mul-le_self, le-div_iff_mul-le, lt-div-mul-add, mul-div_cancel, add-mul, suc-mul, mod-lt, div-add-mod'}
use native.Mathlib.Omega.{arith}
use lib.ListN.{get_or, take}
use Rattle.prp.specs.Pages.{pages_touched, split, byte_counts}
use Rattle.prp.proofs.Touched.{by_offset}

-- the sum of a list
abbrev pub total : List ℕ → ℕ
total [] = 0
total (x ∷ xs) = x + total xs

split_total : (page room len n : ℕ) → len ≤ room + n * page → total (split page room len (suc n)) ≡ len
unfolding split
split_total page room len zero h = omega arith
split_total page room len (suc n) h =
    omega (arith, suc-mul n page, split_total page page (len - min room len) n (omega (arith, suc-mul n page)))

split_full :
    (page room len n i : ℕ) → i < n → room + i * page ≤ len → total (take (suc i) (split page room len n)) ≡ room + i * page
unfolding split
split_full page room len zero i l h = absurd (omega arith)
split_full page room len (suc n) zero l h = omega arith
split_full page room len (suc n) (suc i) l h =
    omega (arith, suc-mul i page, split_full page page (len - min room len) n i (omega arith) (omega (arith, suc-mul i page)))

split_within : (page room len n i : ℕ) → room ≤ page → get_or (split page room len n) i 0 ≤ page
unfolding split
split_within page room len zero i h = omega arith
split_within page room len (suc n) zero h = omega arith
split_within page room len (suc n) (suc i) h = split_within page page (len - min room len) n i (omega arith)

module _ (page prp1 len : ℕ) (low : 4096 ≤ page) where
  pos : 0 < page
  pos = omega arith

  -- no byte count is above the page size
  pub counts_within : (n i : ℕ) → get_or (byte_counts page prp1 len n) i 0 ≤ page
  unfolding byte_counts
  counts_within n i = split_within page (page - prp1 % page) len n i (omega arith)

  module _ (some : 0 < len) where
    -- the byte counts of the pages touched add up to the length
    pub counts_total : total (byte_counts page prp1 len (pages_touched page prp1 len)) ≡ len
    unfolding byte_counts
    counts_total =
        let n = (prp1 % page + len - 1) / page in
        let touched : pages_touched page prp1 len ≡ suc n = omega (arith, by_offset page prp1 len low some) in
        let room : len ≤ page - prp1 % page + n * page = omega (arith, mod-lt prp1 pos, lt-div-mul-add {a = prp1 % page + len - 1} pos) in
        rw touched (split_total page (page - prp1 % page) len n room)

    -- and the pages before another one are filled up to where that one begins
    pub counts_before :
        (i : ℕ) → suc i < pages_touched page prp1 len →
        prp1 + total (take (suc i) (byte_counts page prp1 len (pages_touched page prp1 len))) ≡ (prp1 / page + suc i) * page
    unfolding byte_counts
    counts_before i h =
        let room = page - prp1 % page in
        let x = prp1 % page + len - 1 in
        let whole : suc i * page ≤ x = (le-div_iff_mul-le pos).0 (omega (arith, by_offset page prp1 len low some)) in
        let full =
        split_full page room len (pages_touched page prp1 len) i (omega arith) (omega (arith, suc-mul i page, mod-lt prp1 pos)) in
        omega (arith, full, add-mul (prp1 / page) (suc i) page, suc-mul i page, mod-lt prp1 pos, div-add-mod' prp1 page)

    -- each byte lies on one of the pages touched, counted from the page of the first
    pub covered : (b : ℕ) → prp1 ≤ b → b < prp1 + len → (prp1 / page ≤ b / page) × (b / page < prp1 / page + pages_touched page prp1 len)
    unfolding pages_touched
    covered b l h =
        let first : prp1 / page ≤ b / page = (le-div_iff_mul-le pos).1 (omega (arith, div-mul-le_self prp1 page)) in
        let last : b / page ≤ (prp1 + len - 1) / page = (le-div_iff_mul-le pos).1 (omega (arith, div-mul-le_self b page)) in
        (first, omega arith)

    -- and on each of them lies a byte
    pub touched : (i : ℕ) → i < pages_touched page prp1 len → (b : ℕ) × (prp1 ≤ b) × (b < prp1 + len) × (b / page ≡ prp1 / page + i)
    unfolding pages_touched
    touched zero h = (prp1, omega arith, omega arith, omega arith)
    touched (suc i) h =
        let b = (prp1 / page + suc i) * page in
        let from : prp1 ≤ b = omega (arith, add-mul (prp1 / page) (suc i) page, suc-mul i page, lt-div-mul-add {a = prp1} pos) in
        let high : b ≤ prp1 + len - 1 = (le-div_iff_mul-le pos).0 (omega arith) in
        (b, from, omega arith, mul-div_cancel (prp1 / page + suc i) pos)
