-- Laws of page sizes, and of the number of pages that a transfer touches. Assumes nothing.
use Prim.Native.Nat.{ℕ, ◌+◌, ◌-◌, ◌*◌, ◌/◌, ◌%◌, ◌^◌, ◌≤◌, ◌<◌}
use mathlib.Core.Path.{◌≡◌, refl, sym, ap, ◌∙◌}
use native.Mathlib.Nat.{mod-mod_of_dvd, dvd_of_mod-eq-zero, mul-le-mul_left, mod-lt, mod-add-mod, mod-eq_of_lt}
use native.Mathlib.Nat.{div-lt_iff_lt-mul, div-add-mod', mul-add-div_right}
use native.Mathlib.Omega.{arith}
use lib.Pow.{pow_pos, pow_mono}
use Rattle.prp.specs.Pages.{longest, most_pages, page_size, pages_touched}

-- "Page size is 4,096 times 2 to the power 0 to 4"
pub page_sizes :
    (page_size 0 ≡ 4096) × (page_size 1 ≡ 8192) × (page_size 2 ≡ 16384) × (page_size 3 ≡ 32768) × (page_size 4 ≡ 65536)
unfolding page_size
page_sizes = (refl, refl, refl, refl, refl)

pub page_low : (k : ℕ) → 4096 ≤ page_size k
unfolding page_size
page_low k = omega (arith, pow_pos k)

pub page_high : (k : ℕ) → k ≤ 4 → page_size k ≤ 65536
unfolding page_size
page_high k h = mul-le-mul_left 4096 (pow_mono h)

-- 8 divides a page size
pub page_eight : (k a : ℕ) → (page_size k % 8 ≡ 0) × (a % page_size k % 8 ≡ a % 8)
unfolding page_size
page_eight k a =
    let eighth : 4096 * 2 ^ k % 8 ≡ 0 = omega arith in
    (eighth, mod-mod_of_dvd 8 a (dvd_of_mod-eq-zero 8 eighth))

-- the place behind an entry that is not the last of its list page
pub next_place : (page a : ℕ) → a % page + 8 < page → (a + 8) % page ≡ a % page + 8
next_place page a h = sym (mod-add-mod a page 8) ∙ mod-eq_of_lt h

module _ (page prp1 len : ℕ) (low : 4096 ≤ page) (some : 0 < len) where
  pos : 0 < page
  pos = omega arith

  -- the pages touched, by the offset of prp1 alone
  pub by_offset : pages_touched page prp1 len ≡ (prp1 % page + len - 1) / page + 1
  unfolding pages_touched
  by_offset =
      let apart : prp1 + len - 1 ≡ prp1 / page * page + (prp1 % page + len - 1) = omega (arith, div-add-mod' prp1 page) in
      omega (arith, ap (λ (x : ℕ). x / page) apart ∙ mul-add-div_right pos (prp1 / page) (prp1 % page + len - 1))

  pub touched_most : len ≤ longest → (prp1 % page + len - 1) / page < most_pages
  touched_most h = (div-lt_iff_lt-mul pos).1 (omega (arith, mod-lt prp1 pos))
