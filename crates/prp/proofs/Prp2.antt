-- What PRP2 is, by the number of pages touched: "N = 1 ignores PRP2; N = 2 takes PRP2 as a page with offset 0; N of 3 or more takes it
-- as a list address, a multiple of 8, any offset in its page." Assumes nothing.
use Prim.Native.Nat.{ℕ, ◌-◌, ◌%◌, ◌≤◌}
use mathlib.Core.Path.{◌≡◌, refl}
use mathlib.Core.List.{List, [], ◌∷◌}
use mathlib.Core.Logic.{◌≢◌}
use native.Mathlib.Omega.{arith}
use borrow.Author.Tests.{eq-eqb, ne_eqb}
use Rattle.prp.specs.Walk.{refused, found, after, list, data_pages}

module _ (page : ℕ) (m : List ℕ) (prp1 prp2 : ℕ) where
  pub one_page : data_pages page m prp1 prp2 1 ≡ found (prp1 ∷ []) 0
  unfolding data_pages
  one_page = refl

  pub two_pages : prp2 % page ≡ 0 → data_pages page m prp1 prp2 2 ≡ found (prp1 ∷ prp2 ∷ []) 0
  unfolding data_pages
  two_pages h = simp (eq-eqb (prp2 % page) 0 h)

  pub page_offset : prp2 % page ≢ 0 → data_pages page m prp1 prp2 2 ≡ refused 18
  unfolding data_pages
  page_offset h = simp (ne_eqb (prp2 % page) 0 h)

  module _ (n : ℕ) (many : 3 ≤ n) where
    pub from_list : prp2 % 8 ≡ 0 → data_pages page m prp1 prp2 n ≡ after (prp1 ∷ []) 0 (list page m (n - 1) prp2)
    unfolding data_pages
    from_list h = simp (ne_eqb n 1 (λ e. omega arith), ne_eqb n 2 (λ e. omega arith), eq-eqb (prp2 % 8) 0 h)

    pub list_address : prp2 % 8 ≢ 0 → data_pages page m prp1 prp2 n ≡ refused 18
    unfolding data_pages
    list_address h = simp (ne_eqb n 1 (λ e. omega arith), ne_eqb n 2 (λ e. omega arith), ne_eqb (prp2 % 8) 0 h)
