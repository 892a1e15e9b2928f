-- Laws of the bits of a number. Assumes nothing.
use Prim.Native.Nat.{ℕ, zero, suc, ◌+◌, ◌-◌, ◌*◌, ◌/◌, ◌%◌, ◌^◌, ◌≤◌, ◌<◌}
use mathlib.Core.Bool.{true, false, not}
use mathlib.Core.Logic.{◌⊎◌, inl, inr, ⊎_elim}
use mathlib.Core.Path.{◌≡◌, refl, sym, ap, ◌∙◌}
use native.Mathlib.Nat.{mod-lt, zero-lt-suc, one-mul, mul_assoc, pow-suc}
use native.Mathlib.Numerals.{one-add}
use native.Mathlib.Omega.{arith}
use lib.Count.{ones, ones_step}
use lib.Dec.{eqb, lit<}
use lib.Pow.{shr-shr, shl_exact, high}
use borrow.Author.Tests.{eq-eqb, ne_eqb, eqb-true, eqb-false}
use Rattle.rules.proofs.Tests.{lt_or_ge, clash}
use Rattle.bits.specs.Bits.{bit, is_set}

-- `1 << n` at a width of w
pub shl_one : (w n : ℕ) → n < w → 1 * 2 ^ n % 2 ^ w ≡ 2 ^ n
shl_one w n h = shl_exact 1 n w (lit< tt) (omega arith) ∙ one-mul (2 ^ n)

-- ---- a bit, and whether it is set

pub bit_cases : (x n : ℕ) → (bit x n ≡ 0) ⊎ (bit x n ≡ 1)
bit_cases x n = go (bit x n) (mod-lt (x / 2 ^ n) (zero-lt-suc 1))
  where
    go : (d : ℕ) → d < 2 → (d ≡ 0) ⊎ (d ≡ 1)
    go zero h = inl refl
    go (suc zero) h = inr refl
    go (suc (suc d)) h = absurd (omega arith)

module _ (x n : ℕ) where
  pub is_set_lem : bit x n ≡ 1 → is_set x n ≡ true
  unfolding is_set
  is_set_lem e = eq-eqb _ _ e

  pub not_set : bit x n ≡ 0 → is_set x n ≡ false
  unfolding is_set
  not_set e = ne_eqb _ _ (λ (q : bit x n ≡ 1). omega arith)

  pub set_is : is_set x n ≡ true → bit x n ≡ 1
  unfolding is_set
  set_is e = eqb-true _ _ e

  pub set_not : is_set x n ≡ false → bit x n ≡ 0
  unfolding is_set
  set_not e = ⊎_elim (λ z. z) (λ q. absurd (eqb-false _ _ e q)) (bit_cases x n)

  -- a bit past the lowest is a bit of the half
  pub bit_suc : bit x (suc n) ≡ bit (x / 2) n
  bit_suc = ap (λ (y : ℕ). y % 2) (ap (λ (k : ℕ). x / 2 ^ k) (sym (one-add n)) ∙ sym (shr-shr x 1 n))

  pub set_suc : is_set x (suc n) ≡ is_set (x / 2) n
  unfolding is_set
  set_suc = ap (λ (d : ℕ). eqb d 1) bit_suc

-- ---- no bit is set past a number's width

zero_clear : (n : ℕ) → is_set 0 n ≡ false
zero_clear zero = not_set 0 0 refl
zero_clear (suc n) = set_suc 0 n ∙ zero_clear n

pub set_high : (k x n : ℕ) → x < 2 ^ k → k ≤ n → is_set x n ≡ false
set_high zero x n h l = let e : x ≡ 0 = omega arith in ap (λ (y : ℕ). is_set y n) e ∙ zero_clear n
set_high (suc k) x zero h l = absurd (omega arith)
set_high (suc k) x (suc n) h l = set_suc x n ∙ set_high k (x / 2) n (omega arith) (omega arith)

pub set_within : (k x n : ℕ) → x < 2 ^ k → is_set x n ≡ true → n < k
set_within k x n h e =
    ⊎_elim (λ (l : n < k). l) (λ (l : k ≤ n). absurd (clash e (set_high k x n h l))) (lt_or_ge n k)

-- ---- two numbers in one: y above the k bits of x

-- a bit of what a shift leaves stood k further up
pub set_shr : (k x n : ℕ) → is_set (x / 2 ^ k) n ≡ is_set x (k + n)
unfolding is_set
set_shr k x n = ap (λ (y : ℕ). eqb (y % 2) 1) (shr-shr x k n)

pub set_above : (k y x n : ℕ) → x < 2 ^ k → is_set (y * 2 ^ k + x) (k + n) ≡ is_set y n
set_above k y x n h = sym (set_shr k (y * 2 ^ k + x) n) ∙ ap (λ (z : ℕ). is_set z n) (high y k h)

twofold : (k y : ℕ) → y * 2 ^ suc k ≡ y * 2 ^ k * 2
twofold k y = ap (λ (p : ℕ). y * p) (pow-suc 2 k) ∙ sym (mul_assoc y (2 ^ k) 2)

pub set_under : (k y x n : ℕ) → n < k → is_set (y * 2 ^ k + x) n ≡ is_set x n
unfolding is_set
set_under zero y x n l = absurd (omega arith)
set_under (suc k) y x zero l = ap (λ (d : ℕ). eqb d 1) {x = bit (y * 2 ^ suc k + x) 0} {y = bit x 0} (omega (arith, twofold k y))
set_under (suc k) y x (suc n) l =
    set_suc _ n
    ∙ ap (λ (z : ℕ). is_set z n) {y = y * 2 ^ k + x / 2} (omega (arith, twofold k y))
    ∙ set_under k y (x / 2) n (omega arith)
    ∙ sym (set_suc x n)

-- ---- the complement of a number of k bits has the bits that the number has not

half_rest : (k x : ℕ) → (2 ^ suc k - 1 - x) / 2 ≡ 2 ^ k - 1 - x / 2
half_rest k x = omega arith

pub set_rest : (k x n : ℕ) → x < 2 ^ k → n < k → is_set (2 ^ k - 1 - x) n ≡ not (is_set x n)
set_rest zero x n h l = absurd (omega arith)
set_rest (suc k) x zero h l =
    ⊎_elim (λ (e : bit x 0 ≡ 0). is_set_lem (2 ^ suc k - 1 - x) 0 (omega arith) ∙ ap not (sym (not_set x 0 e)))
    (λ (e : bit x 0 ≡ 1). not_set (2 ^ suc k - 1 - x) 0 (omega arith) ∙ ap not (sym (is_set_lem x 0 e))) (bit_cases x 0)
set_rest (suc k) x (suc n) h l =
    set_suc _ n
    ∙ ap (λ (y : ℕ). is_set y n) (half_rest k x)
    ∙ set_rest k (x / 2) n (omega arith) (omega arith)
    ∙ ap not (sym (set_suc x n))

-- ---- a bit is set by adding its power, and cleared by subtracting it; the others stay

half_add : (y n : ℕ) → (y + 2 ^ suc n) / 2 ≡ y / 2 + 2 ^ n
half_add y n = omega arith

pub add_same : (n y : ℕ) → is_set y n ≡ false → is_set (y + 2 ^ n) n ≡ true
add_same zero y e = is_set_lem _ 0 (omega (arith, set_not y 0 e))
add_same (suc n) y e =
    set_suc _ n ∙ ap (λ (x : ℕ). is_set x n) (half_add y n) ∙ add_same n (y / 2) (sym (set_suc y n) ∙ e)

pub add_other : (n y j : ℕ) → is_set y n ≡ false → (j ≡ n → ⊥) → is_set (y + 2 ^ n) j ≡ is_set y j
unfolding is_set
add_other zero y zero e d = absurd (d refl)
add_other zero y (suc j) e d =
    set_suc _ j ∙ ap (λ (x : ℕ). is_set x j) {x = (y + 2 ^ 0) / 2} {y = y / 2} (omega (arith, set_not y 0 e)) ∙ sym (set_suc y j)
add_other (suc n) y zero e d = ap (λ (d : ℕ). eqb d 1) {x = bit (y + 2 ^ suc n) 0} {y = bit y 0} (omega arith)
add_other (suc n) y (suc j) e d =
    set_suc _ j
    ∙ ap (λ (x : ℕ). is_set x j) (half_add y n)
    ∙ add_other n (y / 2) j (sym (set_suc y n) ∙ e) (λ q. d (ap suc q))
    ∙ sym (set_suc y j)

pub add_fits : (n k y : ℕ) → n < k → y < 2 ^ k → is_set y n ≡ false → y + 2 ^ n < 2 ^ k
add_fits n zero y l h e = absurd (omega arith)
add_fits zero (suc k) y l h e = omega (arith, set_not y 0 e)
add_fits (suc n) (suc k) y l h e =
    omega (arith, add_fits n k (y / 2) (omega arith) (omega arith) (sym (set_suc y n) ∙ e))

pub sub_fits : (n x : ℕ) → is_set x n ≡ true → 2 ^ n ≤ x
sub_fits zero x e = omega (arith, set_is x 0 e)
sub_fits (suc n) x e = omega (arith, sub_fits n (x / 2) (sym (set_suc x n) ∙ e))

pub sub_same : (n x : ℕ) → is_set x n ≡ true → is_set (x - 2 ^ n) n ≡ false
sub_same zero x e = not_set _ 0 (omega (arith, set_is x 0 e))
sub_same (suc n) x e =
    set_suc _ n
    ∙ ap (λ (y : ℕ). is_set y n) {y = x / 2 - 2 ^ n} (omega (arith, sub_fits (suc n) x e))
    ∙ sub_same n (x / 2) (sym (set_suc x n) ∙ e)

sub_add : (n x : ℕ) → is_set x n ≡ true → x - 2 ^ n + 2 ^ n ≡ x
sub_add n x e = omega (arith, sub_fits n x e)

pub sub_other : (n x j : ℕ) → is_set x n ≡ true → (j ≡ n → ⊥) → is_set (x - 2 ^ n) j ≡ is_set x j
sub_other n x j e d =
    sym (add_other n (x - 2 ^ n) j (sub_same n x e) d) ∙ ap (λ (y : ℕ). is_set y j) (sub_add n x e)

pub ones_add : (n y : ℕ) → is_set y n ≡ false → ones (y + 2 ^ n) ≡ ones y + 1
ones_add zero y e =
    let z : bit y 0 ≡ 0 = set_not y 0 e in
    let h : (y + 1) / 2 ≡ y / 2 = omega arith in omega (arith, ones_step (y + 1), ones_step y, ap ones h)
ones_add (suc n) y e =
    omega (arith, ones_step (y + 2 ^ suc n), ones_step y, ap ones (half_add y n), ones_add n (y / 2) (sym (set_suc y n) ∙ e))

pub ones_sub : (n x : ℕ) → is_set x n ≡ true → ones (x - 2 ^ n) + 1 ≡ ones x
ones_sub n x e = sym (ones_add n (x - 2 ^ n) (sub_same n x e)) ∙ ap ones (sub_add n x e)
