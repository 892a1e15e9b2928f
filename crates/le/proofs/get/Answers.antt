use Prim.Native.Nat.{ℕ, zero, suc, ◌+◌, ◌-◌, ◌*◌, ◌≤◌}
use mathlib.Core.List.{List, [], ◌∷◌, ◌++◌}
use mathlib.Core.Path.{◌≡◌, refl, sym, ap, ◌∙◌}
use native.Mathlib.Omega.{arith}
use lib.ListN.{get_or, length, drop}
use lib.Seq.{get_or-append-add, get_or-drop}
use Rattle.le.specs.Le.{le, le_at}
use Rattle.le.specs.Memory.{part, Bytes}
use Rattle.le.proofs.Numbers.{length_le, le_at_add, le_at_lt, le_at_le, le_le_at}
use Rattle.le.proofs.get.Goals as goal

-- zeros from i on
abbrev Zeros : List ℕ → ℕ → Type 0
Zeros z i = (j : ℕ) → i ≤ j → get_or z j 0 ≡ 0

abbrev zeros : ℕ → List ℕ
zeros zero = []
zeros (suc n) = 0 ∷ zeros n

all_zero : (n : ℕ) → Zeros (zeros n) 0
all_zero zero j l = refl
all_zero (suc n) zero l = refl
all_zero (suc n) (suc j) l = all_zero n j (omega arith)

none : (k : ℕ) (z : List ℕ) (i : ℕ) → Zeros z i → le_at k z i ≡ 0
unfolding le_at
none zero z i h = refl
none (suc k) z i h = omega (arith, h i (omega arith), none k z (i + 1) (λ j l. h j (omega arith)))

-- zeros above the number of the low bytes
padded : (n k : ℕ) (b : List ℕ) (at : ℕ) (z : List ℕ) → Bytes b → at + n ≤ length b → Zeros z 0
    → le_at (n + k) (part b at n ++ drop n z) 0 ≡ le_at n b at
padded n k b at z low room h =
    let v = le_at n b at in
    let q = drop n z in
    let bytes : part b at n ≡ le n v = sym (le_le_at n b at low room) in
    let above : le_at k (le n v ++ q) (0 + n) ≡ 0 = none k (le n v ++ q) (0 + n) (λ j l.
    ap (λ (x : ℕ). get_or (le n v ++ q) x 0) (omega (arith, length_le n v)) ∙ get_or-append-add (le n v) q (j - n) 0
    ∙ get_or-drop n z (j - n) 0 ∙ h (n + (j - n)) (omega arith)) in
    rw bytes (le_at_add n k (le n v ++ q) 0 ∙ rw above (omega (arith, le_at_le n v q (le_at_lt n b at low))))

eight : (b : List ℕ) → get_or b 0 0 + get_or b 1 0 * 256 + get_or b 2 0 * 65536 + get_or b 3 0 * 16777216 + get_or b 4 0 * 4294967296
    + get_or b 5 0 * 1099511627776 + get_or b 6 0 * 281474976710656 + get_or b 7 0 * 72057594037927936 ≡ le_at 8 b 0
unfolding le_at
eight b = omega arith

pub returns : goal.returns
unfolding part
returns g c =
    let n = g.row.N in
    let b = c.args.b.now in
    let at = c.args.at in
    let low : Bytes b = λ i. (c.type_inv.b i).fits in
    let long : n + (8 - n) ≡ 8 = omega arith in
    let width : at + n - at ≡ n = omega arith in
    let whole = rw long at (padded n (8 - n) b at (zeros 8) low c.requires.room (all_zero 8)) in
    let is = c.from_le_bytes.ensures ∙ rw (c.copy_from_slice.ensures.after, width) (eight _) ∙ whole in
    (is, rw is (le_at_lt n b at low))
