use Prim.Native.Nat.{ℕ, ◌+◌, ◌-◌, ◌%◌, ◌/◌, ◌≤◌}
use mathlib.Core.List.{[], ◌∷◌}
use mathlib.Core.Path.{◌≡◌, refl, sym, ap, ◌∙◌}
use native.Mathlib.Nat.{div-div-eq-div-mul, le_of_eq}
use native.Mathlib.Omega.{arith}
use lib.ListN.{length, take}
use lib.Seq.{drop-drop, take_all}
use Rattle.std.proofs.lemmas.List.{take-append-le}
use Rattle.le.specs.Le.{le}
use Rattle.le.specs.Memory.{put}
use Rattle.le.proofs.Numbers.{length_le, le_add}
use Rattle.le.proofs.Parts.{sets_put}
use Rattle.le.proofs.put.Goals as goal

-- the low bytes of eight
low : (n k x : ℕ) → take n (le (n + k) x) ≡ le n x
low n k x =
    let fit : n ≤ length (le n x) = omega (arith, length_le n x) in
    rw (le_add n k x, take-append-le) (take_all n (le n x) (le_of_eq (length_le n x)))

eight : (x : ℕ) → le 8 x ≡ x % 256 ∷ x / 256 % 256 ∷ x / 65536 % 256 ∷ x / 16777216 % 256 ∷ x / 4294967296 % 256
    ∷ x / 1099511627776 % 256 ∷ x / 281474976710656 % 256 ∷ x / 72057594037927936 % 256 ∷ []
unfolding le
eight x = simp div-div-eq-div-mul

pub returns : goal.returns
unfolding put
returns g c =
    let n = g.row.N in
    let x = c.args.x in
    let b = c.args.b.now in
    let at = c.args.at in
    let long : n + (8 - n) ≡ 8 = omega arith in
    let all = c.to_le_bytes-bytes.ensures ∙ sym (eight x) in
    let stored : c.copy_from_slice.new.self ≡ le n x =
    c.copy_from_slice.ensures.after ∙ ap (take n) all ∙ rw long at (low n (8 - n) x) in
    let width : at + n - at ≡ n = omega arith in
    let fit : at + length (le n x) ≤ length b = omega (arith, length_le n x) in
    rw (stored, width, sets_put b at (le n x) fit, length_le n x, drop-drop) refl
