-- Laws of values put one behind the other. Assumes nothing.
use mathlib.Core.Path.{◌≡◌, sym, ap, subst, refl, ◌∙◌}
use mathlib.Core.List.{List, [], ◌++◌}
use Prim.Native.Nat.{ℕ, ◌+◌, ◌≤◌}
use native.Mathlib.Nat.{add-zero}
use native.Mathlib.Omega.{arith}
use lib.ListN.{length, length-append}
use lib.Seq.{sets, length-sets}
use Rattle.le.proofs.Numbers.{sets_append}
use Rattle.print.specs.Put.{Put}

pub put_none : (o : List ℕ) (p : ℕ) → Put o p [] o p
put_none o p = record { holds = refl; ends = sym (add-zero p) }

-- a text and another behind it are one
pub put_then : {o o₁ o₂ a b : List ℕ} {p m e : ℕ} → Put o p a o₁ m → Put o₁ m b o₂ e → Put o p (a ++ b) o₂ e
put_then {o} {o₁} {o₂} {a} {b} {p} {m} {e} f g =
    record {
      holds = g.holds ∙ ap (λ (l : List ℕ). sets l m b) f.holds ∙ sets_append o a b p m (sym f.ends);
      ends = rw length-append (omega (arith, f.ends, g.ends));
    }

-- the buffer keeps its length
pub put_length : {o o₁ a : List ℕ} {p m : ℕ} → Put o p a o₁ m → length o₁ ≡ length o
put_length {o} {o₁} {a} {p} f = ap length f.holds ∙ length-sets o p a

-- a text that is equal
pub put_as : {o o₁ a b : List ℕ} {p m : ℕ} → Put o p a o₁ m → a ≡ b → Put o p b o₁ m
put_as {o} {o₁} {a} {b} {p} {m} f e = subst (λ (l : List ℕ). Put o p l o₁ m) e f

-- the room of two texts is room for the first, and then for the second
pub room_first : (a b : List ℕ) (p n : ℕ) → p + length (a ++ b) ≤ n → p + length a ≤ n
room_first a b p n h = omega (arith, length-append a b, h)

pub room_then : {o o₁ a : List ℕ} {p m : ℕ} (b : List ℕ) → Put o p a o₁ m → p + length (a ++ b) ≤ length o → m + length b ≤ length o₁
room_then {a = a} b f h = omega (arith, length-append a b, h, f.ends, put_length f)
