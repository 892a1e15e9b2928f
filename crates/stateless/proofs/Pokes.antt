-- Laws of values that are poked. Assumes nothing.
use mathlib.Core.Path.{◌≡◌, sym, ap, ◌∙◌}
use mathlib.Core.Bool.{true}
use mathlib.Core.List.{List, [], ◌∷◌}
use mathlib.Core.Logic.{⊎_elim}
use Prim.Native.Nat.{ℕ, ◌+◌, ◌-◌, ◌*◌, ◌/◌, ◌≤◌, ◌<◌}
use native.Mathlib.Nat.{div-lt_iff_lt-mul, mul_comm}
use native.Mathlib.Omega.{arith}
use lib.ListN.{length}
use Rattle.le.specs.Le.{le}
use Rattle.le.specs.Memory.{Memory, put}
use Rattle.le.proofs.Numbers.{length_le}
use Rattle.le.proofs.Parts.{sets_put}
use Rattle.controller.specs.Controller.{Controller}
use Rattle.rules.proofs.Tests.{lt_or_ge}
use Rattle.print.specs.Text.{each}
use Rattle.print.specs.Put.{Put}
use Rattle.print.proofs.Texts.{each_length}
use Rattle.language.specs.Replies.{Said, bad, told, reply}
use Rattle.language.specs.Commands.{outside, poked}
use Rattle.stateless.proofs.Lying.{begins_out, ends_out, lies_in}

-- the bytes of values
pub values_length : (width : ℕ) (vs : List ℕ) → length (each (le width) vs) ≡ width * length vs
values_length width vs = each_length (le width) width (length_le width) vs

-- so many values have no room, and have it
pub values_over : (room width n : ℕ) → 0 < width → room / width < n → room < width * n
values_over room width n h k = rw (mul_comm width n) ((div-lt_iff_lt-mul h).0 k)

pub values_fit : (room width n : ℕ) → 0 < width → n ≤ room / width → width * n ≤ room
values_fit room width n h k =
    ⊎_elim (λ (j : room < width * n). absurd (omega (arith, (div-lt_iff_lt-mul h).1 (rw (mul_comm width n) at j)))) (λ (j : width * n ≤
    room). j)
    (lt_or_ge room (width * n))

module _ (c : Controller) (m : Memory) (width place : ℕ) (vs : List ℕ) (s : Said) where
  poke_bad : outside m place (width * length vs) ≡ true → poked c m width place vs ≡ reply bad c m
  poke_bad h = rw h

  pub poke_begins_out : s ≡ bad → length m < place → reply s c m ≡ poked c m width place vs
  poke_begins_out e h = ap (λ (x : Said). reply x c m) e ∙ sym (poke_bad (begins_out m place (width * length vs) h))

  pub poke_ends_out : s ≡ bad → place ≤ length m → length m - place < width * length vs → reply s c m ≡ poked c m width place vs
  poke_ends_out e h j = ap (λ (x : Said). reply x c m) e ∙ sym (poke_bad (ends_out m place (width * length vs) h j))

  pub poke_put : {m₁ : Memory} {end : ℕ} → s ≡ told (length vs ∷ []) → place ≤ length m → width * length vs ≤ length m - place
      → Put m place (each (le width) vs) m₁ end → reply s c m₁ ≡ poked c m width place vs
  poke_put {m₁} e h j p =
      let f : place + length (each (le width) vs) ≤ length m = omega (arith, values_length width vs) in
      let q : m₁ ≡ put m place (each (le width) vs) = p.holds ∙ sets_put m place (each (le width) vs) f in
      rw (lies_in m place (width * length vs) h j, e, q)
