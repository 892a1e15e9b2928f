-- Which tags are outstanding: in propositions, once a tag is taken, and once one is given back. Assumes nothing.
use Prim.Native.Nat.{ℕ, ◌<◌}
use mathlib.Core.Bool.{Bool, true, false, not, ◌&&◌}
use mathlib.Core.Path.{◌≡◌, refl, sym, ap, ◌∙◌}
use lib.Dec.{ltb}
use borrow.Author.Tests.{ltb-true, lt-ltb}
use Rattle.rules.proofs.Tests.{and_true, not_yes, clash}
use Rattle.rules.proofs.Exactly.{Says, says_is, says_lt, says_not, says_and, says_as}
use Rattle.bits.specs.Bits.{is_set}
use Rattle.bits.specs.Tags.{given_back}
use Rattle.bits.proofs.Tags.{OneTaken, back_set, back_other}
use Rattle.controller.specs.Controller.{Controller}
use Rattle.controller.specs.State.{outstanding}

-- the command with that tag is outstanding
abbrev pub Outstanding : Controller → ℕ → Type 0
Outstanding c tag = (tag < 64) × (is_set c.free tag ≡ false)

no_is : (b : Bool) → (b ≡ true → ⊥) → b ≡ false
no_is true h = absurd (h refl)
no_is false h = refl

pub says_out : (c : Controller) (tag : ℕ) → Says (outstanding c.free tag) (Outstanding c tag)
unfolding outstanding
says_out c tag =
    says_as (says_and (says_lt tag 64) (says_not (says_is (is_set c.free tag))))
    (λ h. (h.0, no_is _ h.1)) (λ h. (h.0, λ e. clash e h.1))

module _ (f t : ℕ) where
  pub out_set : outstanding f t ≡ true → (t < 64) × (is_set f t ≡ false)
  unfolding outstanding
  out_set o = let b = and_true (ltb t 64) (not (is_set f t)) o in (ltb-true t 64 b.0, not_yes _ b.1)

  out_is : t < 64 → is_set f t ≡ false → outstanding f t ≡ true
  unfolding outstanding
  out_is l e = rw (lt-ltb t 64 l, e)

out_same : (f g t : ℕ) → is_set g t ≡ is_set f t → outstanding g t ≡ outstanding f t
unfolding outstanding
out_same f g t e = ap (λ (b : Bool). ltb t 64 && not b) e

-- tag n is taken, and left is left
module _ {f n left : ℕ} (w : OneTaken f n left) where
  pub taken_out : outstanding left n ≡ true
  taken_out = out_is left n w.low w.gone

  pub taken_new : (t : ℕ) → outstanding f t ≡ true → t ≡ n → ⊥
  taken_new t o e = clash w.free (ap (is_set f) (sym e) ∙ (out_set f t o).1)

  pub taken_other : (t : ℕ) → (t ≡ n → ⊥) → outstanding left t ≡ outstanding f t
  taken_other t d = out_same f left t (w.others t d)

-- tag n is given back
module _ (f n : ℕ) where
  pub back_gone : n < 64 → (t : ℕ) → outstanding (given_back f n) t ≡ true → t ≡ n → ⊥
  back_gone l t o e = clash (back_set f n l) (ap (is_set (given_back f n)) (sym e) ∙ (out_set (given_back f n) t o).1)

  pub back_out : (t : ℕ) → (t ≡ n → ⊥) → outstanding (given_back f n) t ≡ outstanding f t
  back_out t d = out_same f (given_back f n) t (back_other f n t d)

  -- what is outstanding then was so before
  pub back_was : outstanding f n ≡ true → (t : ℕ) → outstanding (given_back f n) t ≡ true → outstanding f t ≡ true
  back_was o t p = sym (back_out t (back_gone (out_set f n o).0 t p)) ∙ p
