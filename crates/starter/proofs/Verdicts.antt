-- Laws of CIDs in use. Assumes nothing.
use Prim.Native.Nat.{ℕ, ◌-◌, ◌^◌, ◌<◌}
use mathlib.Core.Bool.{Bool, true, false, ◌&&◌, ◌||◌, or-true}
use mathlib.Core.List.{List}
use mathlib.Core.Logic.{⊎_elim}
use mathlib.Core.Path.{◌≡◌, refl, sym, ap, ◌∙◌}
use native.Mathlib.Nat.{pos_of_ne-zero}
use native.Mathlib.Omega.{arith}
use lib.Count.{count_trailing_zeros}
use lib.Dec.{eqb}
use lib.ListN.{get_or}
use borrow.Author.Tests.{lt-ltb}
use Rattle.rules.proofs.Tests.{bool_cases, same_or_not, clash, or-false, and_no}
use Rattle.bits.specs.Bits.{is_set, some_below}
use Rattle.bits.proofs.Bits.{set_high, set_within, set_rest}
use Rattle.bits.proofs.First.{first_trailing}
use Rattle.bits.proofs.Some.{some_found, some_none}
use Rattle.bits.proofs.Tags.{OneTaken, lowest_taken}
use Rattle.controller.specs.declared.Command.{Command}
use Rattle.controller.specs.State.{no_command, outstanding}
use Rattle.controller.specs.Verdict.{uses, in_use}

split : (t s x y : Bool) → (t && (s && (x || y))) ≡ ((t && (s && x)) || (t && (s && y)))
split true true x y = refl
split true false x y = refl
split false s x y = refl

module _ (ks : List Command) (free sq a b : ℕ) where
  -- the command of tag t uses one of the two CIDs
  abbrev uses_either : ℕ → Bool
  uses_either t =
      let k = get_or ks t no_command in outstanding free t && (eqb k.sq sq && (eqb k.cid a || eqb k.cid b))

  abbrev A : ℕ → Bool
  A = uses ks free sq a

  abbrev B : ℕ → Bool
  B = uses ks free sq b

  one_of : (t : ℕ) → uses_either t ≡ (A t || B t)
  one_of t = let k = get_or ks t no_command in split (outstanding free t) (eqb k.sq sq) (eqb k.cid a) (eqb k.cid b)

  either_found : (t : ℕ) → t < 64 → uses_either t ≡ true → true ≡ (in_use ks free sq a || in_use ks free sq b)
  unfolding in_use
  either_found t h e =
      ⊎_elim (λ (x : A t ≡ true). rw (some_found 64 A t h x))
      (λ (x : A t ≡ false). rw (some_found 64 B t h (rw x at (sym (one_of t) ∙ e))) (sym (or-true (some_below 64 A)))) (bool_cases (A t))

  either_none : ((t : ℕ) → t < 64 → uses_either t ≡ false) → false ≡ (in_use ks free sq a || in_use ks free sq b)
  unfolding in_use
  either_none f = rw (some_none 64 A (λ t h. (none t h).0), some_none 64 B (λ t h. (none t h).1))
    where
      none : (t : ℕ) → t < 64 → (A t ≡ false) × (B t ≡ false)
      none t h = or-false (A t) (B t) (sym (one_of t) ∙ f t h)

  -- ---- the tags that are still to be looked at: each is outstanding, and none of the others uses either CID

  pub record ToSee (left : ℕ) : Type 0 where
    pub fits : left < 2 ^ 64
    pub taken : (t : ℕ) → is_set left t ≡ true → outstanding free t ≡ true
    pub seen : (t : ℕ) → t < 64 → is_set left t ≡ false → uses_either t ≡ false

  pub all_to_see : free < 2 ^ 64 → ToSee (2 ^ 64 - 1 - free)
  unfolding outstanding
  all_to_see h =
      record {
        fits = omega arith;
        taken =
            λ t e.
            let l = set_within 64 (2 ^ 64 - 1 - free) t (omega arith) e in
            rw (lt-ltb t 64 l) (sym (set_rest 64 free t h l) ∙ e);
        seen = λ t l e. rw (lt-ltb t 64 l, sym (set_rest 64 free t h l) ∙ e);
      }

  -- the lowest of them, as the machine finds it
  pub lowest_to_see : {left : ℕ} → ToSee left → (left ≡ 0 → ⊥)
      → OneTaken left (count_trailing_zeros 64 left) (left - 2 ^ count_trailing_zeros 64 left)
  lowest_to_see {left} w n = rw (← first_trailing 64 left) (lowest_taken left w.fits (pos_of_ne-zero n))

  module _ {left t rest : ℕ} (w : ToSee left) (o : OneTaken left t rest) where
    abbrev names : Bool
    names = let k = get_or ks t no_command in eqb k.sq sq && (eqb k.cid a || eqb k.cid b)

    pub one_found : names ≡ true → true ≡ (in_use ks free sq a || in_use ks free sq b)
    one_found e = either_found t o.low (rw (w.taken t o.free) e)

    -- one tag less, whose command uses neither
    pub one_seen : names ≡ false → ToSee rest
    one_seen e =
        record {
          fits = o.fits;
          taken = λ j s. w.taken j (sym (o.others j (λ q. clash s (ap (is_set rest) q ∙ o.gone))) ∙ s);
          seen =
              λ j l s.
              ⊎_elim (λ (q : j ≡ t). ap uses_either q ∙ and_no (outstanding free t) _ e)
              (λ (d : j ≡ t → ⊥). w.seen j l (sym (o.others j d) ∙ s)) (same_or_not j t);
        }

  pub none_to_see : {left : ℕ} → ToSee left → left ≡ 0 → false ≡ (in_use ks free sq a || in_use ks free sq b)
  none_to_see {left} w z = either_none (λ t h. w.seen t h (set_high 0 left t (omega arith) (omega arith)))
