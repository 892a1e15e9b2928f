-- What the walks over a `Reader` share: a struct of a `&[u8]` and a number, which is Copy.
--     ReaderT, type, laws      the struct's row, its type and its laws, over the one lifetime of a signature
--     slice_v           the machine value of a slice
--     Slice, Held      what a slice owns; what the struct owns
--     Parts, Whole     what the parameters of a function own: the slice and the number, as two; the struct, as one
--     Asked, asks      what a function that requires nothing asks at entry: the lifetime's token, beside what its parameters own
--     makes            the struct is made of a slice and a number: what it owns, of what the slice owns and the number's bound
--     apart            the struct is taken apart: of what it owns, what a function of its slice and its number asks, and itself, whole
--     says_both        a goal P ∗ (⌜φ⌝ ∗ ⌜ψ⌝), where a contract has two clauses: both are shown, and P is left
-- `asks`, `makes`, `apart` and `says_both` take `Logic`. The rest assumes nothing.
use mathlib.Core.Path.{◌≡◌, refl}
use Prim.Native.Nat.{ℕ, ◌<◌, ◌^◌}
use mathlib.Core.List.{List, [], ◌∷◌}
use lib.ListN.{length}
use seplogic.Ra.Ura.{Ura}
use mir.Syntax.{named, w64}
use mir.Val.{Val, vint}
use base.Logic.{SProp, ent, sep, emp, assoc∗}
use base.Fml.{Lft, Share, Fml, ftrue, flft}
use types.Logic.{Logic, sem}
use contract.Lifetimes.{Lfts}
use contract.Monad.{fact}
use types.Kit.{Item, prop, Step, step, ‵, raw, ◌⊛◌, given, ⋆, ◌$◌, ◌∵◌, !, qed, by, move, drop, use1, use2, split, join, learn}
use types.Kit.{fsplit, fjoin, suffices, frame, done}
use denote.RattleType.{RattleType, owns}
use denote.Laws.{Is}
use denote.Plain.{uint_Makes}
use denote.Builtin.{u8, usize}
use denote.Ref.{Bor}
use denote.Signature.{named_lft}
use denote.Slice.{slice_val, ShrSlice}
use denote.Steps.{owned, nothing}
use denote.Struct.Declared.{Declared}
use denote.Struct.Laws as LL
use denote.Struct.Rest.{all_own, field_own, rest, own_open, own_out, own_shut}
use denote.Struct.Values.{Values}
use denote.Triple.Walked.{says}
use Rattle.trace.specs.declared.Reader.{Reader}
use Rattle.trace.specs.contracts.Reader as T
use Rattle.trace.proofs.Reader.TheLaws as T'

abbrev pub ReaderT : Lfts 1 → RattleType
ReaderT κs = T.the_row (named_lft 1 0 tt κs)

abbrev pub type : Lfts 1 → Declared
type κs = T.the_type (named_lft 1 0 tt κs)

abbrev pub laws : (κs : Lfts 1) → LL.Laws (type κs)
laws κs = T'.the_laws (named_lft 1 0 tt κs)

abbrev pub slice_v : Bor (List ℕ) → Val
slice_v s = slice_val s.ref_ptr (length s.now)

abbrev pub Slice : Lft → Bor (List ℕ) → Fml
Slice κ s = (ShrSlice (named 0) κ u8).own_val s (slice_v s ∷ [])

abbrev pub Held : Lft → Reader → Fml
Held κ d = (ReaderT (κ, tt)).own_val d (T'.lowered d ∷ [])

abbrev pub Parts : Lft → Reader → Fml
Parts κ d = owns (ShrSlice (named 0) κ u8 ∷ usize ∷ []) (d.trace, (d.at, tt)) (slice_v d.trace ∷ [], (vint w64 d.at ∷ [], tt))

abbrev pub Whole : Lft → Reader → Fml
Whole κ d = owns (ReaderT (κ, tt) ∷ []) (d, tt) (T'.lowered d ∷ [], tt)

module _ {M : Type 1} {𝓤 : Ura M} (𝓛 : Logic 𝓤) (κ : Lft) where
  abbrev pub Asked : Share → Fml → SProp 𝓤
  Asked q F = sep 𝓤 (⋆ 𝓛 ((‵ (flft κ q) ⊛ ‵ ftrue) ∷ ‵ F ∷ [])) (emp 𝓤)

  pub asks : (q : Share) (F : Fml) → ent 𝓤 (⋆ 𝓛 ((‵ (flft κ q) ⊛ ‵ ftrue) ∷ ‵ F ∷ [])) (Asked q F)
  asks q F = qed 𝓛 ((‵ (flft κ q) ⊛ ‵ ftrue) ∷ ‵ F ∷ []) ∵ join ! $ frame ! $ done !

  module _ (d : Reader) (fits : d.at < 2 ^ 64) where
    abbrev values : Values (type (κ, tt)).parts
    values = (d.trace, (d.at, tt))

    pub makes : ent 𝓤 (sem 𝓛 (Slice κ d.trace)) (sem 𝓛 (Held κ d))
    makes =
        qed 𝓛 (‵ (Slice κ d.trace) ∷ []) ∵
        nothing ! $ owned ! usize (Is usize) (uint_Makes 𝓛 w64) d.at _ (refl, fits) $ fjoin ! $
        move ! (1 ∷ 0 ∷ []) $ fjoin ! $ by ! (own_shut 𝓛 (type (κ, tt)) (laws (κ, tt)) values)

    pub apart : (q : Share)
        → ent 𝓤 (⋆ 𝓛 ((‵ (flft κ q) ⊛ ‵ ftrue) ∷ ‵ (Whole κ d) ∷ [])) (sep 𝓤 (Asked q (Parts κ d)) (sem 𝓛 (Held κ d)))
    apart q =
        qed 𝓛 ((‵ (flft κ q) ⊛ ‵ ftrue) ∷ ‵ (Whole κ d) ∷ []) ∵
        move ! (1 ∷ []) $ fsplit ! $ move ! (1 ∷ []) $ drop ! $
        use1 𝓛 (‵ (Held κ d) ⊛ ‵ (Held κ d))
        ((LL.copy (type (κ, tt)) (T'.the_copy (named_lft 1 0 tt (κ, tt))) 𝓛).twice d (T'.lowered d ∷ [])) $ split ! $
        use1 𝓛 (given (T'.lowered d ∷ [] ≡ T'.lowered d ∷ []) (‵ (all_own (type (κ, tt)).parts (laws (κ, tt)) values)))
        (own_open 𝓛 (type (κ, tt)) (laws (κ, tt)) values (T'.lowered d)) $ learn ! (λ _.
        use1 𝓛 (‵ (field_own (type (κ, tt)).parts (laws (κ, tt)) 0 d.trace) ⊛ ‵ (rest (type (κ, tt)).parts (laws (κ, tt)) 0 values))
        (own_out 𝓛 (type (κ, tt)).parts (laws (κ, tt)) 0 values) $ split ! $
        -- [what the slice owns; what at owns; what the struct owns; the token]
        move ! (1 ∷ []) $ drop ! $ nothing ! $ owned ! usize (Is usize) (uint_Makes 𝓛 w64) d.at _ (refl, fits) $ fjoin ! $
        move ! (1 ∷ 0 ∷ []) $ fjoin ! $
        move ! (2 ∷ 0 ∷ []) $ use2 𝓛 (raw (Asked q (Parts κ d))) (asks q (Parts κ d)) $ frame ! $ done !)

pub says_both : {M : Type 1} {𝓤 : Ura M} {𝓛 : Logic 𝓤} {K : Type 0} {Γ : List (Item 𝓤)}
    → K → {φ ψ : Type 0} {P : SProp 𝓤} → φ → ψ → Step K 𝓛 Γ (prop P) Γ (prop (sep 𝓤 P (sep 𝓤 (fact 𝓤 φ) (fact 𝓤 ψ))))
says_both {𝓤 = 𝓤} t {φ} {ψ} {P} x y =
    step (λ s. suffices t (sep 𝓤 (sep 𝓤 P (fact 𝓤 φ)) (fact 𝓤 ψ)) (assoc∗ 𝓤 P (fact 𝓤 φ) (fact 𝓤 ψ)) $ says t y $ says t x $ s)
