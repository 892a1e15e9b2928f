-- Laws of values that are read and stored one behind the other. Assumes nothing.
use mathlib.Core.Bool.{Bool, true, false}
use mathlib.Core.List.{List, [], ◌++◌, append_assoc, append-nil}
use mathlib.Core.Path.{◌≡◌, refl, sym, ap, subst, ◌∙◌}
use Prim.Native.Nat.{ℕ, ◌+◌}
use native.Mathlib.Omega.{arith}
use lib.ListN.{length, set}
use Rattle.rules.specs.Rules.{pick}
use Rattle.print.specs.Put.{Put}
use Rattle.print.proofs.Puts.{put_none, put_then, put_as}
use Rattle.parse.specs.Values.{Values, all, bad, and_then, single, Stored}
use Rattle.std.specs.Prelude.{Option, Some, None, Result, Ok, Err, IsErrAnd}
use Rattle.std.specs.Option.{ok_or}

-- Some values are stored, from a place on up to `end`, and with those that are left they make the goal.
pub record SoFar (goal : Values) (before : List ℕ) (place : ℕ) (now : List ℕ) (end : ℕ) (left : Values) : Type 0 where
  pub values : List ℕ
  pub put : Put before place values now end
  pub makes : and_then (all values) left ≡ goal

pub begun : (goal : Values) (o : List ℕ) (p : ℕ) → SoFar goal o p o p goal
unfolding and_then
begun goal o p = record { values = []; put = put_none o p; makes = refl }

-- what is left, in another form
pub left_as : {goal left left₁ : Values} {o o₁ : List ℕ} {p e : ℕ} → SoFar goal o p o₁ e left → left ≡ left₁ → SoFar goal o p o₁ e left₁
left_as {goal = goal} {o = o} {o₁ = o₁} {p = p} {e = e} s h = subst (λ (l : Values). SoFar goal o p o₁ e l) h s

-- values that are equal
pub stored_as : {v w : Values} {o o₁ : List ℕ} {p : ℕ} {r : Result ℕ ℕ} → v ≡ w → Stored v o p o₁ r → Stored w o p o₁ r
stored_as {o = o} {o₁ = o₁} {p = p} {r = r} h s = subst (λ (x : Values). Stored x o p o₁ r) h s

-- the end of a text in another form
pub put_to : {o o₁ a : List ℕ} {p m n : ℕ} → Put o p a o₁ m → m ≡ n → Put o p a o₁ n
put_to f e = record { holds = f.holds; ends = sym e ∙ f.ends }

-- the end as the text has it
put_end : {o o₁ a : List ℕ} {p m : ℕ} → Put o p a o₁ m → Put o p a o₁ (p + length a)
put_end f = put_to f f.ends

-- no value is left to be stored
pub finished : {goal : Values} {o o₁ : List ℕ} {p e : ℕ} → SoFar goal o p o₁ e (all []) → Stored goal o p o₁ (Ok e)
unfolding and_then
finished s =
    let f = put_as s.put (sym (append-nil s.values)) in
    stored_as s.makes (record { put = put_end f; answers = ap Ok f.ends })

-- what is left is bad
pub failed : {goal : Values} {o o₁ : List ℕ} {p e : ℕ} → SoFar goal o p o₁ e bad → Stored goal o p o₁ (Err e)
unfolding and_then
failed s =
    let f = put_as s.put (sym (append-nil s.values)) in
    stored_as s.makes (record { put = put_end f; answers = ap Err f.ends })

then_then : (vs : List ℕ) (v left : Values) → v.good ≡ true → and_then (all (vs ++ v.list)) left ≡ and_then (all vs) (and_then v left)
unfolding and_then
then_then vs v left h = rw (h, append_assoc vs v.list left.list)

then_bad : (vs : List ℕ) (v left : Values) → v.good ≡ false
    → and_then (all vs) (and_then v left) ≡ record { good = false; list = vs ++ v.list }
unfolding and_then
then_bad vs v left h = simp h

-- what an answer says
pub is_good : {A : Type 0} {a : A} (g : Bool) (b : A) → Ok a ≡ pick g (Ok b) (Err b) → (g ≡ true) × (a ≡ b)
is_good true b e = (refl, cc)
is_good false b e = let z : ◌≡◌ {A = ℕ} 0 1 = cc in absurd (omega arith)

pub is_bad : {A : Type 0} {a : A} (g : Bool) (b : A) → Err a ≡ pick g (Ok b) (Err b) → (g ≡ false) × (a ≡ b)
is_bad true b e = let z : ◌≡◌ {A = ℕ} 0 1 = cc in absurd (omega arith)
is_bad false b e = (refl, cc)

module _ (v left : Values) {goal : Values} {o o₁ : List ℕ} {p e : ℕ} (s : SoFar goal o p o₁ e (and_then v left)) {o₂ : List ℕ} where
  -- further values are stored, and none of them was bad
  pub stored_more : {e₂ : ℕ} → Stored v o₁ e o₂ (Ok e₂) → SoFar goal o p o₂ e₂ left
  stored_more {e₂} t =
      let g = is_good v.good (e + length v.list) t.answers in
      record {
        values = s.values ++ v.list;
        put = put_then s.put (record { holds = t.put.holds; ends = g.1 });
        makes = then_then s.values v left g.0 ∙ s.makes;
      }

  -- one of them was bad
  pub stored_last : {e₂ : ℕ} → Stored v o₁ e o₂ (Err e₂) → Stored goal o p o₂ (Err e₂)
  stored_last {e₂} t =
      let b = is_bad v.good (e + length v.list) t.answers in
      let f = put_then s.put (record { holds = t.put.holds; ends = b.1 }) in
      stored_as (sym (then_bad s.values v left b.0) ∙ s.makes) (record { put = put_end f; answers = ap Err f.ends })

-- a number that is asked for by `?` is not there
pub missing : (x : Option ℕ) (i n : ℕ) (r : Result ℕ ℕ) → Err n ≡ ok_or x i → IsErrAnd r (λ e. e ≡ n) → (x ≡ None) × (r ≡ Err i)
missing (Some a) i n r h k = let z : ◌≡◌ {A = ℕ} 0 1 = cc in absurd (omega arith)
missing None i n (Ok a) h k = absurd k
missing None i n (Err e) h k = let f : n ≡ i = cc in (refl, ap Err (k ∙ f))

-- a number is stored, or none is there
module _ (x : Option ℕ) (left : Values) {goal : Values} {o o₁ : List ℕ} {p e : ℕ} (s : SoFar goal o p o₁ e (and_then (single x) left)) where
  pub one_more : (n : ℕ) → x ≡ Some n → SoFar goal o p (set o₁ e n) (e + 1) left
  one_more n h = stored_more (single x) left s (rw h (record { put = record { holds = refl; ends = refl }; answers = refl }))

  pub one_bad : x ≡ None → Stored goal o p o₁ (Err e)
  one_bad h =
      stored_last (single x) left s (rw h (record { put = put_end (put_none o₁ e); answers = ap Err (put_none o₁ e).ends }))
