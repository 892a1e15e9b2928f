-- Laws of what is shown. Assumes nothing.
use mathlib.Core.Bool.{Bool}
use mathlib.Core.List.{List, [], ◌∷◌, ◌++◌}
use mathlib.Core.Path.{◌≡◌, refl, sym, ap, ◌∙◌}
use Prim.Native.Nat.{ℕ, ◌+◌, ◌-◌, ◌≤◌}
use native.Mathlib.Nat.{add-zero}
use native.Mathlib.Omega.{arith}
use lib.ListN.{length, take, drop, length-append, length-drop, drop_of_length-le}
use lib.Seq.{take-take, drop-length, length-take-le}
use Rattle.print.specs.Put.{Put}
use Rattle.print.specs.Text.{bytes, line_end}
use Rattle.print.proofs.Puts.{put_none, put_then, put_as, put_length, room_then}
use Rattle.print.proofs.Parts.{put_there, behind_put}
use Rattle.parse.specs.Line.{before, same}
use Rattle.form.specs.Shown.{above, mark, wanted, said, verdict, compared, answered, aside, standing}
use Rattle.form.specs.declared.Form.{Form}
use Rattle.form.specs.declared.Form.TheVariants.{Alone, Beside, Under}

-- ---- the line

module _ (f : Form) (line : List ℕ) where
  pub above_alone : f ≡ Alone → above f line ≡ []
  unfolding above
  above_alone e = ap (λ (g : Form). above g line) e

  pub above_beside : f ≡ Beside → above f line ≡ []
  unfolding above
  above_beside e = ap (λ (g : Form). above g line) e

  pub above_under : f ≡ Under → above f line ≡ line ++ line_end
  unfolding above
  above_under e = ap (λ (g : Form). above g line) e

-- ---- what is wanted

module _ (line : List ℕ) (i : ℕ) (e : i ≡ before 35 line) where
  pub wanted_there : drop (i + 2) line ≡ wanted line
  unfolding wanted
  wanted_there = ap (λ (k : ℕ). drop (k + 2) line) e

  pub wanted_none : length line ≤ i + 2 → drop (length line) line ≡ wanted line
  wanted_none h = drop-length line ∙ sym (drop_of_length-le line h) ∙ wanted_there

-- ---- an answer

module _ (f : Form) (line : List ℕ) where
  pub aside_none : (a : List ℕ) → length a ≡ 0 → aside f line a ≡ []
  unfolding aside
  aside_none [] h = refl
  aside_none (b ∷ bs) h = absurd (omega arith)

  pub aside_some : (a : List ℕ) → (length a ≡ 0 → ⊥) → aside f line a ≡ answered f line a
  unfolding aside
  aside_some [] h = absurd (h refl)
  aside_some (b ∷ bs) h = refl

-- n bytes that stand behind the mark
module _ (f : Form) (line o : List ℕ) (p n : ℕ) (h : p + length (mark f) + n ≤ length o) where
  standing_length : length (standing f o p n) ≡ n
  standing_length =
      length-take-le n (drop (p + length (mark f)) o) (omega (arith, length-drop (p + length (mark f)) o))

  pub put_aside_none : n ≡ 0 → Put o p (aside f line (standing f o p n)) o p
  put_aside_none z = put_as (put_none o p) (sym (aside_none f line (standing f o p n) (standing_length ∙ z)))

  module _ (some : n ≡ 0 → ⊥) where
    -- an answer that a form shows as it is
    shows : (g : Form) → f ≡ g → answered g line (standing g o p n) ≡ aside f line (standing f o p n)
    shows g e =
        ap (λ (x : Form). answered x line (standing x o p n)) (sym e)
        ∙ sym (aside_some f line (standing f o p n) (λ z. some (sym standing_length ∙ z)))

    pub put_aside_alone : f ≡ Alone → Put o p (aside f line (standing f o p n)) o (p + n)
    put_aside_alone e =
        let m : length (mark f) ≡ 0 = ap (λ (x : Form). length (mark x)) e in
        put_as (put_there o p n (p + n) refl (omega arith))
        (ap (λ (k : ℕ). take n (drop k o)) (sym (add-zero p)) ∙ shows Alone e)

    pub beside_text : f ≡ Beside
        → compared (take (p + n - 1 - p) (drop p o)) (wanted line) ≡ aside f line (standing f o p n)
    beside_text e =
        let a : p + n - 1 - p ≡ n - 1 = omega arith in
        let l : length (standing Beside o p n) ≡ n = ap (λ (x : Form). length (standing x o p n)) (sym e) ∙ standing_length in
        let t : take (p + n - 1 - p) (drop p o) ≡ said (standing Beside o p n) =
        ap (λ (k : ℕ). take k (drop p o)) a ∙ ap (λ (k : ℕ). take (n - 1) (drop k o)) (sym (add-zero p))
        ∙ sym (take-take (n - 1) n (drop (p + 0) o) (omega arith)) ∙ ap (λ (k : ℕ). take (k - 1) (standing Beside o p n)) (sym l) in
        ap (λ (x : List ℕ). compared x (wanted line)) t ∙ shows Beside e

    pub put_aside_under : {o₁ : List ℕ} {m : ℕ} → f ≡ Under → Put o p (mark Under) o₁ m
        → Put o p (aside f line (standing f o p n)) o₁ (m + n)
    put_aside_under {o₁} {m} e q =
        let i : length (mark f) ≡ 3 = ap (λ (x : Form). length (mark x)) e in
        let j : m ≡ p + 3 = q.ends in
        let r : m + n ≤ length o₁ = omega (arith, put_length q) in
        let b : take n (drop m o₁) ≡ take n (drop (p + 3) o) =
        ap (take n) (behind_put q) ∙ ap (λ (k : ℕ). take n (drop k o)) j in
        put_as (put_then q (put_as (put_there o₁ m n (m + n) refl r) b)) (shows Under e)

-- ---- what is wanted beside what was said

-- what stands from p to e
abbrev between : List ℕ → ℕ → ℕ → List ℕ
between o p e = take (e - p) (drop p o)

module _ (o line : List ℕ) (p e : ℕ) (h : p ≤ e) (k : e ≤ length o) where
  put_said : Put o p (between o p e) o e
  put_said = put_there o p (e - p) e (omega arith) k

  module _ (w : List ℕ) (b : Bool) (i : w ≡ wanted line) (j : b ≡ same (between o p e) w) where
    pieces : between o p e ++ (bytes " | wanted " ++ (w ++ verdict b)) ≡ compared (between o p e) (wanted line)
    pieces =
        ap (λ (c : Bool). between o p e ++ (bytes " | wanted " ++ (w ++ verdict c))) j ∙ ap (λ (v : List ℕ). compared (between o p e) v) i

    -- the room of all is room for its pieces
    pub room_wanted : p + length (compared (between o p e) (wanted line)) ≤ length o → e + 10 + length w + length (verdict b) ≤ length o
    room_wanted r =
        let q : p + length (between o p e ++ (bytes " | wanted " ++ (w ++ verdict b))) ≤ length o = rw pieces r in
        omega (arith, room_then (bytes " | wanted " ++ (w ++ verdict b)) put_said q, length-append w (verdict b))

    pub put_compared : {o₁ o₂ o₃ : List ℕ} {m n t : ℕ} → Put o e (bytes " | wanted ") o₁ m → Put o₁ m w o₂ n → Put o₂ n (verdict b) o₃ t
        → Put o p (compared (between o p e) (wanted line)) o₃ t
    put_compared x y z = put_as (put_then put_said (put_then x (put_then y z))) pieces
