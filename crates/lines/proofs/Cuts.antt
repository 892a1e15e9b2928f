-- Laws of the lines of a text: it may be cut anywhere, and of a line no more need be known than is kept. Assumes nothing.
use Rattle.std.proofs.Common.{◌≡◌, ℕ, zero, suc, ◌<◌, ◌≤◌, true, false, eqb, List, [], ◌∷◌, ◌++◌, length, take, drop, sym, refl, ap, ◌∙◌, ⊎_elim, append_assoc, append-nil, arith, take-take}
use Rattle.rules.proofs.Tests.{bool_cases}
use Rattle.parse.specs.Line.{lead, before}
use Rattle.lines.specs.Sizes.{held_bytes}
use Rattle.lines.specs.Texts.{kept, counted, to_lf, lines_on, begun_on}

-- ---- a text that is cut in two

pub text_over : (w : List ℕ) → (lines_on w [] ≡ []) × (begun_on w [] ≡ w)
unfolding lines_on begun_on
text_over w = (refl, refl)

pub begun_append : (w a b : List ℕ) → begun_on w (a ++ b) ≡ begun_on (begun_on w a) b
unfolding begun_on
begun_append w [] b = refl
begun_append w (x ∷ a) b =
    ⊎_elim (λ (e : eqb x 10 ≡ true). simp e (begun_append [] a b)) (λ (e : eqb x 10 ≡ false). simp e (begun_append (w ++ (x ∷ [])) a b))
    (bool_cases (eqb x 10))

pub lines_append : (w a b : List ℕ) → lines_on w (a ++ b) ≡ lines_on w a ++ lines_on (begun_on w a) b
unfolding lines_on begun_on
lines_append w [] b = refl
lines_append w (x ∷ a) b =
    ⊎_elim (λ (e : eqb x 10 ≡ true). simp e (ap (λ (l : List (List ℕ)). counted (kept w) ∷ l) (lines_append [] a b)))
    (λ (e : eqb x 10 ≡ false). simp e (lines_append (w ++ (x ∷ [])) a b)) (bool_cases (eqb x 10))

-- ---- what is kept

take_again : (n : ℕ) (w t : List ℕ) → take n (take n w ++ t) ≡ take n (w ++ t)
take_again zero w t = refl
take_again (suc n) [] t = refl
take_again (suc n) (x ∷ w) t = ap (λ (l : List ℕ). x ∷ l) (take_again n w t)

kept_more : (w v t : List ℕ) → kept w ≡ kept v → kept (w ++ t) ≡ kept (v ++ t)
kept_more w v t e =
    sym (take_again held_bytes w t) ∙ ap (λ (l : List ℕ). take held_bytes (l ++ t)) e ∙ take_again held_bytes v t

-- of what was read of a line before, no more counts than is kept
pub lines_kept : (w v t : List ℕ) → kept w ≡ kept v → lines_on w t ≡ lines_on v t
unfolding lines_on
lines_kept w v [] e = refl
lines_kept w v (x ∷ t) e =
    ⊎_elim (λ (f : eqb x 10 ≡ true). simp f (ap (λ (k : List ℕ). counted k ∷ lines_on [] t) e))
    (λ (f : eqb x 10 ≡ false). simp f (lines_kept (w ++ (x ∷ [])) (v ++ (x ∷ [])) t (kept_more w v (x ∷ []) e))) (bool_cases (eqb x 10))

pub begun_kept : (w v t : List ℕ) → kept w ≡ kept v → kept (begun_on w t) ≡ kept (begun_on v t)
unfolding begun_on
begun_kept w v [] e = e
begun_kept w v (x ∷ t) e =
    ⊎_elim (λ (f : eqb x 10 ≡ true). simp f)
    (λ (f : eqb x 10 ≡ false). simp f (begun_kept (w ++ (x ∷ [])) (v ++ (x ∷ [])) t (kept_more w v (x ∷ []) e))) (bool_cases (eqb x 10))

-- what is held at a cut is enough
pub lines_cut : (w a b : List ℕ) → lines_on w (a ++ b) ≡ lines_on w a ++ lines_on (kept (begun_on w a)) b
lines_cut w a b =
    lines_append w a b
    ∙ ap (λ (l : List (List ℕ)). lines_on w a ++ l)
    (lines_kept (begun_on w a) (kept (begun_on w a)) b (sym (take-take held_bytes held_bytes (begun_on w a) (omega arith))))

-- ---- up to the first LF

pub first_line : (w t : List ℕ) → before 10 t < length t
    → (lines_on w t ≡ counted (kept (w ++ to_lf t)) ∷ lines_on [] (drop (suc (before 10 t)) t))
    × (begun_on w t ≡ begun_on [] (drop (suc (before 10 t)) t))
unfolding lead lines_on begun_on
first_line w [] h = absurd (omega arith)
first_line w (x ∷ t) h =
    ⊎_elim (λ (f : eqb x 10 ≡ true). simp (f, append-nil) (refl, refl))
    (λ (f : eqb x 10 ≡ false).
    let k : suc (before 10 t) < suc (length t) = simp f at h in
    let i = first_line (w ++ (x ∷ [])) t (omega arith) in
    let j : (w ++ (x ∷ [])) ++ to_lf t ≡ w ++ (x ∷ to_lf t) = append_assoc w (x ∷ []) (to_lf t) in
    simp f (i.0 ∙ ap (λ (l : List ℕ). counted (kept l) ∷ lines_on [] (drop (suc (before 10 t)) t)) j, i.1)) (bool_cases (eqb x 10))

pub no_line : (w t : List ℕ) → length t ≤ before 10 t → (lines_on w t ≡ []) × (begun_on w t ≡ w ++ t) × (to_lf t ≡ t)
unfolding lead lines_on begun_on
no_line w [] h = (refl, sym (append-nil w), refl)
no_line w (x ∷ t) h =
    ⊎_elim (λ (f : eqb x 10 ≡ true). let k : suc (length t) ≤ 0 = simp f at h in absurd (omega arith))
    (λ (f : eqb x 10 ≡ false).
    let k : suc (length t) ≤ suc (before 10 t) = simp f at h in
    let i = no_line (w ++ (x ∷ [])) t (omega arith) in
    simp f (i.0, i.1 ∙ append_assoc w (x ∷ []) t, ap (λ (l : List ℕ). x ∷ l) i.2)) (bool_cases (eqb x 10))
