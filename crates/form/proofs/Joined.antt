-- A line, its answer and what stands beside it, put one after another, are what is shown; and the room that they need. Assumes nothing.
use mathlib.Core.Bool.{Bool, true, false}
use mathlib.Core.Logic.{⊎_elim}
use mathlib.Core.List.{List, [], ◌∷◌, ◌++◌}
use mathlib.Core.Path.{◌≡◌, refl, sym, ap, subst, ◌∙◌}
use Prim.Native.Nat.{ℕ, ◌+◌, ◌-◌, ◌≤◌}
use native.Mathlib.Nat.{add-zero}
use native.Mathlib.Omega.{arith}
use lib.ListN.{length, take, drop, length-append, length-take, length-drop}
use lib.Seq.{sets}
use Rattle.rules.proofs.Tests.{same_or_not}
use Rattle.print.specs.Put.{Put}
use Rattle.print.specs.Text.{bytes, line_end}
use Rattle.print.proofs.Puts.{put_then, put_as, put_length, room_then}
use Rattle.print.proofs.Parts.{put_rest, put_over, stands}
use Rattle.parse.specs.Line.{same}
use Rattle.form.specs.Shown.{above, mark, wanted, said, verdict, answered, aside, shown, standing}
use Rattle.form.specs.declared.Form.{Form}
use Rattle.form.specs.declared.Form.TheVariants.{Alone, Beside, Under}
use Rattle.form.proofs.Shows.{aside_none, aside_some}

-- ---- lengths

pub mark_most : (f : Form) → length (mark f) ≤ 3
mark_most Alone = omega arith
mark_most Beside = omega arith
mark_most Under = omega arith

pub above_most : (f : Form) (line : List ℕ) → length (above f line) ≤ length line + 1
unfolding above
above_most Alone line = omega arith
above_most Beside line = omega arith
above_most Under line = omega (arith, length-append line line_end)

wanted_most : (line : List ℕ) → length (wanted line) ≤ length line
unfolding wanted
wanted_most line = simp length-drop (omega arith)

verdict_length : (b : Bool) → (8 ≤ length (verdict b)) × (length (verdict b) ≤ 11)
verdict_length true = (omega arith, omega arith)
verdict_length false = (omega arith, omega arith)

module _ (line : List ℕ) where
  beside_length : (a : List ℕ) → length (answered Beside line a)
      ≡ length a - 1 + (10 + (length (wanted line) + length (verdict (same (said a) (wanted line)))))
  beside_length a =
      let v = verdict (same (said a) (wanted line)) in
      length-append (said a) (bytes " | wanted " ++ (wanted line ++ v))
      ∙ omega (arith, length-take (length a - 1) a, length-append (wanted line) v)

  answered_least : (f : Form) (a : List ℕ) → length (mark f) + length a ≤ length (answered f line a)
  answered_least Alone a = omega arith
  answered_least Beside a = omega (arith, beside_length a, (verdict_length (same (said a) (wanted line))).0)
  answered_least Under a = omega arith

  answered_most : (f : Form) (a : List ℕ) → (length a ≡ 0 → ⊥)
      → length (above f line) + length (answered f line a) ≤ length line + length a + 20
  unfolding above
  answered_most Alone a h = omega arith
  answered_most Beside a h = omega (arith, beside_length a, (verdict_length (same (said a) (wanted line))).1, wanted_most line)
  answered_most Under a h = omega (arith, length-append line line_end)

  pub aside_least : (f : Form) (a : List ℕ) → (length a ≡ 0 → ⊥) → length (mark f) + length a ≤ length (aside f line a)
  aside_least f a h = omega (arith, ap length (aside_some f line a h), answered_least f a)

  pub shown_most_lem : (f : Form) (a : List ℕ) → length (shown f line a) ≤ length line + length a + 20
  shown_most_lem f a =
      let e = length-append (above f line) (aside f line a) in
      ⊎_elim (λ (z : length a ≡ 0). omega (arith, e, above_most f line, ap length (aside_none f line a z)))
      (λ (h : length a ≡ 0 → ⊥). omega (arith, e, ap length (aside_some f line a h), answered_most f a h)) (same_or_not (length a) 0)

-- ---- all together

module _ (f : Form) (line text : List ℕ) {o o₁ rest : List ℕ} {p m : ℕ} (s k : ℕ) (x : Put o p (above f line) o₁ m)
    (i : s ≡ m + length (mark f)) (y : Put (take (length o₁ - s) (drop s o₁)) 0 text rest k) (h : s + length text ≤ length o₁) where
  abbrev o₂ : List ℕ
  o₂ = take s o₁ ++ (rest ++ drop (length o₁ - s) (drop s o₁))

  answer_put : Put o₁ s text o₂ (s + k)
  answer_put = put_rest o₁ s 0 s (add-zero s) y

  -- the answer stands where it is looked for
  pub answer_stands : standing f o₂ m k ≡ text
  answer_stands =
      let e : k ≡ length text = y.ends ∙ omega arith in
      ap (λ (n : ℕ). take k (drop n o₂)) (sym i) ∙ ap (λ (n : ℕ). take n (drop s o₂)) e ∙ stands answer_put (omega (arith, e))

  -- the room of all is room for what stands beside the line
  pub room_standing : m + length (mark f) + k ≤ length o₂
  room_standing = omega (arith, y.ends, put_length answer_put)

  module _ (r : p + length (shown f line text) ≤ length o) where
    pub room_aside : m + length (aside f line (standing f o₂ m k)) ≤ length o₂
    room_aside =
        let e = ap (λ (a : List ℕ). length (aside f line a)) answer_stands in
        omega (arith, e, put_length answer_put, room_then (aside f line text) x r)

    pub put_shown : {o₃ : List ℕ} {e : ℕ} → Put o₂ m (aside f line (standing f o₂ m k)) o₃ e → Put o p (shown f line text) o₃ e
    put_shown {o₃} {e} z = put_then x (⊎_elim none some (same_or_not (length text) 0))
      where
        w : Put o₂ m (aside f line text) o₃ e
        w = put_as z (ap (aside f line) answer_stands)

        none : length text ≡ 0 → Put o₁ m (aside f line text) o₃ e
        none t = subst (λ (l : List ℕ). Put l m (aside f line text) o₃ e) (answer_put.holds ∙ nothing text t) w
          where
            nothing : (l : List ℕ) → length l ≡ 0 → sets o₁ s l ≡ o₁
            nothing [] q = refl
            nothing (b ∷ bs) q = absurd (omega arith)

        some : (length text ≡ 0 → ⊥) → Put o₁ m (aside f line text) o₃ e
        some t =
            put_over o₁ m answer_put w (omega arith) (omega (arith, aside_least line f text t, y.ends, w.ends))
            (omega (arith, w.ends, room_then (aside f line text) x r))
