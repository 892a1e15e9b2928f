-- The steps in a chunk hand out the lines of its bytes, one after another. Assumes nothing.
use Rattle.std.proofs.Common.{◌≡◌, ℕ, suc, ◌+◌, ◌<◌, ◌≤◌, Bool, true, false, List, [], ◌∷◌, ◌++◌, length, take, drop, sym, refl, ap, ◌∙◌, subst, ⊎_elim, arith, length-drop, drop_of_length-le, take-take, drop-drop}
use Rattle.rules.specs.Rules.{pick}
use Rattle.rules.proofs.Tests.{lt_or_ge}
use Rattle.print.proofs.Puts.{put_length}
use Rattle.print.proofs.Parts.{stands}
use Rattle.parse.specs.Line.{before, without_cr}
use Rattle.lines.specs.Sizes.{held_bytes}
use Rattle.lines.specs.Texts.{kept, counted, to_lf, lines_on, begun_on}
use Rattle.lines.specs.Steps.{with_line, without_line, unread, begun, gathered, holding, Scanned, line_found, handed}
use Rattle.lines.specs.declared.Lines.{Lines}
use Rattle.lines.specs.declared.Found.{Found}
use Rattle.lines.specs.declared.Found.TheVariants.{Line, Nothing, End, Failed}
use Rattle.lines.specs.declared.Step.{Step}
use Rattle.lines.proofs.Stepped.{cr_most, gathered_most, line_is, rest_is}
use Rattle.lines.proofs.Cuts.{text_over, first_line, no_line}

-- at a chunk's end no line is found
none_found : (m : Bool) (x : List ℕ) → line_found (pick m Nothing End) x ≡ []
none_found true x = refl
none_found false x = refl

found_none : (m : Bool) {n : ℕ} → pick m Nothing End ≡ Line n → ⊥
found_none true e = let z : ◌≡◌ {A = ℕ} 0 1 = cc in omega arith
found_none false e = let z : ◌≡◌ {A = ℕ} 0 1 = cc in omega arith

-- the length of a line that is found
abbrev length_of : Found → ℕ
length_of (Line n) = n
length_of Nothing = 0
length_of End = 0
length_of (Failed e) = 0

module _ (l : Lines) (chunk line₀ line₁ : List ℕ) where
  -- a step hands out the first of the lines that are left in the chunk, if there is one, and leaves the others
  abbrev pub Hands : Step → Type 0
  Hands r =
      (lines_on (begun l line₀) (unread l chunk) ≡ handed r line₁ ++ lines_on (begun r.lines line₁) (unread r.lines chunk))
      × (kept (begun_on (begun l line₀) (unread l chunk)) ≡ kept (begun_on (begun r.lines line₁) (unread r.lines chunk)))

  module _ (b : length line₀ ≡ held_bytes) {r : Step} (s : Scanned l chunk line₀ line₁ r) where
    abbrev n : ℕ
    n = before 10 (unread l chunk)

    abbrev g : List ℕ
    g = gathered l chunk line₀

    buffer_is : take (length g) line₁ ≡ g
    buffer_is = stands s.buffer (omega (arith, gathered_most l chunk line₀))

    line_text : take (without_cr g) line₁ ≡ counted g
    line_text =
        sym (take-take (without_cr g) (length g) line₁ (cr_most g)) ∙ ap (take (without_cr g)) buffer_is

    left : drop (suc n) (unread l chunk) ≡ drop (l.read + n + 1) (take l.count chunk)
    left =
        let e : l.read + suc n ≡ l.read + n + 1 = omega arith in
        drop-drop (suc n) l.read (take l.count chunk) ∙ ap (λ (k : ℕ). drop k (take l.count chunk)) e

    gathered_is : g ≡ kept (begun l line₀ ++ to_lf (unread l chunk))
    unfolding gathered
    gathered_is = refl

    hands_line : n < length (unread l chunk) → Hands (with_line (holding l (l.read + n + 1) 0) (without_cr g))
    hands_line h =
        let f = first_line (begun l line₀) (unread l chunk) h in (
          f.0
              ∙ ap (λ (x : List ℕ). counted x ∷ lines_on [] (drop (suc n) (unread l chunk))) (sym gathered_is)
              ∙ ap (λ (x : List ℕ). x ∷ lines_on [] (drop (suc n) (unread l chunk))) (sym line_text)
              ∙ ap (λ (x : List ℕ). take (without_cr g) line₁ ∷ lines_on [] x) left,
          ap kept (f.1 ∙ ap (begun_on []) left),
        )

    hands_none : length (unread l chunk) ≤ n → Hands (without_line (holding l (l.read + n) (length g)) (pick l.more Nothing End))
    hands_none h =
        let f = no_line (begun l line₀) (unread l chunk) h in
        let q : length (take l.count chunk) ≤ l.read + n = omega (arith, length-drop l.read (take l.count chunk)) in
        let o : drop (l.read + n) (take l.count chunk) ≡ [] = drop_of_length-le (take l.count chunk) q in
        let k : kept (take (length g) line₁) ≡ kept (begun l line₀ ++ unread l chunk) =
        ap kept (buffer_is ∙ gathered_is) ∙ take-take held_bytes held_bytes (begun l line₀ ++ to_lf (unread l chunk)) (omega arith)
        ∙ ap (λ (x : List ℕ). kept (begun l line₀ ++ x)) f.2 in (
          f.0
              ∙ sym
              (ap (λ (x : List (List ℕ)). x ++ lines_on (take (length g) line₁) (drop (l.read + n) (take l.count chunk)))
              (none_found l.more line₁)
              ∙ ap (lines_on (take (length g) line₁)) o ∙ (text_over (take (length g) line₁)).0),
          ap kept f.1 ∙ sym k
              ∙ ap kept (sym (ap (begun_on (take (length g) line₁)) o ∙ (text_over (take (length g) line₁)).1)),
        )

    pub scan_hands : Hands r
    scan_hands =
        ⊎_elim (λ (h : n < length (unread l chunk)). subst Hands (sym (s.answer ∙ line_is l chunk line₀ h)) (hands_line h))
        (λ (h : length (unread l chunk) ≤ n). subst Hands (sym (s.answer ∙ rest_is l chunk line₀ h)) (hands_none h))
        (lt_or_ge n (length (unread l chunk)))

    -- the line that has ended stands at the start of the buffer
    pub scanned_text : {k : ℕ} → r.found ≡ Line k → take k line₁ ≡ counted (gathered l chunk line₀)
    scanned_text {k} f =
        ⊎_elim
        (λ (h : n < length (unread l chunk)).
        ap (λ (x : Found). take (length_of x) line₁) (sym f ∙ ap (λ (x : Step). x.found) (s.answer ∙ line_is l chunk line₀ h)) ∙ line_text)
        (λ (h : length (unread l chunk) ≤ n).
        absurd (found_none l.more (sym (ap (λ (x : Step). x.found) (s.answer ∙ rest_is l chunk line₀ h)) ∙ f)))
        (lt_or_ge n (length (unread l chunk)))

-- scans one after another, each with the buffer that it leaves, until the chunk is used up
unfoldable pub Scans : List ℕ → Lines → List ℕ → List (Step × List ℕ) → Type 0
Scans chunk l line [] = unread l chunk ≡ []
Scans chunk l line ((r, line₁) ∷ ss) = Scanned l chunk line line₁ r × Scans chunk r.lines line₁ ss

unfoldable pub handed_all : List (Step × List ℕ) → List (List ℕ)
handed_all [] = []
handed_all ((r, line₁) ∷ ss) = handed r line₁ ++ handed_all ss

-- they hand out exactly the lines that end in it
pub scans_hand : (chunk : List ℕ) (l : Lines) (line : List ℕ) (ss : List (Step × List ℕ)) → length line ≡ held_bytes → Scans chunk l line ss
    → lines_on (begun l line) (unread l chunk) ≡ handed_all ss
unfolding Scans handed_all
scans_hand chunk l line [] b e = ap (lines_on (begun l line)) e ∙ (text_over (begun l line)).0
scans_hand chunk l line ((r, line₁) ∷ ss) b s =
    (scan_hands l chunk line line₁ b s.0).0
    ∙ ap (λ (x : List (List ℕ)). handed r line₁ ++ x) (scans_hand chunk r.lines line₁ ss (put_length s.0.buffer ∙ b) s.1)
