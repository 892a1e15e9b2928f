-- Laws of the steps, by their cases. Assumes nothing.
use Rattle.std.proofs.Common.{
  ◌≡◌,
  ℕ,
  ◌+◌,
  ◌-◌,
  ◌<◌,
  ◌≤◌,
  Bool,
  true,
  false,
  not,
  ◌&&◌,
  eqb,
  ltb,
  List,
  ◌++◌,
  length,
  get_or,
  take,
  sym,
  ap,
  ◌∙◌,
  subst,
  arith,
  length-drop,
  length-take,
  length-take-le,
  le-ltb,
  lt-ltb,
}
use Rattle.std.specs.Prelude.{Result, Ok, Err, IfOk}
use Rattle.rules.specs.Rules.{pick}
use Rattle.rules.proofs.Cases.{pick_cases}
use Rattle.print.specs.Put.{Put}
use Rattle.print.proofs.Puts.{put_length}
use Rattle.print.proofs.Parts.{stands}
use Rattle.parse.specs.Line.{before, without_cr, most_bytes}
use Rattle.stream.specs.declared.Errno.{Errno}
use Rattle.lines.specs.Sizes.{chunk_bytes, held_bytes}
use Rattle.lines.specs.Inside.{Inside}
use Rattle.lines.specs.Texts.{kept, to_lf}
use Rattle.lines.specs.Steps.{with_line, without_line, unread, begun, gathered, holding, scanned, Short, Scanned, chunked, closing, filled_by}
use Rattle.lines.specs.declared.Lines.{Lines}
use Rattle.lines.specs.declared.Found.{Found}
use Rattle.lines.specs.declared.Found.TheVariants.{Nothing, End}
use Rattle.lines.specs.declared.Step.{Step}

-- ---- the reader stays inside its buffers

abbrev pub Within : Step → Type 0
Within s = Inside s.lines × Short s.found

with_line_inside : (l : Lines) (n : ℕ) → Inside l → n ≤ held_bytes → Within (with_line l n)
with_line_inside l n i h = (record { place = i.place; chunk = i.chunk; line = omega arith }, h)

-- ---- on what a read gave

module _ (l : Lines) where
  pub filled_more : (n : ℕ) → 0 < n → filled_by l (Ok n) ≡ without_line (chunked l n l.more) Nothing
  unfolding filled_by
  filled_more n h = rw (lt-ltb 0 n h)

  pub filled_last : 0 < l.held → filled_by l (Ok 0) ≡ with_line (chunked l 0 false) l.held
  unfolding filled_by
  filled_last i = rw (lt-ltb 0 l.held i)

  pub filled_end : l.held ≤ 0 → filled_by l (Ok 0) ≡ without_line (chunked l 0 false) End
  unfolding filled_by
  filled_end i = rw (le-ltb 0 l.held i)

chunked_inside : (l : Lines) (n : ℕ) (m : Bool) → Inside l → n ≤ chunk_bytes → Inside (chunked l n m)
chunked_inside l n m i h = record { place = omega arith; chunk = h; line = i.line }

closing_inside : (l : Lines) → Inside l → Within (closing l)
closing_inside l i =
    pick_cases Within (ltb 0 l.held) (with_line l l.held) (without_line l End) (λ t. with_line_inside l l.held i i.line) (λ t. (i, tt))

pub filled_inside : (l : Lines) (got : Result ℕ Errno) {r : Step} → r ≡ filled_by l got → Inside l → IfOk got (λ n. n ≤ chunk_bytes)
    → Within r
unfolding filled_by
filled_inside l (Ok n) q i h =
    subst Within (sym q)
    (pick_cases Within (ltb 0 n) (without_line (chunked l n l.more) Nothing) (closing (chunked l n false))
    (λ t. (chunked_inside l n l.more i h, tt)) (λ t. closing_inside (chunked l n false) (chunked_inside l n false i h)))
filled_inside l (Err e) q i h = subst Within (sym q) (chunked_inside l 0 false i (omega arith), tt)

-- ---- in a chunk

take_least : (n : ℕ) (x : List ℕ) → length (take n x) ≤ n
take_least n x = omega (arith, length-take n x)

pub gathered_most : (l : Lines) (chunk line : List ℕ) → length (gathered l chunk line) ≤ held_bytes
unfolding gathered
gathered_most l chunk line = take_least held_bytes (begun l line ++ to_lf (unread l chunk))

pub cr_most : (l : List ℕ) → without_cr l ≤ length l
unfolding without_cr
cr_most l =
    pick_cases (λ (n : ℕ). n ≤ length l) (not (ltb most_bytes (length l)) && eqb (get_or l (length l - 1) 0) 13) (length l - 1) (length l)
    (λ t. omega arith) (λ t. omega arith)

module _ (l : Lines) (chunk line : List ℕ) where
  pub line_is : before 10 (unread l chunk) < length (unread l chunk)
      → scanned l chunk line ≡ with_line (holding l (l.read + before 10 (unread l chunk) + 1) 0) (without_cr (gathered l chunk line))
  unfolding scanned
  line_is h = rw (lt-ltb (before 10 (unread l chunk)) (length (unread l chunk)) h)

  pub rest_is : length (unread l chunk) ≤ before 10 (unread l chunk)
      → scanned l chunk line
      ≡ without_line (holding l (l.read + before 10 (unread l chunk)) (length (gathered l chunk line))) (pick l.more Nothing End)
  unfolding scanned
  rest_is h = rw (le-ltb (before 10 (unread l chunk)) (length (unread l chunk)) h)

none_short : (m : Bool) → Short (pick m Nothing End)
none_short true = tt
none_short false = tt

-- what is read of a chunk
module _ (l : Lines) (chunk : List ℕ) (i : Inside l) (c : length chunk ≡ chunk_bytes) where
  pub chunk_length : length (take l.count chunk) ≡ l.count
  chunk_length = length-take-le l.count chunk (omega (arith, i.chunk))

  unread_length : length (unread l chunk) ≡ l.count - l.read
  unread_length = length-drop l.read (take l.count chunk) ∙ ap (λ (n : ℕ). n - l.read) chunk_length

  -- what the code has gathered, up to a place in the chunk
  module _ (line₀ line₁ : List ℕ) (b : length line₀ ≡ held_bytes) (end held : ℕ) (e : end ≡ l.read + before 10 (unread l chunk))
      (o : end ≤ length (take l.count chunk)) (g : Put line₀ 0 (kept (begun l line₀ ++ to_lf (unread l chunk))) line₁ held) where
    held_is : held ≡ length (gathered l chunk line₀)
    unfolding gathered
    held_is = omega (arith, g.ends)

    held_most : held ≤ held_bytes
    held_most = omega (arith, held_is, gathered_most l chunk line₀)

    pub held_inside : held ≤ length line₁
    held_inside = omega (arith, held_most, put_length g)

    put_gathered : Put line₀ 0 (gathered l chunk line₀) line₁ (length (gathered l chunk line₀))
    unfolding gathered
    put_gathered = subst (λ (n : ℕ). Put line₀ 0 (gathered l chunk line₀) line₁ n) held_is g

    -- it stands at the start of the buffer
    pub gathered_stands : take held line₁ ≡ gathered l chunk line₀
    gathered_stands = ap (λ (n : ℕ). take n line₁) held_is ∙ stands put_gathered (omega (arith, gathered_most l chunk line₀))

    pub scanned_line : {n : ℕ} {r : Step} → end < l.count → n ≡ without_cr (take held line₁)
        → r ≡ with_line (holding l (end + 1) l.held) n → Scanned l chunk line₀ line₁ r
    scanned_line {n} {r} h k q =
        let m : n ≡ without_cr (gathered l chunk line₀) = k ∙ ap without_cr gathered_stands in
        let w =
        with_line_inside (holding l (end + 1) l.held) n (record { place = omega arith; chunk = i.chunk; line = i.line })
        (omega (arith, m, cr_most (gathered l chunk line₀), gathered_most l chunk line₀)) in
        let v = subst Within (sym q) w in
        record {
          answer = q ∙ ap (λ (x : ℕ). with_line (holding l (end + 1) 0) x) m
              ∙ ap (λ (x : ℕ). with_line (holding l (x + 1) 0) (without_cr (gathered l chunk line₀))) e
              ∙ sym (line_is l chunk line₀ (omega (arith, unread_length, i.place)));
          buffer = put_gathered;
          inside = v.0;
          short = v.1;
        }

    pub scanned_rest : (f : Found) {r : Step} → l.count ≤ end → pick l.more Nothing End ≡ f → r ≡ without_line (holding l end held) f
        → Scanned l chunk line₀ line₁ r
    scanned_rest f {r} h k q =
        let w : Within (without_line (holding l end held) f) = (
          record { place = omega (arith, chunk_length); chunk = i.chunk; line = held_most },
          subst Short k (none_short l.more),
        ) in
        let v = subst Within (sym q) w in
        record {
          answer = q ∙ ap (λ (x : ℕ). without_line (holding l end x) f) held_is
              ∙ ap (λ (x : Found). without_line (holding l end (length (gathered l chunk line₀))) x) (sym k)
              ∙ ap (λ (x : ℕ). without_line (holding l x (length (gathered l chunk line₀))) (pick l.more Nothing End)) e
              ∙ sym (rest_is l chunk line₀ (omega (arith, unread_length, i.place)));
          buffer = put_gathered;
          inside = v.0;
          short = v.1;
        }
