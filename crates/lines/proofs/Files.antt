-- The lines that a reader hands out are those of the file, however it is cut into reads. Assumes nothing.
use Rattle.std.proofs.Common.{◌≡◌, ℕ, ◌<◌, ◌≤◌, List, [], ◌∷◌, ◌++◌, length, take, sym, refl, ap, ◌∙◌, ⊎_elim, append_assoc, arith, length-take, take_all, take-take}
use Rattle.std.specs.Prelude.{Ok}
use Rattle.rules.proofs.Tests.{lt_or_ge}
use Rattle.print.proofs.Puts.{put_length}
use Rattle.parse.specs.Line.{ended}
use Rattle.lines.specs.Sizes.{chunk_bytes, held_bytes}
use Rattle.lines.specs.Inside.{Inside}
use Rattle.lines.specs.Texts.{kept, lines_on, begun_on, lines_of}
use Rattle.lines.specs.Steps.{no_line, unread, begun, handed, filled_by}
use Rattle.lines.specs.declared.Lines.{Lines}
use Rattle.lines.specs.declared.Step.{Step}
use Rattle.lines.proofs.Stepped.{filled_more, filled_last, filled_end, filled_inside}
use Rattle.lines.proofs.Cuts.{text_over, lines_cut, begun_append, begun_kept}
use Rattle.lines.proofs.Handed.{Scans, handed_all, scan_hands, scans_hand}

-- the reader and the buffer of its line after scans
abbrev pub after : Lines → List ℕ → List (Step × List ℕ) → Lines × List ℕ
after l line [] = (l, line)
after l line ((r, line₁) ∷ ss) = after r.lines line₁ ss

-- what is held is no more than is kept
kept_begun : (l : Lines) (line : List ℕ) → Inside l → kept (begun l line) ≡ begun l line
kept_begun l line i = take_all held_bytes (begun l line) (omega (arith, length-take l.held line, i.line))

module _ (chunk : List ℕ) where
  -- at the end of a chunk what it has begun is held
  pub scans_held : (l : Lines) (line : List ℕ) (ss : List (Step × List ℕ)) → Inside l → length line ≡ held_bytes → Scans chunk l line ss
      → (kept (begun_on (begun l line) (unread l chunk)) ≡ begun (after l line ss).0 (after l line ss).1)
      × Inside (after l line ss).0 × (length (after l line ss).1 ≡ held_bytes)
  unfolding Scans
  scans_held l line [] i b e =
      (ap (λ (x : List ℕ). kept (begun_on (begun l line) x)) e ∙ ap kept (text_over (begun l line)).1 ∙ kept_begun l line i, i, b)
  scans_held l line ((r, line₁) ∷ ss) i b s =
      let h = scans_held r.lines line₁ ss s.0.inside (put_length s.0.buffer ∙ b) s.1 in
      ((scan_hands l chunk line line₁ b s.0).1 ∙ h.0, h.1, h.2)

-- a read of some bytes into a buffer, and the scans through them
pub record Chunk : Type 0 where
  pub count : ℕ
  pub buffer : List ℕ
  pub scans : List (Step × List ℕ)

-- the bytes of reads
abbrev pub bytes_of : List Chunk → List ℕ
bytes_of [] = []
bytes_of (k ∷ ks) = take k.count k.buffer ++ bytes_of ks

-- each read gives some bytes, and they are scanned
unfoldable pub Reads : Lines → List ℕ → List Chunk → Type 0
Reads l line [] = l ≡ l
Reads l line (k ∷ ks) =
    let m = (filled_by l (Ok k.count)).lines in
    (0 < k.count) × (k.count ≤ chunk_bytes) × Scans k.buffer m line k.scans
    × Reads (after m line k.scans).0 (after m line k.scans).1 ks

-- the lines that are handed out, up to the last, which need not end in LF
unfoldable pub handed_from : Lines → List ℕ → List Chunk → List (List ℕ)
handed_from l line [] = handed (filled_by l (Ok 0)) line
handed_from l line (k ∷ ks) =
    let a = after (filled_by l (Ok k.count)).lines line k.scans in
    handed_all k.scans ++ handed_from a.0 a.1 ks

ended_none : (w : List ℕ) → length w ≤ 0 → ended w ≡ []
ended_none [] h = refl
ended_none (b ∷ w) h = absurd (omega arith)

ended_some : (w : List ℕ) → 0 < length w → ended w ≡ w ∷ []
ended_some [] h = absurd (omega arith)
ended_some (b ∷ w) h = refl

last_line : (l : Lines) (line : List ℕ) → l.held ≤ length line → handed (filled_by l (Ok 0)) line ≡ ended (begun l line)
last_line l line h =
    ⊎_elim
    (λ (k : 0 < l.held).
    ap (λ (r : Step). handed r line) (filled_last l k)
    ∙ sym (ended_some (begun l line) (omega (arith, length-take l.held line))))
    (λ (k : l.held ≤ 0).
    ap (λ (r : Step). handed r line) (filled_end l k)
    ∙ sym (ended_none (begun l line) (omega (arith, length-take l.held line))))
    (lt_or_ge 0 l.held)

-- the lines of a text of which w is read already
abbrev from : List ℕ → List ℕ → List (List ℕ)
from w text = lines_on w text ++ ended (kept (begun_on w text))

from_cut : (w a b : List ℕ) → from w (a ++ b) ≡ lines_on w a ++ from (kept (begun_on w a)) b
from_cut w a b =
    let v = begun_on w a in
    let e : kept (begun_on w (a ++ b)) ≡ kept (begun_on (kept v) b) =
    ap kept (begun_append w a b) ∙ begun_kept v (kept v) b (sym (take-take held_bytes held_bytes v (omega arith))) in
    ap (λ (x : List (List ℕ)). x ++ ended (kept (begun_on w (a ++ b)))) (lines_cut w a b)
    ∙ ap (λ (x : List ℕ). (lines_on w a ++ lines_on (kept v) b) ++ ended x) e
    ∙ append_assoc (lines_on w a) (lines_on (kept v) b) (ended (kept (begun_on (kept v) b)))

from_none : (w : List ℕ) → from w [] ≡ ended (kept w)
from_none w =
    ap (λ (x : List (List ℕ)). x ++ ended (kept (begun_on w []))) (text_over w).0 ∙ ap (λ (x : List ℕ). ended (kept x)) (text_over w).1

-- what a read begins with
read_begins : (l : Lines) (line : List ℕ) (k : Chunk) → 0 < k.count
    → (begun (filled_by l (Ok k.count)).lines line ≡ begun l line)
    × (unread (filled_by l (Ok k.count)).lines k.buffer ≡ take k.count k.buffer)
read_begins l line k h =
    let q = filled_more l k.count h in
    (ap (λ (r : Step). begun r.lines line) q, ap (λ (r : Step). unread r.lines k.buffer) q)

reads_hand : (l : Lines) (line : List ℕ) (ks : List Chunk) → Inside l → length line ≡ held_bytes → Reads l line ks
    → handed_from l line ks ≡ from (begun l line) (bytes_of ks)
unfolding Reads handed_from
reads_hand l line [] i b e =
    last_line l line (omega (arith, i.line)) ∙ sym (from_none (begun l line) ∙ ap ended (kept_begun l line i))
reads_hand l line (k ∷ ks) i b e =
    let m = (filled_by l (Ok k.count)).lines in
    let t = after m line k.scans in
    let a = take k.count k.buffer in
    let w = begun l line in
    let r = read_begins l line k e.0 in
    let s = scans_held k.buffer m line k.scans (filled_inside l (Ok k.count) refl i e.1).0 b e.2 in
    let j : lines_on w a ≡ handed_all k.scans =
    ap (λ (x : List ℕ). lines_on x a) (sym r.0) ∙ ap (lines_on (begun m line)) (sym r.1)
    ∙ scans_hand k.buffer m line k.scans b e.2 in
    let g : kept (begun_on w a) ≡ begun t.0 t.1 =
    ap (λ (x : List ℕ). kept (begun_on x a)) (sym r.0) ∙ ap (λ (x : List ℕ). kept (begun_on (begun m line) x)) (sym r.1) ∙ s.0 in
    sym
    (from_cut w a (bytes_of ks) ∙ ap (λ (x : List (List ℕ)). x ++ from (kept (begun_on w a)) (bytes_of ks)) j
    ∙ ap (λ (x : List ℕ). handed_all k.scans ++ from x (bytes_of ks)) g
    ∙ ap (λ (x : List (List ℕ)). handed_all k.scans ++ x) (sym (reads_hand t.0 t.1 ks s.1 s.2 e.3)))

-- from the start of a file: its lines
pub file_lines : (line : List ℕ) (ks : List Chunk) → length line ≡ held_bytes → Reads no_line line ks
    → handed_from no_line line ks ≡ lines_of (bytes_of ks)
file_lines line ks b e =
    reads_hand no_line line ks (record { place = omega arith; chunk = omega arith; line = omega arith }) b e
