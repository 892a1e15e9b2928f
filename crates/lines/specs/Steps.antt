-- The steps of a reader of lines: in a chunk, and on what a read gave.
use Rattle.std.specs.Prelude.{◌≡◌, ℕ, ◌+◌, ◌%◌, ◌^◌, ◌≤◌, Bool, true, false, List, [], ◌∷◌, ◌++◌, length, take, drop, nat_lt, ⊤, Result, Ok, Err}
use Rattle.rules.specs.Rules.{pick}
use Rattle.print.specs.Put.{Put}
use Rattle.parse.specs.Line.{before, without_cr}
use Rattle.stream.specs.declared.Errno.{Errno}
use Rattle.lines.specs.Sizes.{held_bytes}
use Rattle.lines.specs.Inside.{Inside}
use Rattle.lines.specs.Texts.{kept, to_lf}
use Rattle.lines.specs.declared.Lines.{Lines}
use Rattle.lines.specs.declared.Found.{Found}
use Rattle.lines.specs.declared.Found.TheVariants.{Line, Nothing, End, Failed}
use Rattle.lines.specs.declared.Step.{Step}

-- no line is read yet
abbrev pub no_line : Lines
no_line = record { ended = 0; count = 0; read = 0; held = 0; more = true }

-- no line ends by a step
abbrev pub without_line : Lines → Found → Step
without_line l f = record { lines = l; found = f }

-- a line of n bytes ends by it; lines are counted modulo 2^64
abbrev pub with_line : Lines → ℕ → Step
with_line l n = record {
  lines = record { ended = (l.ended + 1) % 2 ^ 64; count = l.count; read = l.read; held = 0; more = l.more };
  found = Line n;
}

-- ---- in a chunk

-- the bytes of a chunk that are not read yet
abbrev pub unread : Lines → List ℕ → List ℕ
unread l chunk = drop l.read (take l.count chunk)

-- what is kept of the line that has begun
abbrev pub begun : Lines → List ℕ → List ℕ
begun l line = take l.held line

-- the same with the bytes up to the next LF, or to the chunk's end
unfoldable pub gathered : Lines → List ℕ → List ℕ → List ℕ
gathered l chunk line = kept (begun l line ++ to_lf (unread l chunk))

-- r bytes of the chunk are read, and h of the line are held
abbrev pub holding : Lines → ℕ → ℕ → Lines
holding l r h = record { ended = l.ended; count = l.count; read = r; held = h; more = l.more }

-- where the chunk has a LF more, a line has ended, and the LF is read too; else all is read, and more may come or not
unfoldable pub scanned : Lines → List ℕ → List ℕ → Step
scanned l chunk line =
    let n = before 10 (unread l chunk) in
    let g = gathered l chunk line in
    pick (nat_lt n (length (unread l chunk))) (with_line (holding l (l.read + n + 1) 0) (without_cr g))
    (without_line (holding l (l.read + n) (length g)) (pick l.more Nothing End))

-- a line that is found is no longer than is held
abbrev pub Short : Found → Type 0
Short (Line n) = n ≤ held_bytes
Short Nothing = ⊤
Short End = ⊤
Short (Failed e) = ⊤

-- what the code answers and leaves in the buffer of the line
pub record Scanned (l : Lines) (chunk line₀ line₁ : List ℕ) (r : Step) : Type 0 where
  pub answer : r ≡ scanned l chunk line₀
  pub buffer : Put line₀ 0 (gathered l chunk line₀) line₁ (length (gathered l chunk line₀))
  pub inside : Inside r.lines
  pub short : Short r.found

-- a line, where one was found, at the start of its buffer
abbrev pub line_found : Found → List ℕ → List (List ℕ)
line_found (Line n) line = take n line ∷ []
line_found Nothing line = []
line_found End line = []
line_found (Failed e) line = []

-- what a step hands out of the buffer of the line
abbrev pub handed : Step → List ℕ → List (List ℕ)
handed r line = line_found r.found line

-- ---- on what a read gave

-- n bytes are in the chunk, and none of them is read
abbrev pub chunked : Lines → ℕ → Bool → Lines
chunked l n o = record { ended = l.ended; count = n; read = 0; held = l.held; more = o }

-- the end of a file: a last line without LF; or nothing more
abbrev pub closing : Lines → Step
closing l = pick (nat_lt 0 l.held) (with_line l l.held) (without_line l End)

-- a read of n bytes, where the file has ended if there are none; or an error that stopped it
unfoldable pub filled_by : Lines → Result ℕ Errno → Step
filled_by l (Ok n) = pick (nat_lt 0 n) (without_line (chunked l n l.more) Nothing) (closing (chunked l n false))
filled_by l (Err e) = without_line (chunked l 0 false) (Failed e)
