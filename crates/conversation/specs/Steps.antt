-- The steps of a conversation.
use Rattle.std.specs.Prelude.{ℕ, ◌≤◌, true, List, ◌≡◌, length, take, ⊤, Result, IfOk, IfErr}
use Rattle.store.specs.Held.{held, Reached}
use Rattle.stream.specs.declared.Errno.{Errno}
use Rattle.stream.specs.Stops.{Stops}
use Rattle.lines.specs.Sizes.{chunk_bytes, held_bytes}
use Rattle.lines.specs.Inside.{Inside}
use Rattle.lines.specs.Steps.{no_line, filled_by, Scanned}
use Rattle.lines.specs.declared.Lines.{Lines}
use Rattle.lines.specs.declared.Found.{Found}
use Rattle.lines.specs.declared.Found.TheVariants as F
use Rattle.lines.specs.declared.Step as lines
use Rattle.form.specs.declared.Form.{Form}
use Rattle.language.specs.Vocabulary.{memory_bytes}
use Rattle.language.specs.State.{console}
use Rattle.language.specs.Line.{answered}
use Rattle.conversation.specs.Sizes.{out_bytes}
use Rattle.conversation.specs.Answers.{Shows}
use Rattle.conversation.specs.declared.Conversation.{Conversation}
use Rattle.conversation.specs.declared.Event.{Event}
use Rattle.conversation.specs.declared.Event.TheVariants as E
use Rattle.conversation.specs.declared.Shown.{Shown}
use Rattle.conversation.specs.declared.Step.{Step}

-- no line is read yet, and all of the memory is lent
abbrev pub none_read : Conversation
none_read = record { lent = memory_bytes; lines = no_line }

-- what holds between steps, with the words that hold the controller
pub record Kept (s : Conversation) (words : List ℕ) : Type 0 where
  pub reached : Reached words
  pub lent : s.lent ≤ memory_bytes
  pub lines : Inside s.lines

-- the buffers, each of its size
pub record Sized (m c l o : List ℕ) : Type 0 where
  pub memory : length m ≡ memory_bytes
  pub chunk : length c ≡ chunk_bytes
  pub line : length l ≡ held_bytes
  pub out : length o ≡ out_bytes

-- a step of the reader of lines: by a read that gave some bytes or an error that may stop a run, where the chunk is used up and more may
-- come; or in the chunk
pub data Took (l : Lines) (chunk line₀ line₁ : List ℕ) (r : lines.Step) : Type 0 where
  by_read : (got : Result ℕ Errno) → l.more ≡ true → l.read ≡ l.count → r ≡ filled_by l got → IfErr got Stops
      → IfOk got (λ n. n ≤ chunk_bytes) → line₁ ≡ line₀ → Took l chunk line₀ line₁ r
  in_chunk : Scanned l chunk line₀ line₁ r → Took l chunk line₀ line₁ r

-- the buffers that a step may leave otherwise
pub record Buffers : Type 0 where
  pub words : List ℕ
  pub memory : List ℕ
  pub line : List ℕ
  pub out : List ℕ

abbrev pub buffers : List ℕ → List ℕ → List ℕ → List ℕ → Buffers
buffers w m l o = record { words = w; memory = m; line = l; out = o }

-- a step that ends no line
abbrev pub without_line : Conversation → Event → ℕ → Step
without_line s e place = record { conversation = s; event = e; end = place }

-- a step by which a line of n bytes ends, and is answered
abbrev pub with_line : lines.Step → ℕ → Shown → Step
with_line t n a =
    record {
      conversation = record { lent = a.lent; lines = t.lines };
      event = E.Line n a.verdict;
      end = a.end;
    }

-- what the reader of lines finds is told as it is, where it is no line
abbrev pub Told : Found → Event → Type 0
Told (F.Line n) e = ⊥
Told F.Nothing e = e ≡ E.Nothing
Told F.End e = e ≡ E.End
Told (F.Failed x) e = e ≡ E.Failed x

-- what comes of a step of the reader of lines: a line that ended is answered; else nothing changes
pub data Comes (s : Conversation) (form : Form) (place : ℕ) (t : lines.Step) (b₀ b₁ : Buffers) (r : Step) : Type 0 where
  line : (n : ℕ) (a : Shown) → t.found ≡ F.Line n
      → Shows (answered (console (held b₀.words) b₀.memory s.lent) t.lines.ended (take n b₁.line)) form
      (take n b₁.line) b₀.out place b₁.out a b₁.words b₁.memory
      → r ≡ with_line t n a → Comes s form place t b₀ b₁ r
  none : (e : Event) → Told t.found e → b₁ ≡ buffers b₀.words b₀.memory b₁.line b₀.out
      → r ≡ without_line (record { lent = s.lent; lines = t.lines }) e place → Comes s form place t b₀ b₁ r

-- a line that is answered is no longer than is held
abbrev pub Short : Event → Type 0
Short (E.Line n v) = n ≤ held_bytes
Short E.Nothing = ⊤
Short E.End = ⊤
Short (E.Failed x) = ⊤

-- a step of a conversation
pub record Talks (s : Conversation) (form : Form) (place : ℕ) (chunk : List ℕ) (b₀ b₁ : Buffers) (r : Step) : Type 0 where
  pub read : lines.Step
  pub took : Took s.lines chunk b₀.line b₁.line read
  pub comes : Comes s form place read b₀ b₁ r
  pub kept : Kept r.conversation b₁.words
  pub fits : r.end ≤ out_bytes
  pub short : Short r.event
