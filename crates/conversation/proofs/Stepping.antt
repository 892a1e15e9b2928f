-- Laws of the steps of a conversation. Assumes nothing.
use mathlib.Core.List.{List}
use mathlib.Core.Path.{◌≡◌, refl, sym, ap, subst}
use Prim.Native.Nat.{ℕ, ◌+◌, ◌≤◌}
use native.Mathlib.Omega.{arith}
use lib.ListN.{length, take}
use Rattle.std.specs.Prelude.{Result, Ok, Err, IfOk}
use Rattle.store.specs.Held.{held}
use Rattle.print.proofs.Puts.{put_length}
use Rattle.stream.specs.declared.Errno.{Errno}
use Rattle.lines.specs.Sizes.{chunk_bytes, held_bytes}
use Rattle.lines.specs.Steps as lines_specs
use Rattle.lines.specs.Inside.{Inside}
use Rattle.lines.specs.declared.Lines.{Lines}
use Rattle.lines.specs.declared.Found.{Found}
use Rattle.lines.specs.declared.Found.TheVariants.{Line}
use Rattle.lines.specs.declared.Step as lines
use Rattle.lines.proofs.Stepped.{filled_inside}
use Rattle.form.specs.declared.Form.{Form}
use Rattle.language.specs.State.{console}
use Rattle.language.specs.Line.{answered}
use Rattle.conversation.specs.Sizes.{out_bytes, room_bytes}
use Rattle.conversation.specs.Answers.{Shows}
use Rattle.conversation.specs.Steps.{Kept, Sized, Took, by_read, in_chunk, buffers, without_line, with_line, Told, line, none, Short, Talks}
use Rattle.conversation.specs.declared.Conversation.{Conversation}
use Rattle.conversation.specs.declared.Event.{Event}
use Rattle.conversation.specs.declared.Shown.{Shown}
use Rattle.conversation.specs.declared.Step.{Step}

-- what was read lies in the chunk
pub read_inside : (got : Result ℕ Errno) (buf : List ℕ) → length buf ≡ chunk_bytes
    → IfOk got (λ n. (n ≤ length buf) × (n ≡ length (take n buf))) → IfOk got (λ n. n ≤ chunk_bytes)
read_inside (Ok n) buf e h = omega (arith, e, h.0)
read_inside (Err x) buf e h = tt

-- the reader stays inside its buffers, and that of the line keeps its length
took_inside : {l : Lines} {chunk line₀ line₁ : List ℕ} {t : lines.Step} → Took l chunk line₀ line₁ t → Inside l
    → Inside t.lines × lines_specs.Short t.found
took_inside {l} (by_read got m q f e h s) i = filled_inside l got f i h
took_inside (in_chunk x) i = (x.inside, x.short)

took_length : {l : Lines} {chunk line₀ line₁ : List ℕ} {t : lines.Step} → Took l chunk line₀ line₁ t → length line₁ ≡ length line₀
took_length (by_read got m q f e h s) = ap length s
took_length (in_chunk x) = put_length x.buffer

module _ (s : Conversation) (place : ℕ) {words memory chunk line₀ line₁ out : List ℕ} {t : lines.Step} (k : Kept s words)
    (z : Sized memory chunk line₀ out) (room : place + room_bytes ≤ out_bytes) (x : Took s.lines chunk line₀ line₁ t) where
  module _ {n : ℕ} (f : t.found ≡ Line n) where
    line_short : n ≤ held_bytes
    line_short = subst lines_specs.Short f (took_inside x k.lines).1

    -- the line lies in its buffer
    pub line_inside : n ≤ length line₁
    line_inside = omega (arith, line_short, took_length x, z.line)

  module _ (form : Form) where
    pub talks_none : (e : Event) {r : Step} {f : Found} → t.found ≡ f → Told f e → Short e
        → r ≡ without_line (record { lent = s.lent; lines = t.lines }) e place
        → Talks s form place chunk (buffers words memory line₀ out) (buffers words memory line₁ out) r
    talks_none e f h i q =
        record {
          read = t;
          took = x;
          comes = none e (subst (λ (y : Found). Told y e) (sym f) h) refl q;
          kept = record {
            reached = k.reached;
            lent = omega (arith, ap (λ (y : Step). y.conversation.lent) q, k.lent);
            lines = subst (λ (y : Step). Inside y.conversation.lines) (sym q) (took_inside x k.lines).0;
          };
          fits = omega (arith, ap (λ (y : Step). y.end) q);
          short = subst (λ (y : Step). Short y.event) (sym q) i;
        }

    pub talks_line : {words₁ memory₁ out₁ : List ℕ} (n : ℕ) (a : Shown) → t.found ≡ Line n
        → Shows (answered (console (held words) memory s.lent) t.lines.ended (take n line₁)) form
        (take n line₁) out place out₁ a words₁ memory₁
        → Talks s form place chunk (buffers words memory line₀ out) (buffers words₁ memory₁ line₁ out₁) (with_line t n a)
    talks_line n a h w =
        record {
          read = t;
          took = x;
          comes = line n a h w refl;
          kept = record { reached = w.reached; lent = w.inside; lines = (took_inside x k.lines).0 };
          fits = omega (arith, w.fits, z.out);
          short = line_short h;
        }
