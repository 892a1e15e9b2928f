-- Laws of an answer that is shown. Assumes nothing.
use mathlib.Core.List.{List, ◌++◌}
use mathlib.Core.Path.{◌≡◌}
use Prim.Native.Nat.{ℕ, ◌+◌, ◌-◌, ◌≤◌}
use native.Mathlib.Omega.{arith}
use lib.ListN.{length, take, drop, length-drop}
use lib.Seq.{length-take-le}
use Rattle.print.specs.Put.{Put}
use Rattle.print.proofs.Puts.{put_length}
use Rattle.form.specs.Shown.{above, mark, aside, shown, standing}
use Rattle.form.specs.declared.Form.{Form}
use Rattle.form.proofs.Joined.{mark_most, above_most, shown_most_lem, room_standing, room_aside, put_shown}
use Rattle.language.specs.Line.{Answered}
use Rattle.stateless.specs.Leaving.{answer_bytes}
use Rattle.shell.specs.Leaving.{Leaves}
use Rattle.stateless.specs.declared.speak.Answered as code
use Rattle.conversation.specs.Sizes.{shown_most}
use Rattle.conversation.specs.Answers.{Shows}

-- a line put at a place p, and the rest of the buffer from s on, behind the room for a mark
module _ (f : Form) (line : List ℕ) {o o₁ : List ℕ} {p m : ℕ} (s : ℕ) (x : Put o p (above f line) o₁ m) (i : s ≡ m + length (mark f))
    (r : p + shown_most (length line) ≤ length o) where
  pub room_left : s + answer_bytes ≤ length o₁
  room_left = omega (arith, x.ends, put_length x, above_most f line, mark_most f)

  pub room_answer : answer_bytes ≤ length (take (length o₁ - s) (drop s o₁))
  room_answer =
      let d : length o₁ - s ≤ length (drop s o₁) = omega (arith, length-drop s o₁) in
      omega (arith, room_left, length-take-le (length o₁ - s) (drop s o₁) d)

  -- its answer, written there
  module _ {a : Answered} {rest : List ℕ} {t : code.Answered} {words bytes : List ℕ}
      (l : Leaves a (take (length o₁ - s) (drop s o₁)) rest t words bytes) where
    abbrev o₂ : List ℕ
    o₂ = take s o₁ ++ (rest ++ drop (length o₁ - s) (drop s o₁))

    answer_fits : s + length a.text ≤ length o₁
    answer_fits = omega (arith, room_left, l.text.ends, l.short)

    all_fits : p + length (shown f line a.text) ≤ length o
    all_fits = omega (arith, shown_most_lem line f a.text, l.text.ends, l.short)

    pub rooms : (m + length (mark f) + t.length ≤ length o₂)
        × (m + length (aside f line (standing f o₂ m t.length)) ≤ length o₂)
    rooms = (
      room_standing f line a.text s t.length x i l.text answer_fits,
      room_aside f line a.text s t.length x i l.text answer_fits all_fits,
    )

    pub shows : {o₃ : List ℕ} {e : ℕ} → Put o₂ m (aside f line (standing f o₂ m t.length)) o₃ e
        → Shows a f line o p o₃ (record { end = e; lent = t.lent; verdict = t.verdict }) words bytes
    shows z =
        let w = put_shown f line a.text s t.length x i l.text answer_fits all_fits z in
        record {
          text = w;
          good = l.good;
          refusal = l.refusal;
          numbered = l.numbered;
          lent = l.lent;
          controller = l.controller;
          memory = l.memory;
          reached = l.reached;
          inside = l.inside;
          fits = omega (arith, w.ends, all_fits);
        }
