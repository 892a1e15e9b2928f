-- What the code leaves: its buffers and its answers beside the definitions.
use Rattle.std.specs.Prelude.{ℕ, zero, suc, ◌-◌, ◌*◌, ◌<◌, ◌≤◌, min, Bool, true, false, ◌≡◌, ⊤, Option, Some, None}
use Rattle.std.specs.Prelude.{List, [], ◌∷◌, ◌++◌, length, take, get_or, replicate}
use Rattle.le.specs.Le.{le_at}
use Rattle.print.specs.Put.{Put}
use Rattle.language.specs.Replies.{Said, say, bad, is_good, refusal_of, texted}
use Rattle.stateless.specs.declared.reply.Reply as short
use Rattle.stateless.specs.declared.speak.Answered as speak
use Rattle.stateless.specs.declared.speak.Verdict.{Verdict}
use Rattle.stateless.specs.declared.speak.Verdict.TheVariants as V

-- k elements from place i on
abbrev pub firsts : ℕ → ℕ → List ℕ → List ℕ
firsts zero i l = []
firsts (suc k) i l = get_or l i 0 ∷ firsts k (suc i) l

-- the elements from place i on are at most these
abbrev pub Narrow : List ℕ → ℕ → List ℕ → Type 0
Narrow [] i l = Unit
Narrow (m ∷ ms) i l = (get_or l i 0 ≤ m) × Narrow ms (suc i) l

-- k numbers of w bytes each, from number i on
abbrev pub readings : ℕ → ℕ → ℕ → List ℕ → List ℕ
readings w i zero b = []
readings w i (suc k) b = le_at w b (w * i) ∷ readings w (suc i) k b

-- the most numbers of a line and of an answer
abbrev pub numbers_most : ℕ
numbers_most = 2048

-- the room that every answer fits in
abbrev pub answer_bytes : ℕ
answer_bytes = 16384

-- what a short reply stands for
abbrev pub heard : short.Reply → Said
heard r = say r.refusal (firsts r.count 0 r.numbers) []

-- and where there is none the line is a bad one
abbrev pub heard_or_bad : Option short.Reply → Said
heard_or_bad (Some r) = heard r
heard_or_bad None = bad

-- numbers, of more than 16 the first 16, and zeros behind them
abbrev pub told_reply : List ℕ → short.Reply
told_reply ns = let n = min (length ns) 16 in record { refusal = 0; count = n; numbers = take n ns ++ replicate (16 - n) 0 }

-- the number of a refusal and zeros behind it, so many in all: told, or that of a change
abbrev pub refusal_reply : ℕ → ℕ → short.Reply
refusal_reply n count = record { refusal = 0; count = count; numbers = n ∷ replicate 15 0 }

abbrev pub changed_reply : ℕ → ℕ → short.Reply
changed_reply n count = record { refusal = n; count = count; numbers = n ∷ replicate 15 0 }

pub record Says (s : Said) (r : short.Reply) : Type 0 where
  pub is : heard r ≡ s
  pub few : r.count ≤ 16

-- whether a line was good, and the number by which a change that it asked for was refused, 0 for none
abbrev pub good_of : Verdict → Bool
good_of V.Good = true
good_of V.Bad = false
good_of (V.Refused n) = true

abbrev pub refused_by : Verdict → ℕ
refused_by V.Good = 0
refused_by V.Bad = 0
refused_by (V.Refused n) = n

-- nothing is refused by the number 0
abbrev pub Numbered : Verdict → Type 0
Numbered V.Good = ⊤
Numbered V.Bad = ⊤
Numbered (V.Refused n) = 0 < n

-- an answer printed at the start of a buffer, given its word and the line's number
pub record Printed (s : Said) (word : List ℕ) (n : ℕ) (before after : List ℕ) (count : ℕ) (r : speak.Answered) : Type 0 where
  pub text : Put before 0 (texted word n s) after r.length
  pub good : good_of r.verdict ≡ is_good s
  pub refusal : refused_by r.verdict ≡ refusal_of s
  pub numbered : Numbered r.verdict
  pub lent : r.lent ≡ count
  pub short : r.length ≤ answer_bytes
