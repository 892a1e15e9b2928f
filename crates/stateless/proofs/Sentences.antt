-- Laws of answers: their room, and what is printed of a reply. Assumes nothing.
use mathlib.Core.Path.{◌≡◌, refl, subst, ap, ◌∙◌}
use mathlib.Core.List.{List, [], ◌++◌}
use Prim.Native.Nat.{ℕ, zero, suc, ◌+◌, ◌*◌, ◌≤◌}
use native.Mathlib.Omega.{arith}
use lib.ListN.{length, take, drop, length-append}
use lib.Seq.{drop-cons, take_at}
use Rattle.parse.specs.Line.{most_bytes}
use Rattle.print.specs.Text.{numbers, hex_word, line_end}
use Rattle.print.proofs.Texts.{numbers_most, hex_word_most}
use Rattle.stateless.specs.declared.reply.Reply as short
use Rattle.stateless.specs.declared.speak.Answered as speak
use Rattle.language.specs.Replies.{Said, say, told, sentence}
use Rattle.stateless.specs.Leaving.{firsts, heard, Says, Printed, answer_bytes}

-- a sentence of few numbers and bytes has room
pub sentence_most : (w ns bs : List ℕ) → length (sentence w ns bs) ≤ length w + (21 * length ns + (1 + 2 * length bs + 1))
sentence_most w ns bs =
    omega (
      arith,
      length-append w (numbers ns ++ (hex_word bs ++ line_end)),
      length-append (numbers ns) (hex_word bs ++ line_end),
      length-append (hex_word bs) line_end,
      numbers_most ns,
      hex_word_most bs,
    )

pub sentence_fits : (w ns bs : List ℕ) (n : ℕ) → length w ≤ most_bytes → 21 * length ns + 2 * length bs + 2 ≤ 12288 → answer_bytes ≤ n
    → (length (sentence w ns bs) ≤ answer_bytes) × (answer_bytes ≤ n)
sentence_fits w ns bs n h k j = (omega (arith, sentence_most w ns bs), j)

-- ---- elements of a buffer

firsts_take : (k i : ℕ) (l : List ℕ) → i + k ≤ length l → firsts k i l ≡ take k (drop i l)
firsts_take zero i l h = refl
firsts_take (suc k) i l h = rw (drop-cons l i 0 (omega arith), firsts_take k (suc i) l (omega arith))

pub firsts_are : (k : ℕ) (l : List ℕ) → k ≤ length l → firsts k 0 l ≡ take k l
firsts_are k l h = firsts_take k 0 l (omega arith)

-- ---- what is printed

pub printed_as : {s t : Said} {w : List ℕ} {n : ℕ} {o o₁ : List ℕ} {k : ℕ} {r : speak.Answered} → s ≡ t → Printed s w n o o₁ k r
    → Printed t w n o o₁ k r
printed_as {w = w} {n = n} {o = o} {o₁ = o₁} {k = k} {r = r} e p = subst (λ (x : Said). Printed x w n o o₁ k r) e p

pub printed_lent : {s : Said} {w : List ℕ} {n : ℕ} {o o₁ : List ℕ} {k j : ℕ} {r : speak.Answered} → k ≡ j → Printed s w n o o₁ k r
    → Printed s w n o o₁ j r
printed_lent {s} {w} {n} {o} {o₁} {r = r} e p = subst (λ (x : ℕ). Printed s w n o o₁ x r) e p

pub heard_firsts : (r : short.Reply) → r.count ≤ length r.numbers → say r.refusal (take r.count r.numbers) [] ≡ heard r
heard_firsts r k = rw (firsts_are r.count r.numbers k)

-- numbers put at the start of a reply
pub says_told : (n : ℕ) (ns rest : List ℕ) → length ns ≡ n → n ≤ 16
    → Says (told ns) (record { refusal = 0; count = n; numbers = ns ++ rest })
says_told n ns rest e h =
    record {
      is = ap told (firsts_are n (ns ++ rest) (omega (arith, length-append ns rest)) ∙ take_at ns rest n e);
      few = h;
    }
