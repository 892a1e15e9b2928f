-- Laws of the numbers and bytes that are read for a command. Assumes nothing.
use mathlib.Core.Path.{◌≡◌, sym, ap, ◌∙◌}
use mathlib.Core.Bool.{true, false, true≢false}
use mathlib.Core.List.{List, [], ◌∷◌}
use Prim.Native.Nat.{ℕ, suc, ◌+◌, ◌≤◌, ◌<◌}
use native.Mathlib.Nat.{add-zero, add-suc, suc-add}
use native.Mathlib.Omega.{arith}
use lib.ListN.{length, take, get_or}
use lib.Seq.{get_or-take}
use Rattle.std.specs.Prelude.{Ok}
use Rattle.parse.specs.Arguments.{Given, arguments_in, Read}
use Rattle.parse.specs.declared.arguments.Arguments as code
use Rattle.parse.specs.declared.arguments.Rest.{Rest}
use Rattle.parse.specs.declared.arguments.Rest.TheVariants.{Nothing, Numbers, Bytes}
use Rattle.parse.proofs.Storing.{put_to, is_good}
use Rattle.parse.proofs.Counts.{total, Counted, counted, counted_nothing, counted_bytes}
use Rattle.print.specs.Put.{Put}
use Rattle.print.proofs.Puts.{put_length}
use Rattle.language.specs.declared.command.Command.{Command}
use Rattle.language.specs.Vocabulary.{form}
use Rattle.stateless.specs.Leaving.{Narrow, firsts}
use Rattle.shell.specs.Leaving.{is_repeated, Fitting}
use Rattle.stateless.proofs.Sentences.{firsts_are}
use Rattle.stateless.proofs.Walks.{put_first}

-- each number is at most its largest value
narrow_from : (ms l : List ℕ) (i : ℕ) → ((j : ℕ) → j < length ms → get_or l (i + j) 0 ≤ get_or ms j 0) → Narrow ms i l
narrow_from [] l i h = tt
narrow_from (m ∷ ms) l i h = (
  rw (add-zero i) at (h 0 (omega arith)),
  narrow_from ms l (suc i) (λ j k. rw (suc-add i j ∙ sym (add-suc i j)) (h (suc j) (omega arith))),
)

-- as many numbers as the form has, where no number may stand behind them
exactly : (largest : List ℕ) (rest : Rest) (ws : List (List ℕ)) → (arguments_in largest rest ws).good ≡ true → is_repeated rest ≡ false
    → length (arguments_in largest rest ws).numbers ≡ length largest
exactly largest Nothing ws h e = counted_nothing largest ws h
exactly largest (Numbers m) ws h e = absurd (true≢false e)
exactly largest Bytes ws h e = counted_bytes largest ws h

module _ (k : Command) (ws : List (List ℕ)) {r : code.Arguments} {n₀ n₁ b₀ b₁ : List ℕ}
    (x : Read (arguments_in (form k).largest (form k).rest ws) (Ok r) n₀ n₁ b₀ b₁) (some : length ws ≤ length n₀)
    (short : total ws ≤ length b₀) where
  abbrev g : Given
  g = arguments_in (form k).largest (form k).rest ws

  -- all words were good, and the answer is how many numbers and bytes they gave
  good : (arguments_in (form k).largest (form k).rest ws).good ≡ true
  good = (is_good g.good _ x.answers).0

  are : r ≡ record { numbers = length g.numbers; bytes = length g.bytes }
  are = (is_good g.good _ x.answers).1

  numbers : Put n₀ 0 g.numbers n₁ r.numbers
  numbers = put_to x.numbers (ap (λ (a : code.Arguments). a.numbers) (sym are))

  bytes : Put b₀ 0 g.bytes b₁ r.bytes
  bytes = put_to x.bytes (ap (λ (a : code.Arguments). a.bytes) (sym are))

  c : Counted (form k).largest (form k).rest ws
  c = counted (form k).largest ws (form k).rest good

  -- they stand at the start of their buffers
  pub numbers_are : take r.numbers n₁ ≡ (arguments_in (form k).largest (form k).rest ws).numbers
  numbers_are = put_first numbers (omega (arith, c.few))

  pub bytes_are : take r.bytes b₁ ≡ (arguments_in (form k).largest (form k).rest ws).bytes
  bytes_are = put_first bytes (omega (arith, c.short))

  pub bytes_inside : r.bytes ≤ length b₁
  bytes_inside = omega (arith, c.short, bytes.ends, put_length bytes)

  -- and are of the command's form
  pub fitting : Fitting k n₁ r.numbers
  fitting =
      let n : r.numbers ≡ length g.numbers = omega (arith, numbers.ends) in
      let l : length n₁ ≡ length n₀ = put_length numbers in
      let h : r.numbers ≤ length n₁ = omega (arith, c.few) in
      record {
        narrow =
            narrow_from (form k).largest n₁ 0
            (λ j i.
            let b : j < r.numbers = omega (arith, c.enough) in
            let e : get_or n₁ (0 + j) 0 ≡ get_or g.numbers j 0 =
            ap (λ (y : ℕ). get_or n₁ y 0) (omega arith) ∙ sym (get_or-take r.numbers n₁ j 0 b) ∙ ap (λ (y : List ℕ). get_or y j 0)
            numbers_are in
            rw e (c.within j i));
        fixed =
            λ e.
            let q : r.numbers ≡ length (form k).largest = n ∙ exactly (form k).largest (form k).rest ws good e in
            sym (firsts_are r.numbers n₁ h) ∙ ap (λ (y : ℕ). firsts y 0 n₁) q;
        enough = omega (arith, c.enough);
        held = h;
      }
