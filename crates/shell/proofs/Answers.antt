-- Laws of a line: what it comes to, and what the code leaves of it. Assumes nothing.
use mathlib.Core.Path.{◌≡◌, refl, subst}
use mathlib.Core.Bool.{true, false}
use mathlib.Core.List.{List, [], ◌∷◌}
use Prim.Native.Nat.{ℕ, ◌≤◌, ◌<◌}
use native.Mathlib.Omega.{arith}
use lib.ListN.{length}
use borrow.Author.Tests.{lt-ltb, le-ltb}
use Rattle.le.specs.Memory.{Memory}
use Rattle.store.specs.Held.{held, Reached}
use Rattle.parse.specs.Line.{words_of, most_bytes}
use Rattle.parse.specs.Arguments.{arguments_in}
use Rattle.print.proofs.Puts.{put_none}
use Rattle.stateless.specs.declared.speak.Answered as code
use Rattle.stateless.specs.declared.speak.Verdict.TheVariants.{Good}
use Rattle.language.specs.declared.command.Command.{Command}
use Rattle.std.specs.Prelude.{Some, None}
use Rattle.language.specs.Vocabulary.{memory_bytes, form, named}
use Rattle.language.specs.State.{Console, console}
use Rattle.language.specs.Replies.{Said, bad}
use Rattle.language.specs.Line.{obeyed, asked, Answered, saying, by_words, answered}
use Rattle.stateless.specs.Leaving.{Printed}
use Rattle.shell.specs.Leaving.{Spoke, Leaves}

-- ---- what a line comes to

module _ (s : Console) (n : ℕ) (w : List ℕ) (ws : List (List ℕ)) where
  pub no_command : named w ≡ None → saying w n (bad, s) ≡ by_words s n (w ∷ ws)
  unfolding by_words asked
  no_command e = rw e

  module _ (k : Command) (e : named w ≡ Some k) where
    pub bad_arguments : (arguments_in (form k).largest (form k).rest ws).good ≡ false → saying w n (bad, s) ≡ by_words s n (w ∷ ws)
    unfolding by_words asked
    bad_arguments h = rw (e, h)

    pub good_arguments : (arguments_in (form k).largest (form k).rest ws).good ≡ true → (ns bs : List ℕ)
        → ns ≡ (arguments_in (form k).largest (form k).rest ws).numbers → bs ≡ (arguments_in (form k).largest (form k).rest ws).bytes
        → saying w n (obeyed s k ns bs) ≡ by_words s n (w ∷ ws)
    unfolding by_words asked
    good_arguments h ns bs p q = rw (e, h, p, q)

module _ (s : Console) (n : ℕ) (line : List ℕ) where
  pub too_long : most_bytes < length line → saying [] n (bad, s) ≡ answered s n line
  unfolding answered
  too_long h = rw (lt-ltb most_bytes (length line) h)

  pub by_words_lem : length line ≤ most_bytes → (ws : List (List ℕ)) → words_of line ≡ ws → by_words s n ws ≡ answered s n line
  unfolding answered
  by_words_lem h ws e = rw (le-ltb most_bytes (length line) h, e)

-- ---- what the code leaves

pub leaves_as : {a b : Answered} {o o₁ : List ℕ} {r : code.Answered} {words bytes : List ℕ} → a ≡ b → Leaves a o o₁ r words bytes
    → Leaves b o o₁ r words bytes
leaves_as {o = o} {o₁ = o₁} {r = r} {words = words} {bytes = bytes} e l = subst (λ (x : Answered). Leaves x o o₁ r words bytes) e l

pub spoke_leaves : (w : List ℕ) (n : ℕ) {a : Said × Console} {o o₁ : List ℕ} {r : code.Answered} {words bytes : List ℕ}
    → Spoke a w n o o₁ r words bytes → Leaves (saying w n a) o o₁ r words bytes
spoke_leaves w n p =
    record {
      text = p.printed.text;
      good = p.printed.good;
      refusal = p.printed.refusal;
      numbered = p.printed.numbered;
      lent = p.printed.lent;
      controller = p.controller;
      memory = p.memory;
      reached = p.reached;
      inside = rw p.printed.lent p.inside;
      short = p.printed.short;
    }

module _ (words : List ℕ) (m : Memory) (lent : ℕ) (h : Reached words) (i : lent ≤ memory_bytes) where
  pub bad_leaves : (w : List ℕ) (n : ℕ) {o o₁ : List ℕ} {r : code.Answered} → Printed bad w n o o₁ lent r
      → Leaves (saying w n (bad, console (held words) m lent)) o o₁ r words m
  bad_leaves w n p =
      spoke_leaves w n (record { printed = p; controller = refl; memory = refl; reached = h; inside = i })

  -- a line with no word
  pub nothing_leaves : (n : ℕ) (o : List ℕ)
      → Leaves (by_words (console (held words) m lent) n []) o o (record { length = 0; lent = lent; verdict = Good }) words m
  unfolding by_words
  nothing_leaves n o =
      record {
        text = put_none o 0;
        good = refl;
        refusal = refl;
        numbered = tt;
        lent = refl;
        controller = refl;
        memory = refl;
        reached = h;
        inside = i;
        short = omega arith;
      }
