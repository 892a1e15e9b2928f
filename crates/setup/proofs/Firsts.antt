-- The first word of a line. Assumes nothing.
use Rattle.std.proofs.Common.{◌≡◌, ℕ, ◌-◌, true, false, eqb, List, take, drop, sym, ap, ◌∙◌, ⊎_elim, arith, eqb-true}
use borrow.Author.Tests.{eqb-false}
use Rattle.rules.proofs.Tests.{bool_cases}
use Rattle.parse.specs.Line.{NextWord, words_of}
use Rattle.parse.proofs.Lines.{words_over, words_next}
use Rattle.setup.specs.Refused.{first_of}

module _ {line : List ℕ} {start end : ℕ} (n : NextWord line 0 start end) where
  pub first_word : take (end - start) (drop start line) ≡ first_of (words_of line)
  first_word =
      ⊎_elim (λ (e : eqb start end ≡ true). none (eqb-true start end e))
      (λ (e : eqb start end ≡ false). sym (ap first_of (words_next n (eqb-false start end e)))) (bool_cases (eqb start end))
    where
      none : start ≡ end → take (end - start) (drop start line) ≡ first_of (words_of line)
      none z =
          let k : end - start ≡ 0 = omega arith in
          ap (λ (i : ℕ). take i (drop start line)) k ∙ sym (ap first_of (words_over n z))
