-- Laws of the bytes that are gathered of a line. Assumes nothing.
use Rattle.std.proofs.Common.{
  ◌≡◌,
  ℕ,
  ◌+◌,
  ◌-◌,
  ◌≤◌,
  List,
  ◌++◌,
  length,
  take,
  sym,
  ap,
  ◌∙◌,
  arith,
  length-take,
  length-take-le,
  take_all,
  take-take,
}
use lib.Seq.{take-append-add}
use Rattle.print.specs.Put.{Put}
use Rattle.print.proofs.Puts.{put_then, put_as}
use Rattle.print.proofs.Parts.{put_there}

-- a line of which `held` bytes stand at the start of its buffer, with n bytes of what is read on: at most so many are kept
module _ (most : ℕ) (line rest : List ℕ) (held n : ℕ) (h : held ≤ most) (k : held ≤ length line) where
  cut : take most (take held line ++ take n rest) ≡ take held line ++ take (most - held) (take n rest)
  cut =
      let l : length (take held line) ≡ held = length-take-le held line k in
      let e : most ≡ length (take held line) + (most - held) = omega arith in
      ap (λ (m : ℕ). take m (take held line ++ take n rest)) e ∙ take-append-add (take held line) (take n rest) (most - held)

  put_behind : {line₁ : List ℕ} {m : ℕ} (t : List ℕ) → t ≡ take (most - held) (take n rest) → Put line held t line₁ m
      → Put line 0 (take most (take held line ++ take n rest)) line₁ m
  put_behind t e f =
      put_as (put_then (put_there line 0 held held (omega arith) k) f) (ap (λ (x : List ℕ). take held line ++ x) e ∙ sym cut)

  -- as much as there is room for, or all
  pub put_some : {line₁ : List ℕ} {m : ℕ} → most - held ≤ n → Put line held (take (most - held) rest) line₁ m
      → Put line 0 (take most (take held line ++ take n rest)) line₁ m
  put_some i f = put_behind (take (most - held) rest) (sym (take-take (most - held) n rest i)) f

  pub put_all : {line₁ : List ℕ} {m : ℕ} → n ≤ most - held → Put line held (take n rest) line₁ m
      → Put line 0 (take most (take held line ++ take n rest)) line₁ m
  put_all i f = put_behind (take n rest) (sym (take_all (most - held) (take n rest) (omega (arith, length-take n rest)))) f
