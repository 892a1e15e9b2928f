use borrow.Author.Rules.{rules}
use Prim.Native.Nat.{ℕ, suc, ◌+◌, ◌-◌, ◌<◌}
use mathlib.Core.List.{List}
use mathlib.Core.Path.{◌≡◌, ◌∙◌, sym}
use native.Mathlib.Omega.{arith}
use Rattle.ring.specs.Reader.{read_count}
use Rattle.ring.proofs.Counts.{count_before, count_over}
use Rattle.ring.proofs.reader.count.Goals as goal

-- n entries match before the wrap, and n' of those after it
module _ (ring : List ℕ) (size head phase n : ℕ) (some : 0 < head) (low : head < size)
    (is : n ≡ read_count (size - head) ring size head phase) where
  ends-before : n < size - head → n ≡ read_count (size - 1) ring size head phase
  ends-before h =
      let all : size - 1 ≡ size - head + (head - 1) = omega arith in
      rw all (is ∙ sym (count_before ring size (size - head) (head - 1) head phase (omega arith)))

  goes_over : (n' : ℕ) → n ≡ size - head → n' ≡ read_count (head - 1) ring size 0 (1 - phase)
      → n + n' ≡ read_count (size - 1) ring size head phase
  goes_over n' e h =
      let j = size - head - 1 in
      let ahead : size - head ≡ suc j = omega arith in
      let all : size - 1 ≡ suc j + (head - 1) = omega arith in
      let full : read_count (suc j) ring size head phase ≡ suc j = rw ahead at (sym is ∙ e) in
      rw all (sym (count_over ring size j (head - 1) head phase (omega arith) full ∙ omega arith))

pub returns-then-head-eq0 : goal.returns-then-head-eq0
returns-then-head-eq0 c =
    let a = c.args in
    c.run.ensures.1 a.size (omega arith) ∙ rw c.if-head-eq0.true

pub returns-then-n-size : goal.returns-then-n-size
returns-then-n-size c =
    let a = c.args in
    ends-before a.ring.now a.size a.head a.phase _ (search rules) (search rules)
    (c.run-n.ensures.1 a.size (omega arith)) c.if-n-size.true

pub returns : goal.returns
returns c =
    let r = c.run-n in
    let a = c.args in
    goes_over a.ring.now a.size a.head a.phase _ (search rules) (search rules) (r.ensures.1 a.size (omega arith)) _
    (search rules) (c.run-2.ensures.1 a.size (omega arith))
