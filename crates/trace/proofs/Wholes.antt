-- What a record of 16 bytes is, case by case. Assumes nothing.
use Rattle.std.specs.Prelude.{Some, None, Result, Ok, Err}
use Prim.Native.Nat.{ℕ, ◌+◌, ◌-◌, ◌<◌, ◌≤◌}
use mathlib.Core.Bool.{Bool, true, false}
use mathlib.Core.List.{List}
use mathlib.Core.Logic.{⊎_elim}
use mathlib.Core.Path.{◌≡◌, refl, sym, ap, ◌∙◌}
use native.Mathlib.Nat.{add-zero, le_of_eq}
use native.Mathlib.Omega.{arith}
use lib.Dec.{ltb, eqb}
use lib.ListN.{length, drop, length-take, length-drop}
use borrow.Author.Tests.{eq-eqb, ne_eqb, lt-ltb, le-ltb}
use Rattle.rules.specs.Rules.{pick, settle, outside_of}
use Rattle.rules.proofs.Tests.{bool_cases, same_or_not, lt_or_ge, in_range, below_range, above_range}
use Rattle.le.specs.Le.{le_at}
use Rattle.le.specs.Memory.{part}
use Rattle.le.proofs.Parts.{part_length}
use Rattle.trace.specs.declared.Kind.{Kind}
use Rattle.trace.specs.declared.Kind.TheVariants as K
use Rattle.trace.specs.declared.Record.{Record}
use Rattle.trace.specs.declared.Record.TheVariants as R
use Rattle.trace.specs.Record.{sent, target, value, kind_of, first_spare, any_set, spares, record_in}
use Rattle.trace.specs.Trace.{record_at}
use Rattle.trace.proofs.Fields.{le_at_part}

module _ (r : List ℕ) (sized : 16 ≤ length r) where
  whole : ltb (length r) 16 ≡ false
  whole = le-ltb (length r) 16 sized

  pub spare : any_set (spares r) ≡ true → Err 30 ≡ record_in r
  unfolding record_in settle
  spare s =
      let b = outside_of 1 4 (sent r) in
      ⊎_elim (λ (o : b ≡ true). rw (whole, o)) (λ (o : b ≡ false). rw (whole, o, s)) (bool_cases b)

  pub unknown : outside_of 1 4 (sent r) ≡ true → Err 30 ≡ record_in r
  unfolding record_in settle
  unknown o = rw (whole, o)

  module _ (n : any_set (spares r) ≡ false) where
    known : 1 ≤ sent r → sent r ≤ 4 → outside_of 1 4 (sent r) ≡ false
    known = in_range 1 4 (sent r)

    pub tail : sent r ≡ 1 → Ok (R.TailWrite (target r) (value r)) ≡ record_in r
    unfolding record_in settle
    tail s = rw (whole, known (omega arith) (omega arith), n, eq-eqb (sent r) 1 s)

    pub head : sent r ≡ 2 → Ok (R.HeadWrite (target r) (value r)) ≡ record_in r
    unfolding record_in settle
    head s = rw (whole, known (omega arith) (omega arith), n, ne_eqb (sent r) 1 (omega arith), eq-eqb (sent r) 2 s)

    pub start : sent r ≡ 3 → Ok R.Start ≡ record_in r
    unfolding record_in settle
    start s =
        let k = known (omega arith) (omega arith) in
        rw (whole, k, n, ne_eqb (sent r) 1 (omega arith), ne_eqb (sent r) 2 (omega arith), eq-eqb (sent r) 3 s)

    pub finish : sent r ≡ 4 → Ok (R.Finish (target r) (value r)) ≡ record_in r
    unfolding record_in settle
    finish s =
        let k = known (omega arith) (omega arith) in
        rw (whole, k, n, ne_eqb (sent r) 1 (omega arith), ne_eqb (sent r) 2 (omega arith), ne_eqb (sent r) 3 (omega arith))

-- ---- the kinds of calls by their numbers

abbrev pub number : Kind → ℕ
number K.TailWrite = 1
number K.HeadWrite = 2
number K.Start = 3
number K.Finish = 4

is_kind : {k : Kind} (l : Kind) {n : ℕ} → Some k ≡ Some l → n ≡ number l → n ≡ number k
is_kind {k} l e f = let g : l ≡ k = cc in f ∙ ap number g

pub numbered : (n : ℕ) {k : Kind} → Some k ≡ kind_of n → n ≡ number k
numbered n {k} e =
    ⊎_elim (λ (a : n ≡ 1). is_kind K.TailWrite (e ∙ ap kind_of a) a) (λ (a : n ≡ 1 → ⊥).
    ⊎_elim (λ (b : n ≡ 2). is_kind K.HeadWrite (e ∙ ap kind_of b) b) (λ (b : n ≡ 2 → ⊥).
    ⊎_elim (λ (c : n ≡ 3). is_kind K.Start (e ∙ ap kind_of c) c) (λ (c : n ≡ 3 → ⊥).
    ⊎_elim (λ (d : n ≡ 4). is_kind K.Finish (e ∙ ap kind_of d) d) (λ (d : n ≡ 4 → ⊥).
    let z : kind_of n ≡ None = rw (ne_eqb n 1 a, ne_eqb n 2 b, ne_eqb n 3 c, ne_eqb n 4 d) in cc (e, z))
    (same_or_not n 4)) (same_or_not n 3)) (same_or_not n 2)) (same_or_not n 1)

pub number_of_kind : {n : ℕ} {k l : Kind} → Some k ≡ kind_of n → k ≡ l → n ≡ number l
number_of_kind {n} e f = numbered n e ∙ ap number f

pub start_only : (k : Kind) → number k ≡ 3 → k ≡ K.Start
start_only K.TailWrite e = absurd (omega (arith, e))
start_only K.HeadWrite e = absurd (omega (arith, e))
start_only K.Start e = refl
start_only K.Finish e = absurd (omega (arith, e))

pub known_in : (n : ℕ) {k : Kind} → Some k ≡ kind_of n → outside_of 1 4 n ≡ false
known_in n {k} e = ap (outside_of 1 4) (numbered n e) ∙ inside k
  where
    inside : (k : Kind) → outside_of 1 4 (number k) ≡ false
    inside K.TailWrite = refl
    inside K.HeadWrite = refl
    inside K.Start = refl
    inside K.Finish = refl

-- a number that names no kind is none of theirs
pub unnumbered : (n : ℕ) → None ≡ kind_of n → (k : Kind) → n ≡ number k → ⊥
unnumbered n e K.TailWrite a = let z = e ∙ ap kind_of a in cc z
unnumbered n e K.HeadWrite a = let z = e ∙ ap kind_of a in cc z
unnumbered n e K.Start a = let z = e ∙ ap kind_of a in cc z
unnumbered n e K.Finish a = let z = e ∙ ap kind_of a in cc z

pub unknown_out : (n : ℕ) → None ≡ kind_of n → outside_of 1 4 n ≡ true
unknown_out n e =
    let a : n ≡ 1 → ⊥ = unnumbered n e K.TailWrite in
    let b : n ≡ 2 → ⊥ = unnumbered n e K.HeadWrite in
    let c : n ≡ 3 → ⊥ = unnumbered n e K.Start in
    let d : n ≡ 4 → ⊥ = unnumbered n e K.Finish in
    ⊎_elim (below_range 1 4 n) (λ l. above_range 1 4 n l (omega arith)) (lt_or_ge n 1)

spare_same : (k : Kind) → pick (eqb (number k) 3) 1 4 ≡ first_spare k
spare_same K.TailWrite = refl
spare_same K.HeadWrite = refl
spare_same K.Start = refl
spare_same K.Finish = refl

-- ---- the same of the 16 bytes at a place of a trace, of which byte 0, x, was read as kind k and b says whether a spare byte is set

module _ (t : List ℕ) (place : ℕ) where
  pub sent_at : sent (part t place 16) ≡ le_at 1 t place
  sent_at = le_at_part 1 t place 16 0 (omega arith) ∙ ap (le_at 1 t) (add-zero place)

  module _ (h : place + 16 ≤ length t) {x : ℕ} (e : x ≡ le_at 1 t place) where
    abbrev Is : Result Record ℕ → Type 0
    Is y = y ≡ record_in (part t place 16)

    sized : 16 ≤ length (part t place 16)
    sized = le_of_eq (sym (part_length t place 16 h))

    call : x ≡ sent (part t place 16)
    call = e ∙ sym sent_at

    pub unknown_at : None ≡ kind_of x → Is (Err 30)
    unknown_at o = unknown (part t place 16) sized (ap (outside_of 1 4) (sym call) ∙ unknown_out x o)

    module _ {k : Kind} (o : Some k ≡ kind_of x) {b : Bool} (s : b ≡ any_set (drop (first_spare k) (part t place 16))) where
      sent_is : sent (part t place 16) ≡ number k
      sent_is = sym call ∙ numbered x o

      set : any_set (spares (part t place 16)) ≡ b
      set = rw (sent_is, spare_same k) (sym s)

      pub spare_at : b ≡ true → Is (Err 30)
      spare_at y = spare (part t place 16) sized (set ∙ y)

      module _ (n : b ≡ false) where
        none : any_set (spares (part t place 16)) ≡ false
        none = set ∙ n

        pub start_at : k ≡ K.Start → Is (Ok R.Start)
        start_at i = start (part t place 16) sized none (sent_is ∙ ap number i)

        module _ {q v : ℕ} (eq : q ≡ le_at 1 t (place + 1)) (ev : v ≡ le_at 2 t (place + 2)) where
          queue : q ≡ target (part t place 16)
          queue = eq ∙ sym (le_at_part 1 t place 16 1 (omega arith))

          given : v ≡ value (part t place 16)
          given = ev ∙ sym (le_at_part 2 t place 16 2 (omega arith))

          pub tail_at : k ≡ K.TailWrite → Is (Ok (R.TailWrite q v))
          tail_at i = rw (queue, given) (tail (part t place 16) sized none (sent_is ∙ ap number i))

          pub head_at : k ≡ K.HeadWrite → Is (Ok (R.HeadWrite q v))
          head_at i = rw (queue, given) (head (part t place 16) sized none (sent_is ∙ ap number i))

          pub finish_at : k ≡ K.Finish → Is (Ok (R.Finish q v))
          finish_at i = rw (queue, given) (finish (part t place 16) sized none (sent_is ∙ ap number i))

-- ---- what stands at a place

pub ended : (t : List ℕ) (place : ℕ) → length t ≤ place → Ok R.End ≡ record_at t place
unfolding record_at
ended t place h = rw (le-ltb place (length t) h)

module _ (t : List ℕ) (place : ℕ) (h : place < length t) where
  pub there : record_in (part t place 16) ≡ record_at t place
  unfolding record_at
  there = rw (lt-ltb place (length t) h)

  pub short : length t - place < 16 → Err 31 ≡ record_at t place
  unfolding record_in settle part
  short s =
      let n : length (part t place 16) < 16 = simp (length-take, length-drop) (omega arith) in
      rw (← there, lt-ltb (length (part t place 16)) 16 n)
