-- Laws of texts that stand in a buffer already, and of texts put into a part of one. Assumes nothing.
use mathlib.Core.Path.{◌≡◌, refl, sym, ap, ◌∙◌}
use mathlib.Core.List.{List, [], ◌∷◌, ◌++◌}
use Prim.Native.Nat.{ℕ, suc, ◌+◌, ◌-◌, ◌≤◌}
use native.Mathlib.Nat.{add-suc}
use native.Mathlib.Omega.{arith}
use lib.ListN.{length, take, drop, set, take-append-drop, length-drop}
use lib.Seq.{sets, length-sets, drop_at, take-append_seam, take-set-le, drop-set-lt, drop-set-add, length-take-le, drop-drop}
use borrow.Rule.Slice.PartMut.{put_mid}
use Rattle.le.specs.Memory.{put}
use Rattle.le.proofs.Parts.{sets_put, rest_part, rest_put}
use Rattle.print.specs.Put.{Put}

-- a buffer with a text stored: what stands before it, the text, and what stands behind it
split : (o : List ℕ) (p : ℕ) (a : List ℕ) → p + length a ≤ length o → sets o p a ≡ take p o ++ (a ++ drop (p + length a) o)
unfolding put
split o p a h = sets_put o p a h

-- a text copied into a part of a buffer, `&mut o[p..p + n]` as the borrow checker has it, is put into the buffer
pub put_copied : (o : List ℕ) (p k : ℕ) {a b : List ℕ} → b ≡ a → k ≡ length a → p + length a ≤ length o
    → Put o p a (put_mid p k o b) (p + length a)
put_copied o p k {a} {b} e i h =
    record {
      holds =
          ap (put_mid p k o) e ∙ ap (λ (n : ℕ). put_mid p n o a) i ∙ ap (λ (x : List ℕ). take p o ++ (a ++ x)) (drop-drop (length a) p o)
          ∙ sym (split o p a h);
      ends = refl;
    }

-- what stands before a place that is stored from, and what stands behind it
take_sets : (k : ℕ) (vs l : List ℕ) (i : ℕ) → k ≤ i → take k (sets l i vs) ≡ take k l
take_sets k [] l i h = refl
take_sets k (v ∷ vs) l i h = take_sets k vs (set l i v) (suc i) (omega arith) ∙ take-set-le k l i v h

drop_sets : (k : ℕ) (vs l : List ℕ) (i : ℕ) → i + length vs ≤ k → drop k (sets l i vs) ≡ drop k l
drop_sets k [] l i h = refl
drop_sets k (v ∷ vs) l i h = drop_sets k vs (set l i v) (suc i) (omega arith) ∙ drop-set-lt k l i v (omega arith)

-- stores behind a place are stores into the part from it on
sets_part : (s : ℕ) (vs l : List ℕ) (i : ℕ) → sets l (s + i) vs ≡ take s l ++ sets (drop s l) i vs
sets_part s [] l i = sym (take-append-drop s l)
sets_part s (v ∷ vs) l i =
    ap (λ (k : ℕ). sets (set l (s + i) v) k vs) (sym (add-suc s i)) ∙ sets_part s vs (set l (s + i) v) (suc i)
    ∙ ap (λ (x : List ℕ). x ++ sets (drop s (set l (s + i) v)) (suc i) vs) (take-set-le s l (s + i) v (omega arith))
    ∙ ap (λ (x : List ℕ). take s l ++ sets x (suc i) vs) (drop-set-add s l i v)

-- a text put into the rest of a buffer from a place on, `&mut o[s..]` as the borrow checker has it, is put into the buffer
pub put_rest : (o : List ℕ) (s p q : ℕ) {a rest : List ℕ} {e : ℕ} → s + p ≡ q → Put (take (length o - s) (drop s o)) p a rest e
    → Put o q a (take s o ++ (rest ++ drop (length o - s) (drop s o))) (s + e)
put_rest o s p q {a} {rest} {e} i f =
    record {
      holds =
          rest_put s o rest ∙ ap (λ (x : List ℕ). take s o ++ x) (f.holds ∙ ap (λ (x : List ℕ). sets x p a) (rest_part s o))
          ∙ sym (sets_part s a o p) ∙ ap (λ (k : ℕ). sets o k a) i;
      ends = omega (arith, f.ends);
    }

-- what stands behind a text that is put stays
pub behind_put : {o o₁ a : List ℕ} {p m : ℕ} → Put o p a o₁ m → drop m o₁ ≡ drop m o
behind_put {o} {o₁} {a} {p} {m} f =
    let h : p + length a ≤ m = omega (arith, f.ends) in
    ap (drop m) f.holds ∙ drop_sets m a o p h

-- a text that is put stands there
pub stands : {o o₁ a : List ℕ} {p m : ℕ} → Put o p a o₁ m → m ≤ length o → take (length a) (drop p o₁) ≡ a
stands {o} {o₁} {a} {p} {m} f h =
    let r : p + length a ≤ length o = omega (arith, f.ends) in
    let t : length (take p o) ≡ p = length-take-le p o (omega arith) in
    ap (λ (x : List ℕ). take (length a) (drop p x)) (f.holds ∙ split o p a r)
    ∙ ap (take (length a)) (drop_at (take p o) (a ++ drop (p + length a) o) p t)
    ∙ take-append_seam a (drop (p + length a) o)

module _ (o : List ℕ) (p : ℕ) where
  -- what stands in a buffer is put there
  pub put_there : (k m : ℕ) → p + k ≡ m → m ≤ length o → Put o p (take k (drop p o)) o m
  put_there k m e h =
      let d : k ≤ length (drop p o) = omega (arith, length-drop p o) in
      let l : length (take k (drop p o)) ≡ k = length-take-le k (drop p o) d in
      let r : p + length (take k (drop p o)) ≤ length o = omega arith in
      let f : drop (p + length (take k (drop p o))) o ≡ drop k (drop p o) =
      ap (λ (n : ℕ). drop (p + n) o) l ∙ sym (drop-drop k p o) in
      record {
        holds =
            sym
            (split o p (take k (drop p o)) r ∙ ap (λ (x : List ℕ). take p o ++ (take k (drop p o) ++ x)) f
            ∙ ap (λ (x : List ℕ). take p o ++ x) (take-append-drop k (drop p o)) ∙ take-append-drop p o);
        ends = omega arith;
      }

  -- a text that covers another takes its place
  pub put_over : {o₁ o₂ a b : List ℕ} {q m e : ℕ} → Put o q b o₁ m → Put o₁ p a o₂ e → p ≤ q → m ≤ e → e ≤ length o → Put o p a o₂ e
  put_over {o₁} {o₂} {a} {b} {q} {m} {e} f g h k r =
      let i : p + length a ≤ length o = omega (arith, g.ends) in
      let j : p + length a ≤ length (sets o q b) = omega (arith, length-sets o q b) in
      let n : q + length b ≤ p + length a = omega (arith, f.ends, g.ends) in
      record {
        holds =
            g.holds ∙ ap (λ (x : List ℕ). sets x p a) f.holds ∙ split (sets o q b) p a j
            ∙ ap (λ (x : List ℕ). x ++ (a ++ drop (p + length a) (sets o q b))) (take_sets p b o q h)
            ∙ ap (λ (x : List ℕ). take p o ++ (a ++ x)) (drop_sets (p + length a) b o q n) ∙ sym (split o p a i);
        ends = g.ends;
      }
