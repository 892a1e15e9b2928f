-- The byte that is wrong in a record that asks for no call. Assumes nothing.
use Rattle.std.specs.Prelude.{Some, None, Ok, Err}
use Rattle.std.proofs.Common.{◌≡◌, ℕ, suc, ◌+◌, ◌<◌, ◌≤◌, true, false, List, length, get_or, drop, sym, refl, ap, ◌∙◌, ⊎_elim, add-one, drop_of_length-le, drop-cons, le-ltb, eq-eqb, ne_eqb}
use Rattle.rules.specs.Rules.{pick, settle, outside_of}
use Rattle.rules.proofs.Tests.{bool_cases, lt_or_ge, clash}
use Rattle.trace.specs.Record.{sent, any_set, spares, call_in, record_in}
use Rattle.trace.specs.declared.Kind.{Kind}
use Rattle.trace.specs.declared.Kind.TheVariants as K
use Rattle.trace.specs.Record.{kind_of}
use Rattle.trace.proofs.Wholes.{numbered, number_of_kind, start_only, known_in, unknown_out}
use Rattle.transcript.specs.Record.{first_set, wrong_byte, Wrong}

-- ---- the first byte that is set, from place i on

module _ (bs : List ℕ) (i : ℕ) where
  pub set_inside : any_set (drop i bs) ≡ true → i < length bs
  set_inside e =
      ⊎_elim (λ h. h) (λ h. absurd (clash (sym (ap any_set (drop_of_length-le bs h)) ∙ e) refl)) (lt_or_ge i (length bs))

  module _ (h : i < length bs) where
    pub set_here : (get_or bs i 0 ≡ 0 → ⊥) → first_set (drop i bs) ≡ 0
    unfolding first_set
    set_here d = rw (drop-cons bs i 0 h, ne_eqb (get_or bs i 0) 0 d)

    module _ (z : get_or bs i 0 ≡ 0) where
      pub set_next : first_set (drop i bs) ≡ suc (first_set (drop (i + 1) bs))
      unfolding first_set
      set_next = rw (drop-cons bs i 0 h, z, add-one i)

      pub set_later : any_set (drop i bs) ≡ true → any_set (drop (i + 1) bs) ≡ true
      set_later e =
          let s : any_set (drop i bs) ≡ any_set (drop (suc i) bs) = rw (drop-cons bs i 0 h, z) in
          ap (λ k. any_set (drop k bs)) (add-one i) ∙ sym s ∙ e

-- ---- the byte of a record

module _ (r : List ℕ) {call : ℕ} (c : call ≡ sent r) where
  pub wrong_unknown : None ≡ kind_of call → 0 ≡ wrong_byte r
  unfolding wrong_byte
  wrong_unknown e = rw (← c, unknown_out call e)

  module _ {k : Kind} (e : Some k ≡ kind_of call) where
    known : outside_of 1 4 (sent r) ≡ false
    known = rw (← c) (known_in call e)

    module _ (s : k ≡ K.Start) where
      three : sent r ≡ 3
      three = sym c ∙ number_of_kind e s

      pub set_start : Wrong r → any_set (drop 1 r) ≡ true
      set_start w = rw (← ap (λ b. any_set (drop (pick b 1 4) r)) (eq-eqb (sent r) 3 three)) (w.spare known)

      pub wrong_start : 1 + first_set (drop 1 r) ≡ wrong_byte r
      unfolding wrong_byte
      wrong_start = rw (known, eq-eqb (sent r) 3 three)

    module _ (d : k ≡ K.Start → ⊥) where
      not_three : sent r ≡ 3 → ⊥
      not_three z = d (start_only k (sym (numbered call e) ∙ c ∙ z))

      pub set_other : Wrong r → any_set (drop 4 r) ≡ true
      set_other w = rw (← ap (λ b. any_set (drop (pick b 1 4) r)) (ne_eqb (sent r) 3 not_three)) (w.spare known)

      pub wrong_other : 4 + first_set (drop 4 r) ≡ wrong_byte r
      unfolding wrong_byte
      wrong_other = rw (known, ne_eqb (sent r) 3 not_three)

-- ---- a whole record that is refused has one

module _ (r : List ℕ) (w : 16 ≤ length r) (n : ℕ) (e : Err n ≡ record_in r) where
  unset : outside_of 1 4 (sent r) ≡ false → any_set (spares r) ≡ false → ⊥
  unfolding record_in settle
  unset o s =
      let i : record_in r ≡ Ok (call_in r) = rw (le-ltb (length r) 16 w, o, s) in
      cc (e, i)

  pub wrong : Wrong r
  wrong =
      record {
        whole = w;
        spare = λ o. ⊎_elim (λ t. t) (λ f. absurd (unset o f)) (bool_cases (any_set (spares r)));
      }
