-- A text that is put part by part: what is put so far, and what is left of the whole. Assumes nothing.
use Rattle.std.proofs.Common.{◌≡◌, ℕ, ◌+◌, ◌≤◌, List, [], ◌++◌, length, sym, refl, ap, ◌∙◌, append_assoc, append-nil, arith, length-append}
use Rattle.print.specs.Put.{Put}
use Rattle.print.proofs.Puts.{put_none, put_then, put_as, put_length}

pub record SoFar (before : List ℕ) (place : ℕ) (left whole after : List ℕ) (end : ℕ) : Type 0 where
  pub text : List ℕ
  pub put : Put before place text after end
  pub rest : text ++ left ≡ whole

pub none_yet : (o : List ℕ) (p : ℕ) (w : List ℕ) → SoFar o p w w o p
none_yet o p w = record { text = []; put = put_none o p; rest = refl }

module _ {o o₁ l w : List ℕ} {p m : ℕ} (f : SoFar o p l w o₁ m) where
  -- a part that begins what is left
  pub one_more : {a k o₂ : List ℕ} {e : ℕ} → l ≡ a ++ k → Put o₁ m a o₂ e → SoFar o p k w o₂ e
  one_more {a} {k} e g =
      record {
        text = f.text ++ a;
        put = put_then f.put g;
        rest = append_assoc f.text a k ∙ ap (λ (x : List ℕ). f.text ++ x) (sym e) ∙ f.rest;
      }

  -- there is room for it where there is for the whole
  pub room_more : (a k : List ℕ) → l ≡ a ++ k → p + length w ≤ length o → m + length a ≤ length o₁
  room_more a k e h =
      omega (
        arith,
        ap length f.rest,
        length-append f.text l,
        ap length e,
        length-append a k,
        f.put.ends,
        put_length f.put,
        h,
      )

  pub all_put : l ≡ [] → Put o p w o₁ m
  all_put e = put_as f.put (sym (append-nil f.text) ∙ ap (λ (x : List ℕ). f.text ++ x) (sym e) ∙ f.rest)

  pub same_room : length o₁ ≡ length o
  same_room = put_length f.put
