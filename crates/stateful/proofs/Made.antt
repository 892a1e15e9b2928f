-- Laws of calls that the code made. Assumes nothing.
use mathlib.Core.Path.{◌≡◌, refl, sym, ap, ◌∙◌}
use mir.Val.{bool_byte as from_bool}
use mathlib.Core.Bool.{Bool, true, false}
use mathlib.Core.List.{List, [], ◌∷◌}
use Prim.Native.Nat.{ℕ}
use lib.Dec.{eqb}
use borrow.Author.Tests.{eqb-true}
use Rattle.std.specs.Prelude.{⊤, Result}
use Rattle.rules.specs.Rules.{pick}
use Rattle.rules.specs.Refusal.{code}
use Rattle.rules.specs.declared.refusal.Refusal.{Refusal}
use Rattle.le.specs.Memory.{Memory}
use Rattle.controller.specs.Controller.{Controller}
use Rattle.controller.specs.Answers.{Answer, Outcome, done, refused, number_of, outcome}
use Rattle.controller.specs.Calls.{Call, perform, of_number}
use Rattle.stateless.specs.declared.reply.Reply as short
use Rattle.language.specs.Replies.{Said, changed, reply}
use Rattle.language.specs.Commands.{calling, called, bit_of}
use Rattle.stateless.specs.Leaving.{heard, changed_reply}

-- the number of a call's answer
number_of_lem : (n : ℕ) → number_of (of_number n) ≡ n
number_of_lem n = by (eqb n 0) refl
  where
    by : (t : Bool) → eqb n 0 ≡ t → number_of (pick t done (refused n)) ≡ n
    by true e = sym (eqb-true n 0 e)
    by false e = refl

-- a call by the numbers of its answer
pub calling_made : (f : Answer → List ℕ) (a : Answer) (c d : Controller) (m m₁ : Memory) (x : Call) (r : short.Reply)
    → heard r ≡ changed (f a) → outcome a d m₁ ≡ perform c m x → reply (heard r) d m₁ ≡ calling f c m x
calling_made f a c d m m₁ x r e h =
    ap (λ (s : Said). reply s d m₁) e ∙ ap (λ (o : Outcome). reply (changed (f o.answer)) o.controller o.memory) h

-- a call that answers by its refusal alone, whose number is n
pub call_made : {n : ℕ} (a : Result ⊤ Refusal) (c d : Controller) (m : Memory) (x : Call) (r : short.Reply) → n ≡ code a
    → r ≡ changed_reply n 1 → outcome (of_number (code a)) d m ≡ perform c m x → reply (heard r) d m ≡ called c m x
call_made a c d m x r k e h =
    calling_made (λ b. number_of b ∷ []) (of_number (code a)) c d m m x r
    (ap heard e ∙ ap (λ (i : ℕ). changed (i ∷ [])) (k ∙ sym (number_of_lem (code a)))) h

-- a bit by std's conversion
pub bit_is : (b : Bool) → from_bool b ≡ bit_of b
bit_is true = refl
bit_is false = refl
