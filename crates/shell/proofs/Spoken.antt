-- Laws of commands on the memory that is lent. Assumes nothing.
use mathlib.Core.Path.{◌≡◌, sym, ap, ◌∙◌}
use mathlib.Core.List.{List, [], ◌∷◌, ◌++◌}
use Prim.Native.Nat.{ℕ, zero, suc, ◌-◌, ◌≤◌}
use native.Mathlib.Omega.{arith}
use lib.ListN.{take, drop, get_or, take-append-drop}
use lib.Seq.{take-nil, get_or-take}
use Rattle.le.specs.Memory.{Memory}
use Rattle.controller.specs.Controller.{Controller}
use Rattle.store.specs.Held.{held, Reached}
use Rattle.stateless.specs.declared.speak.Answered as code
use Rattle.language.specs.Vocabulary.{memory_bytes}
use Rattle.language.specs.State.{console}
use Rattle.language.specs.Replies.{Said, Reply, reply}
use Rattle.language.specs.Line.{on_lent}
use Rattle.stateless.specs.Leaving.{Printed}
use Rattle.shell.specs.Leaving.{Spoke}
use Rattle.stateless.proofs.Sentences.{printed_as}

-- a command by its reply: the rest of the memory stays
pub lent_spoke : (c : Controller) (m : Memory) (lent : ℕ) (f : Controller → Memory → Reply) {s : Said} {m₁ : Memory} {w : List ℕ} {n : ℕ}
    {o o₁ : List ℕ} {r : code.Answered} {words bytes : List ℕ} → reply s (held words) m₁ ≡ f c (take lent m) → Printed s w n o o₁ lent r
    → Reached words → lent ≤ memory_bytes → bytes ≡ m₁ ++ drop lent m → Spoke (on_lent (console c m lent) f) w n o o₁ r words bytes
lent_spoke c m lent f e p h i b =
    record {
      printed = printed_as (ap (λ (x : Reply). x.says) e) p;
      controller = ap (λ (x : Reply). x.controller) e;
      memory = b ∙ ap (λ (x : Reply). x.memory ++ drop lent m) e;
      reached = h;
      inside = i;
    }

-- one that leaves the memory as it is
pub memory_stays : (lent : ℕ) (m : Memory) → m ≡ take lent m ++ drop lent m
memory_stays lent m = sym (take-append-drop lent m)

-- ---- the values of a poke

pub values_behind : (count : ℕ) (l : List ℕ) → 1 ≤ count → drop 1 (take count l) ≡ take (count - 1) (drop 1 l)
values_behind zero l h = absurd (omega arith)
values_behind (suc k) [] h = sym (take-nil (suc k - 1))
values_behind (suc k) (x ∷ l) h = let e : k ≡ suc k - 1 = omega arith in ap (λ (j : ℕ). take j l) e

pub place_of : (count : ℕ) (l : List ℕ) → 1 ≤ count → get_or (take count l) 0 0 ≡ get_or l 0 0
place_of count l h = get_or-take count l 0 0 h
