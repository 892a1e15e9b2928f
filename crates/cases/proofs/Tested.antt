-- The premises of demand 3 in computed histories, by tests. Assumes nothing.
use Prim.Native.Nat.{ℕ, zero, suc, ◌<◌}
use mathlib.Core.Bool.{Bool, true, false, not, ◌&&◌, ◌||◌, true≢false}
use mathlib.Core.List.{List, [], ◌∷◌, ◌++◌}
use mathlib.Core.Logic.{⊎_elim}
use mathlib.Core.Path.{◌≡◌, refl, sym, ap, ap₂, ◌∙◌}
use native.Mathlib.Omega.{arith}
use lib.Dec.{ltb, eqb, lit<}
use lib.ListN.{replicate}
use borrow.Author.Tests.{ltb-true, eqb-true}
use Rattle.rules.proofs.Tests.{and_true, same_or_not}
use Rattle.le.specs.Memory.{Memory, put, Bytes}
use Rattle.ring.specs.Reader.{phase_in}
use Rattle.controller.specs.Controller.{Controller}
use Rattle.controller.specs.State.{cq_at, fresh_controller}
use Rattle.controller.specs.Calls.{Call, Reachable, fresh}
use Rattle.controller.specs.Steps.{Step, given, Run, after_run, memory_after, all_steps, after_runs}
use Rattle.controller.specs.Demand.{There, ring_of, Kept, ClearTags, Untouched, Typed, History}
use Rattle.controller.proofs.MemoryBytes.{bytes_put, run_bytes}
use Rattle.controller.proofs.Steps.{reached, reached_runs, after_join}
use Rattle.controller.proofs.Lifetimes.{earlier_clear, earlier_untouched}
use Rattle.controller.proofs.Undisturbed.{narrow, narrow_is, typed_join}

-- every element is a byte, tested
abbrev pub low : List ℕ → Bool
low [] = true
low (b ∷ bs) = ltb b 256 && low bs

pub low_bytes : (b : List ℕ) → low b ≡ true → Bytes b
low_bytes [] e i = lit< tt
low_bytes (x ∷ b) e zero = ltb-true x 256 (and_true (ltb x 256) (low b) e).0
low_bytes (x ∷ b) e (suc i) = low_bytes b (and_true (ltb x 256) (low b) e).1 i

-- ---- runs between which the host writes

-- the host writes bytes to a place, and then calls are made
pub record Shared : Type 0 where
  pub place : ℕ
  pub bytes : List ℕ
  pub calls : List Call

abbrev pub calling : List Call → Shared
calling xs = record { place = 0; bytes = []; calls = xs }

abbrev pub after_writing : ℕ → List ℕ → List Call → Shared
after_writing place bytes xs = record { place = place; bytes = bytes; calls = xs }

-- each run in what the last one and then the host left
abbrev pub shared : Controller → Memory → List Shared → List Run
shared c m [] = []
shared c m (x ∷ xs) =
    let r : Run = record { memory = put m x.place x.bytes; calls = x.calls } in r ∷ shared (after_run c r) (memory_after c r) xs

-- what the host writes are bytes, and a result has 32 bits, tested
abbrev pub all_narrow : List Shared → Bool
all_narrow [] = true
all_narrow (x ∷ xs) = (low x.bytes && narrow x.calls) && all_narrow xs

pub shared_typed : {c : Controller} (m : Memory) (xs : List Shared) → Reachable c → Bytes m → all_narrow xs ≡ true → Typed (shared c m xs)
shared_typed m [] r b e = tt
shared_typed {c} m (x ∷ xs) r b e =
    let n = put m x.place x.bytes in
    let run : Run = record { memory = n; calls = x.calls } in
    let h = and_true (low x.bytes && narrow x.calls) (all_narrow xs) e in
    let k = and_true (low x.bytes) (narrow x.calls) h.0 in
    let w = bytes_put m x.place x.bytes b (low_bytes x.bytes k.0) in (
      w,
      narrow_is x.calls k.1,
      shared_typed {c = after_run c run} _ xs (reached (given c n x.calls) r) (run_bytes n x.calls r w) h.1,
    )

-- ---- clear tags, and rings that the host leaves alone: tested at every step, which is more than is asked of a queue that is deleted later

no : {A : Type 0} → false ≡ true → A
no e = absurd (true≢false (sym e))

or_yes : (a b : Bool) → a ≡ true → (not a || b) ≡ true → b ≡ true
or_yes true b h e = e
or_yes false b h e = no h

or_no : (a b : Bool) → a ≡ false → (a || b) ≡ true → b ≡ true
or_no true b h e = no (sym h)
or_no false b h e = e

abbrev pub same : List ℕ → List ℕ → Bool
same [] [] = true
same [] (y ∷ ys) = false
same (x ∷ xs) [] = false
same (x ∷ xs) (y ∷ ys) = eqb x y && same xs ys

same_is : (xs ys : List ℕ) → same xs ys ≡ true → xs ≡ ys
same_is [] [] e = refl
same_is [] (y ∷ ys) e = no e
same_is (x ∷ xs) [] e = no e
same_is (x ∷ xs) (y ∷ ys) e = let h = and_true (eqb x y) (same xs ys) e in ap₂ (λ z zs. z ∷ zs) (eqb-true x y h.0) (same_is xs ys h.1)

-- the phase tags of the first n slots are 0
abbrev pub clear : List ℕ → ℕ → Bool
clear ring zero = true
clear ring (suc n) = eqb (phase_in ring n) 0 && clear ring n

pub clear_is : (ring : List ℕ) (n : ℕ) → clear ring n ≡ true → (i : ℕ) → i < n → phase_in ring i ≡ 0
clear_is ring zero e i h = absurd (omega arith)
clear_is ring (suc n) e i h =
    let k = and_true (eqb (phase_in ring n) 0) (clear ring n) e in
    ⊎_elim (λ (y : i ≡ n). rw y (eqb-true _ 0 k.0)) (λ (d : i ≡ n → ⊥). clear_is ring n k.1 i (omega arith)) (same_or_not i n)

module _ (q : ℕ) where
  abbrev pub clears : Step → Bool
  clears s =
      let d = s.outcome.controller in
      (cq_at s.before q).ring.exists
      || (not (cq_at d q).ring.exists || clear (ring_of d q s.given.memory) (cq_at d q).ring.size)

  abbrev pub all_clear : List Step → Bool
  all_clear [] = true
  all_clear (s ∷ ss) = clears s && all_clear ss

  pub clear_tags : (ss : List Step) → all_clear ss ≡ true → ClearTags q ss
  clear_tags [] e = tt
  clear_tags (s ∷ ss) e =
      let k = and_true (clears s) (all_clear ss) e in
      let d = s.outcome.controller in (
        λ p n y. clear_is _ _ (or_yes (cq_at d q).ring.exists _ y (or_no (cq_at s.before q).ring.exists _ n k.0)),
        clear_tags ss k.1,
      )

  abbrev pub keeps : Controller → Memory → Memory → Bool
  keeps c left m = not (cq_at c q).ring.exists || same (ring_of c q m) (ring_of c q left)

  keeps_is : (c : Controller) (left m : Memory) → keeps c left m ≡ true → Kept c q left m
  keeps_is c left m e h = same_is _ _ (or_yes (cq_at c q).ring.exists _ h e)

  abbrev pub all_kept : Controller → Memory → List Run → Memory → Bool
  all_kept c left [] seen = keeps c left seen
  all_kept c left (r ∷ rs) seen = keeps c left r.memory && all_kept (after_run c r) (memory_after c r) rs seen

  pub untouched : (c : Controller) (left : Memory) (rs : List Run) (seen : Memory) → all_kept c left rs seen ≡ true
      → Untouched q c left rs seen
  untouched c left [] seen e = keeps_is c left seen e
  untouched c left (r ∷ rs) seen e =
      let k = and_true (keeps c left r.memory) _ e in
      (λ p. keeps_is c left r.memory k.0, untouched (after_run c r) (memory_after c r) rs seen k.1)

-- a history of such runs, after any others at the end of which the queue does not exist
module _ (weighted : Bool) (word : ℕ) (earlier : List Run) (m : Memory) (xs : List Shared) (q : ℕ) (seen : Memory) where
  abbrev first : Controller
  first = fresh_controller weighted word

  abbrev c : Controller
  c = after_runs first earlier

  abbrev later : List Run
  later = shared c m xs

  abbrev pub history : Typed earlier → (cq_at c q).ring.exists ≡ false → Bytes m → all_narrow xs ≡ true
      → all_clear q (all_steps c later) ≡ true → all_kept q c m later seen ≡ true → There q (after_runs c later) → History
  history typed absent bytes narrow clear kept there =
      record {
        weighted = weighted;
        word = word;
        runs = earlier ++ later;
        seen = seen;
        q = q;
        typed = typed_join earlier later typed (shared_typed m xs (reached_runs earlier (fresh weighted word)) bytes narrow);
        clear = earlier_clear q earlier later first absent (clear_tags q (all_steps c later) clear);
        untouched = earlier_untouched q earlier later first [] m seen absent (untouched q c m later seen kept);
        exists = ap (λ d. (cq_at d q).ring.exists) (after_join first earlier later) ∙ there;
      }

-- ---- entries

-- a submission entry of an opcode, FUSE and CID, its other fields 0
abbrev pub entry : ℕ → ℕ → ℕ → List ℕ
entry opc fuse cid = opc ∷ fuse ∷ cid ∷ replicate 61 0
