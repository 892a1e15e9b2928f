-- The way through a list: how many pointers are on it, the run of entries that a loop reads of a list page, and where a walk stands
-- between two reads. The loop that checks a list and the one that stores its addresses both follow it. Assumes nothing.
use Prim.Native.Nat.{ℕ, zero, suc, ◌+◌, ◌-◌, ◌*◌, ◌/◌, ◌%◌, ◌≤◌, ◌<◌, min}
use mathlib.Core.Path.{◌≡◌, refl, ap, subst, ◌∙◌}
use mathlib.Core.List.{List, [], ◌∷◌, ◌++◌, append-nil}
use mathlib.Core.Logic.{◌≢◌, ⊎_elim}
use native.Mathlib.Nat.{zero-add, mul-suc, mul-le-mul_right, div-le_of_le-mul, add-div_right, mod-lt}
use native.Mathlib.Omega.{arith}
use lib.ListN.{length, length-append}
use Rattle.rules.proofs.Tests.{lt_or_ge, same_or_not}
use Rattle.le.specs.Le.{le_at}
use Rattle.prp.specs.Walk.{Walk, refused, found, after, list}
use Rattle.prp.specs.Answer.{Found}
use Rattle.prp.proofs.Touched.{next_place}
use Rattle.prp.proofs.Lists.{after_after, Read, outside, offset, address, pointer}

-- the pointers from a on, with left pages of data left: a list page has page / 8 entries, and the last of them is one if more than
-- one page is left there
unfoldable pub pointers : ℕ → ℕ → ℕ → ℕ
pointers page a left = (left + a % page / 8 - 2) / (page / 8 - 1)

-- no more of them than pages of data
pub pointers_few : (page a left : ℕ) → 4096 ≤ page → 0 < left → pointers page a left ≤ left
unfolding pointers
pointers_few page a zero low some = absurd (omega arith)
pointers_few page a (suc n) low some =
    let pos : 0 < page = omega arith in
    let q : 1 ≤ page / 8 - 1 = omega arith in
    div-le_of_le-mul (page / 8 - 1) (rw mul-suc (omega (arith, mod-lt a pos, mul-le-mul_right n q)))

-- an address leaves as many, and a pointer one less
after_address : (page a left : ℕ) → 0 < left → a % page + 8 < page → pointers page (a + 8) (left - 1) ≡ pointers page a left
unfolding pointers
after_address page a left some h = ap (λ (k : ℕ). k / (page / 8 - 1)) (omega (arith, next_place page a h))

after_pointer :
    (page a e left : ℕ) → 4096 ≤ page → 1 < left → a % page + 8 ≡ page → e % page ≡ 0 → 1 + pointers page e left ≡ pointers page a left
unfolding pointers
after_pointer page a e left low two h aligned =
    let to : left + e % page / 8 - 2 ≡ left - 2 = omega arith in
    let from : left + a % page / 8 - 2 ≡ left - 2 + (page / 8 - 1) = omega arith in
    let q : 0 < page / 8 - 1 = omega arith in
    rw (to, from, add-div_right (left - 2) q) (omega arith)

-- The run of entries that a loop reads of a list page, from a₀ with left₀ pages of data left: at a, here entries stand on the list
-- page from a on, and more of them are to be read.
pub record Run (page a₀ left₀ a left more : ℕ) : Type 0 where
  pub low : 4096 ≤ page
  pub here : ℕ
  pub some : 0 < here
  pub room : a % page + 8 * here ≡ page
  pub few : more ≡ min left here
  pub same : pointers page a left ≡ pointers page a₀ left₀

-- From the list's first place, a₀ with left₀ pages of data left, to a: the addresses found, and n entries read, which are these and
-- the pointers between.
pub record Between (page : ℕ) (m : List ℕ) (a₀ left₀ n a left : ℕ) : Type 0 where
  pub some : 0 < left
  pub done : List ℕ
  pub many : length done + left ≡ left₀
  pub reads : n + pointers page a left ≡ length done + pointers page a₀ left₀
  pub is : list page m left₀ a₀ ≡ after done n (list page m left a)

after_none : (w : Walk) → w ≡ after [] 0 w
unfolding after
after_none (refused number) = refl
after_none (found l n) = rw zero-add

-- a run begins where a list page has n entries from a on
pub begin_run : {page a left more : ℕ} (n : ℕ) → 4096 ≤ page → a % page + 8 * n ≡ page → more ≡ min left n → Run page a left a left more
begin_run {page} {a} n low e is =
    record { low = low; here = n; some = omega (arith, mod-lt a {m = page} (omega arith)); room = e; few = is; same = refl }

pub begin : {page : ℕ} {m : List ℕ} {a left : ℕ} → 0 < left → Between page m a left 0 a left
begin {page} {m} {a} {left} h =
    record { some = h; done = []; many = omega arith; reads = omega arith; is = after_none (list page m left a) }

module _ {page : ℕ} {m : List ℕ} {a₀ left₀ n a left : ℕ} (t : Between page m a₀ left₀ n a left) where
  -- a refusal here refuses the list
  stops : {number : ℕ} → list page m left a ≡ refused number → list page m left₀ a₀ ≡ refused number
  unfolding after
  stops e = t.is ∙ ap (after t.done n) e

  pub not_inside : length m < a + 8 → list page m left₀ a₀ ≡ refused 19
  not_inside h = stops (outside page m left a t.some h)

  pub not_aligned : a + 8 ≤ length m → le_at 8 m a % page ≢ 0 → list page m left₀ a₀ ≡ refused 18
  not_aligned h g = stops (offset page m left a t.some h g)

  -- the entry of a good list
  pub good_entry : Found (list page m left₀ a₀) → {e : ℕ} → e ≡ le_at 8 m a → Read page m a e
  unfolding Found
  good_entry f is =
      let inside = ⊎_elim (λ g. absurd (subst Found (not_inside g) f)) (λ g. g) (lt_or_ge (length m) (a + 8)) in
      let aligned = ⊎_elim (λ g. g) (λ g. absurd (subst Found (not_aligned inside g) f)) (same_or_not (le_at 8 m a % page) 0) in
      record { inside = inside; is = is; aligned = rw is aligned }

  module _ {e : ℕ} (d : Read page m a e) where
    -- the entry for the last page of data is an address
    pub last_is : 4096 ≤ page → left ≡ 1 → list page m left a ≡ found (e ∷ []) 1
    unfolding list after
    last_is low h =
        let none : left - 1 ≡ 0 = omega arith in
        address d left t.some low (λ g. h) ∙ rw none

    pub last : 4096 ≤ page → left ≡ 1 → list page m left₀ a₀ ≡ found (t.done ++ (e ∷ [])) (n + 1)
    unfolding after
    last low h = t.is ∙ ap (after t.done n) (last_is low h)

    module _ {a₁ left₁ more : ℕ} (r : Run page a₁ left₁ a left more) where
      -- and so is one before the last of a run
      module _ (h : more ≡ 1 → ⊥) where
        inner : a % page + 8 < page
        inner = omega (arith, t.some, r.some, r.room, r.few)

        pub next_is : list page m left a ≡ after (e ∷ []) 1 (list page m (left - 1) (a + 8))
        next_is = address d left t.some r.low (λ g. omega (arith, inner))

        pub next : Between page m a₀ left₀ (n + 1) (a + 8) (left - 1) × Run page a₁ left₁ (a + 8) (left - 1) (more - 1)
        next =
            let same = after_address page a left t.some inner in
            let len = length-append t.done (e ∷ []) in (
              record {
                some = omega (arith, t.some, r.some, r.few);
                done = t.done ++ (e ∷ []);
                many = omega (arith, len, t.some, t.many);
                reads = omega (arith, len, same, t.reads);
                is = t.is ∙ ap (after t.done n) next_is ∙ after_after t.done (e ∷ []) n 1 _;
              },
              record {
                low = r.low;
                here = r.here - 1;
                some = omega (arith, t.some, r.some, r.few);
                room = omega (arith, next_place page a inner, r.some, r.room);
                few = omega (arith, r.few);
                same = same ∙ r.same;
              },
            )

      -- the last of a run is a pointer, if more than one page of data is left
      module _ (one : more ≤ 1) (h : left ≡ 1 → ⊥) where
        end : a % page + 8 ≡ page
        end = omega (arith, t.some, r.some, r.room, r.few)

        pub follow_is : list page m left a ≡ after [] 1 (list page m left e)
        follow_is = pointer d left (omega (arith, t.some)) r.low end

        pub follow : Between page m a₀ left₀ (n + 1) e left × (pointers page e left < pointers page a₁ left₁)
        follow =
            let less = after_pointer page a e left r.low (omega (arith, t.some)) end d.aligned in (
              record {
                some = t.some;
                done = t.done;
                many = t.many;
                reads = omega (arith, less, t.reads);
                is = t.is ∙ ap (after t.done n) follow_is ∙ after_after t.done [] n 1 _ ∙ rw append-nil;
              },
              omega (arith, less, r.same),
            )
