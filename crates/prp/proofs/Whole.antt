-- What is known where nothing is refused before the walk, and what the walk's answer tells of it. Assumes nothing.
use Rattle.prp.specs.declared.Walked.{Walked}
use Rattle.std.specs.Prelude.{Ok, Err}
use Prim.Native.Nat.{ℕ, ◌%◌}
use mathlib.Core.Path.{◌≡◌, sym, ap}
use native.Mathlib.Omega.{arith}
use borrow.Author.Tests.{ltb-false, eqb-true}
use lib.ListN.{length}
use Rattle.rules.specs.Rules.{first_match}
use Rattle.rules.proofs.Tests.{range, or-false, not_no}
use Rattle.rules.proofs.Tables.{passed}
use Rattle.prp.specs.Pages.{longest}
use Rattle.prp.specs.Walk.{Walk, refused, found, before_walk}
use Rattle.prp.specs.Answer.{answer, pages_of, addresses_of, Found}
use Rattle.prp.proofs.Outcomes.{Accepted}

pub accepted :
    {prp1 len k address_room count_room : ℕ} → 0 ≡ first_match (before_walk prp1 len k address_room count_room) →
    Accepted prp1 len k address_room count_room
unfolding before_walk
accepted {prp1} {len} {k} {address_room} {count_room} is =
    let p = passed (before_walk prp1 len k address_room count_room) tt (sym is) in
    let room = or-false _ _ p.1.1.1.0 in
    record {
      right = range 1 longest len p.0;
      size = ltb-false 4 k p.1.0;
      aligned = eqb-true (prp1 % 4) 0 (not_no _ p.1.1.0);
      addresses = ltb-false _ _ room.0;
      counts = ltb-false _ _ room.1;
    }

-- what a walk comes to, by its answer
pub is_refused : (w : Walk) {n : ℕ} → Err n ≡ answer w → w ≡ refused n
unfolding answer
is_refused (refused k) e = cc
is_refused (found l reads) e = cc

pub all_found : (w : Walk) {v : Walked} → Ok v ≡ answer w → Found w × (v.pages ≡ length (addresses_of w))
unfolding answer addresses_of Found
all_found (refused k) e = absurd (let z : ◌≡◌ {A = ℕ} 0 1 = cc in omega arith)
all_found (found l reads) e = (tt, ap pages_of e)
