-- What a reader hands out: from the start of a trace on, its records one after another, and then the end. Assumes nothing.
use Rattle.std.specs.Prelude.{Result, Ok}
use Prim.Native.Nat.{ℕ, zero, suc, ◌+◌, ◌-◌, ◌<◌, ◌≤◌}
use mathlib.Core.List.{List, [], ◌∷◌, ◌++◌, map}
use mathlib.Core.Path.{◌≡◌, refl, sym, ap}
use native.Mathlib.Nat.{zero-add, suc-add, sub-zero}
use native.Mathlib.Omega.{arith}
use lib.ListN.{length, replicate}
use Rattle.trace.specs.declared.Record.{Record}
use Rattle.trace.specs.declared.Record.TheVariants.{End}
use Rattle.trace.specs.Record.{record_in}
use Rattle.trace.specs.Trace.{begun, records, record_at, next_at}
use Rattle.trace.proofs.Cutting.{records_from, at_end, unrolled}
use Rattle.trace.proofs.Wholes.{ended, there}

-- the first n records that a reader hands out which stands at a place: by the contracts of `next` and `moved`, it hands out the record
-- there, and is then at the next place
abbrev pub handed_out : ℕ → List ℕ → ℕ → List (Result Record ℕ)
handed_out zero t place = []
handed_out (suc n) t place = record_at t place ∷ handed_out n t (next_at t place)

module _ (t : List ℕ) where
  next_end : (place : ℕ) → length t ≤ place → length t ≤ next_at t place
  unfolding next_at
  next_end place h = omega arith

  -- at the end, the end again and again
  past : (n place : ℕ) → length t ≤ place → handed_out n t place ≡ replicate n (Ok End)
  past zero place h = refl
  past (suc n) place h = rw (← ended t place h, past n (next_at t place) (next_end place h))

  none_begun : (place : ℕ) → 0 ≡ begun (length t - place) → length t ≤ place
  unfolding begun
  none_begun place e = omega arith

  one_begun : (k place : ℕ) → suc k ≡ begun (length t - place) → (place < length t) × (k ≡ begun (length t - next_at t place))
  unfolding begun next_at
  one_begun k place e = (omega arith, omega arith)

  from_place : (k n place : ℕ) → k ≡ begun (length t - place)
      → handed_out (k + n) t place ≡ map record_in (records_from t place) ++ replicate n (Ok End)
  from_place zero n place e = let h = none_begun place e in rw (at_end t place h, zero-add n) (past n place h)
  from_place (suc k) n place e =
      let b = one_begun k place e in
      rw (suc-add, unrolled t place b.0, ← there t place b.0, from_place k n (next_at t place) b.1)

  -- from the start, where `new` puts it: the trace's records, and then, of any n more, the end each time
  pub hands_out : (n : ℕ) → handed_out (begun (length t) + n) t 0 ≡ map record_in (records t) ++ replicate n (Ok End)
  unfolding records
  hands_out n =
      let z = sub-zero (length t) in rw z at (from_place (begun (length t)) n 0 (ap begun (sym z)))
