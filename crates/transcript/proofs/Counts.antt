-- A record, counted, case by case. Assumes nothing.
use Rattle.std.proofs.Common.{◌≡◌, ℕ, ◌≤◌, length, get_or, set, eq-eqb, ne_eqb}
use lib.Seq.{set_out}
use Rattle.rules.specs.Rules.{pick}
use Rattle.refusals.specs.Meaning.{is_of_record}
use Rattle.transcript.specs.declared.summary.Tally.{Tally}
use Rattle.transcript.specs.Tally.{one_more, counted}

module _ (t : Tally) (n : ℕ) {r c : ℕ} (er : r ≡ one_more t.records) (ec : c ≡ pick (is_of_record n) t.calls (one_more t.calls))
  where
    -- one that was not refused
    pub count_done : n ≡ 0 → ◌≡◌ {A = Tally} (record { records = r; calls = c; refused = t.refused; numbers = t.numbers }) (counted t n)
    unfolding counted
    count_done z = rw (er, ec, eq-eqb n 0 z)

    module _ (d : n ≡ 0 → ⊥) {f : ℕ} (ef : f ≡ one_more t.refused) where
      -- one that was refused with a number that has no place
      pub count_above : length t.numbers ≤ n
          → ◌≡◌ {A = Tally} (record { records = r; calls = c; refused = f; numbers = t.numbers }) (counted t n)
      unfolding counted
      count_above l = rw (er, ec, ef, ne_eqb n 0 d, set_out t.numbers n (one_more (get_or t.numbers n 0)) l)

      pub count_number : {k : ℕ} → k ≡ one_more (get_or t.numbers n 0)
          → ◌≡◌ {A = Tally} (record { records = r; calls = c; refused = f; numbers = set t.numbers n k }) (counted t n)
      unfolding counted
      count_number e = rw (er, ec, ef, e, ne_eqb n 0 d)
