-- `bellrafter_page_walk` meets its contract. Assumes nothing.
use mathlib.Core.Path.{sym, ap, ◌∙◌}
use Rattle.rules.specs.Refusal.{by_number}
use Rattle.rig.specs.Answers.{pages_numbers}
use Rattle.rig.proofs.bellrafter_page_walk.Goals as goal

pub returns-in-Ok : goal.returns-in-Ok
returns-in-Ok c =
    let w = c.walk.ensures in
    let told = c.in-Ok.is in
    record {
      value = ap pages_numbers (ap by_number (sym told) ∙ w.value);
      addresses_after = w.addresses_after;
      counts_after = rw told at w.counts_after;
    }

pub returns-in-Err : goal.returns-in-Err
returns-in-Err c =
    let w = c.walk.ensures in
    let told = c.in-Err.is in
    record {
      value = rw c.number.ensures (ap pages_numbers (ap by_number (sym told) ∙ w.value));
      addresses_after = w.addresses_after;
      counts_after = rw told at w.counts_after;
    }
