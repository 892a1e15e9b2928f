-- `arbiter::Arbiter::choose` meets its contract. Assumes nothing.
use mathlib.Core.Path.{◌∙◌}
use borrow.Author.Rules.{rules}
use Rattle.arbiter.proofs.Mechanisms.{choice_weighted, choice_robin}
use Rattle.arbiter.proofs.Choice.{Fits, answered}
use Rattle.arbiter.proofs.Arbiter.choose.Goals as goal
use Rattle.arbiter.proofs.Arbiter.choose.Goals.{Start}

-- the clauses by name
named : {A0 A1 : Type 0} → A0 × A1 → record { value : A0; refusal : A1 }
named p = record { value = p.0; refusal = p.1 }

fits :
    (s : Start) → Fits s.args.c
fits s =
    record {
      all = search rules;
      urgent = search rules;
      high = search rules;
      medium = search rules;
      low = search rules;
    }

pub returns-then-self : goal.returns-then-self
returns-then-self c =
    named (answered _ (fits (goal.at.returns-then-self c).Start) _ (c.choose_weighted.ensures ∙ choice_weighted _ _ c.if-self.true))

pub returns-else-self : goal.returns-else-self
returns-else-self c =
    named (answered _ (fits (goal.at.returns-else-self c).Start) _ (c.choose_group.ensures ∙ choice_robin _ _ c.if-self.false))
