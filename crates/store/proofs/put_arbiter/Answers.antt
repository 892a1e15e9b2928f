-- `put_arbiter` meets its contract. Assumes nothing.
use borrow.Author.Rules.{rules}
use Rattle.store.proofs.Setters.{arbiter_put}
use Rattle.store.proofs.put_arbiter.Goals as goal

pub returns : goal.returns
returns c =
    let g = c.put_group.ensures in
    let h = c.put_level.ensures in
    let m = c.put_level-2.ensures in
    let l = c.put_level-3.ensures in
    rw (l.3, m.3, h.3, g.3) (arbiter_put c.args.s.now c.requires c.args.a (record {
      word = search rules;
      holder = search rules;
      high_holder = search rules;
      high_credit = search rules;
      medium_holder = search rules;
      medium_credit = search rules;
      low_holder = search rules;
      low_credit = search rules;
    }) _ _ _ _ (g.1, g.2) (h.1, h.2) (m.1, m.2) (l.1, l.2))
