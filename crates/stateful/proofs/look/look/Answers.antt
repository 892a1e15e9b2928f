-- `look` meets its contract. Assumes nothing.
use Rattle.language.specs.Commands.{looked}
use Rattle.stateful.proofs.look.look.Goals as goal

pub show_sq-requires : goal.show_sq-requires
show_sq-requires c =
    rw c.in-ShowSq.is at c.requires

pub show_cq-requires : goal.show_cq-requires
show_cq-requires c =
    rw c.in-ShowCq.is at c.requires

pub show_tag-requires : goal.show_tag-requires
show_tag-requires c =
    rw c.in-ShowTag.is at c.requires

pub returns-in-CheckTail : goal.returns-in-CheckTail
unfolding looked
returns-in-CheckTail c =
    rw c.in-CheckTail.is (rw (c.code.ensures, c.check_tail.ensures) at c.told.ensures.says)

pub returns-in-CheckHead : goal.returns-in-CheckHead
unfolding looked
returns-in-CheckHead c =
    rw c.in-CheckHead.is (rw (c.code-in-CheckHead.ensures, c.check_head.ensures) at c.told-in-CheckHead.ensures.says)

pub returns-in-ShowSq : goal.returns-in-ShowSq
returns-in-ShowSq c =
    rw c.in-ShowSq.is c.show_sq.ensures

pub returns-in-ShowCq : goal.returns-in-ShowCq
returns-in-ShowCq c =
    rw c.in-ShowCq.is c.show_cq.ensures

pub returns-in-ShowTag : goal.returns-in-ShowTag
returns-in-ShowTag c =
    rw c.in-ShowTag.is c.show_tag.ensures

pub returns-in-ShowArbiter : goal.returns-in-ShowArbiter
unfolding looked
returns-in-ShowArbiter c =
    rw c.in-ShowArbiter.is c.show_arbiter.ensures
