-- `share_byte` meets its contract. Assumes nothing.
use Rattle.queues.proofs.Creates.{share_first, share_second, apart_first, apart_second}
use Rattle.queues.proofs.create.share_byte.Goals as goal

pub returns-then-b-a : goal.returns-then-b-a
returns-then-b-a c =
    share_first _ _ _ _ c.if-a-b.true c.if-b-a.true

pub returns-else-b-a : goal.returns-else-b-a
returns-else-b-a c =
    apart_first _ _ _ _ c.if-a-b.true c.if-b-a.false

pub returns-then-a-b-2 : goal.returns-then-a-b-2
returns-then-a-b-2 c =
    share_second _ _ _ _ c.if-a-b.false c.if-a-b-2.true

pub returns-else-a-b-2 : goal.returns-else-a-b-2
returns-else-a-b-2 c =
    apart_second _ _ _ _ c.if-a-b.false c.if-a-b-2.false
