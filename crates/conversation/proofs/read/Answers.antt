-- What was read lies in the chunk. Assumes nothing.
use Rattle.std.proofs.Common.{refl, arith}
use Rattle.conversation.specs.Steps.{by_read}
use Rattle.conversation.proofs.Stepping.{read_inside}
use Rattle.conversation.proofs.read.Goals as goal

pub returns-then-lines-2 : goal.returns-then-lines-2
returns-then-lines-2 g c =
    let i = read_inside c.read.result c.read.new.buf (omega arith) c.read.ensures.prefix_len in
    by_read _ c.if-lines.true c.if-lines-2.true c.filled.ensures c.read.ensures.stops i refl
