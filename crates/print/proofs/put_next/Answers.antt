-- `put_next` meets its contract. Assumes nothing.
use Rattle.print.proofs.Puts.{put_then}
use Rattle.print.proofs.put_next.Goals as goal

pub returns : goal.returns
returns c =
    put_then c.put_one-to.ensures c.put_number.ensures
