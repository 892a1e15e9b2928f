-- `refresh` meets its contract. Assumes nothing.
use Rattle.store.proofs.Fresh.{zeros, zeros_sound, fresh_held}
use Rattle.store.proofs.refresh.Goals as goal

pub put_free-requires : goal.put_free-requires
put_free-requires c =
    zeros_sound _ zeros

pub returns : goal.returns
returns c =
    let p = c.put_arbiter.ensures in
    let f = c.put_free.ensures in
    record { sound = p.sound; is = fresh_held _ zeros _ _ _ _ f.is c.new.ensures p.is }
