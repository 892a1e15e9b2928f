-- `started` meets its contract. Assumes nothing.
use mathlib.Core.Path.{refl}
use native.Mathlib.Omega.{arith}
use Rattle.stateful.proofs.call.started.Goals as goal

pub returns-in-Ok-One : goal.returns-in-Ok-One
returns-in-Ok-One c =
    let ok = c.in-Ok-One.is in
    rw (ok, rw ok at c.in-Ok-One.field-0-is) c.told.ensures.says

pub returns-in-Ok-Pair : goal.returns-in-Ok-Pair
returns-in-Ok-Pair c =
    let ok = c.in-Ok-Pair.is in
    rw (ok, rw ok at c.in-Ok-Pair.field-0-is) c.told-in-Ok-Pair.ensures.says

pub returns-in-Err : goal.returns-in-Err
returns-in-Err c =
    rw (c.in-Err.is, c.changed.ensures, c.number.ensures) (record { is = refl; few = omega arith })
