-- `told` meets its contract. Assumes nothing.
use Rattle.std.proofs.Common.{◌≡◌, ℕ, List, ◌++◌, min, length, take, arith, ap}
use Rattle.std.proofs.Padding.{drop-replicate}
use lib.Seq.{length-take-le}
use Rattle.stateless.proofs.Sentences.{says_told}
use Rattle.stateless.proofs.reply.told.Goals as goal

pub returns-clause-whole : goal.returns-clause-whole
returns-clause-whole c =
    let said = c.args.said.now in
    let n = min (length said) 16 in
    rw (c.copy_from_slice.ensures.after, c.min-count.ensures)
    (ap (λ (l : List ℕ). record { refusal = 0; count = n; numbers = take n said ++ l }) (drop-replicate n 16 0))

pub returns-clause-says : goal.returns-clause-says
returns-clause-says c =
    let said = c.args.said.now in
    let n = min (length said) 16 in
    let long : length (take n said) ≡ n = length-take-le n said (omega arith) in
    rw (c.copy_from_slice.ensures.after, c.min-count.ensures) (says_told _ _ _ long (omega arith))
