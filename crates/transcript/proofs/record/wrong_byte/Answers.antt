-- `wrong_byte` meets its contract. Assumes nothing.
use Rattle.std.proofs.Common.{◌≡◌, ◌∙◌, arith, rules}
use Rattle.trace.specs.declared.Kind.TheVariants as K
use Rattle.transcript.proofs.Wrongs.{wrong_unknown, set_start, wrong_start, set_other, wrong_other}
use Rattle.transcript.proofs.record.wrong_byte.Goals as goal

pub returns-in-None : goal.returns-in-None
returns-in-None c =
    (wrong_unknown c.args.bytes.now c.requires.1 c.in-None.ensures, omega (arith, c.requires.0.whole))

pub first_set-requires : goal.first_set-requires
first_set-requires c =
    let i = c.in-Some-Start in set_start c.args.bytes.now c.requires.1 i.ensures i.field-0-is c.requires.0

pub returns-in-Some-Start : goal.returns-in-Some-Start
returns-in-Some-Start c =
    let i = c.in-Some-Start in
    let f = c.first_set.ensures in
    (f.0 ∙ wrong_start c.args.bytes.now c.requires.1 i.ensures i.field-0-is, f.1)

pub first_set-requires-in-Some : goal.first_set-requires-in-Some
first_set-requires-in-Some c =
    let i = c.in-Some in
    let d : i.field-0 ≡ K.Start → ⊥ = search rules in
    set_other c.args.bytes.now c.requires.1 i.ensures d c.requires.0

pub returns-in-Some : goal.returns-in-Some
returns-in-Some c =
    let i = c.in-Some in
    let f = c.first_set-in-Some.ensures in
    let d : i.field-0 ≡ K.Start → ⊥ = search rules in
    (f.0 ∙ wrong_other c.args.bytes.now c.requires.1 i.ensures d, f.1)
