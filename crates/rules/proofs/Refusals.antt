-- Laws of the numbers of refusals. Assumes nothing.
use Prim.Native.Nat.{ℕ, ◌<◌}
use mathlib.Core.Path.{◌≡◌, refl, sym, ap, ◌∙◌}
use native.Mathlib.Omega.{arith}
use lib.Dec.{lit<, eqb}
use Rattle.std.specs.Prelude.{Ok, Err}
use Rattle.rules.specs.Refusal.{number}
use Rattle.rules.specs.Rules.{pick, settle}
use Rattle.rules.specs.declared.refusal.Refusal.{Refusal}
use Rattle.rules.specs.declared.refusal.Refusal.TheVariants as R
use Rattle.rules.proofs.Tables.{settle_refused, settle_accepted}

-- no refusal has the number 0
pub number_above : (r : Refusal) → 0 < number r
number_above R.IdTooLarge = lit< tt
number_above R.QueueExists = lit< tt
number_above R.SizeOutOfRange = lit< tt
number_above R.BaseNotAligned = lit< tt
number_above R.RingOutsideMemory = lit< tt
number_above R.RingsOverlap = lit< tt
number_above R.WrongCompletionQueue = lit< tt
number_above R.ClassTooLarge = lit< tt
number_above R.NoSuchQueue = lit< tt
number_above R.InvalidDoorbellValue = lit< tt
number_above R.QueueMarked = lit< tt
number_above R.NoCandidate = lit< tt
number_above R.TooFewTags = lit< tt
number_above R.NotOutstanding = lit< tt
number_above R.StatusTooLarge = lit< tt
number_above R.FirstHalfOutstanding = lit< tt
number_above R.NoFreeSlot = lit< tt
number_above R.InvalidPrpOffset = lit< tt
number_above R.ListEntryOutsideMemory = lit< tt
number_above R.LengthOutOfRange = lit< tt
number_above R.BufferTooShort = lit< tt
number_above R.PageSizeTooLarge = lit< tt
number_above R.UnknownMechanism = lit< tt
number_above R.BadRecord = lit< tt
number_above R.ShortRecord = lit< tt
number_above R.NumbersUsedUp = lit< tt
number_above R.CommandsOutstanding = lit< tt
number_above R.NamedBySubmissionQueue = lit< tt
number_above R.AdminQueue = lit< tt

pub number_not_0 : (r : Refusal) → number r ≡ 0 → ⊥
number_not_0 r e = omega (arith, number_above r)

-- the refusal that an answer comes to, where what settles it has the number of the refusal
pub refuses : {A : Type 0} {n : ℕ} (r : Refusal) (x : A) → number r ≡ n → Err (number r) ≡ settle n Err (Ok x)
refuses {A} {n} r x e = ap Err e ∙ sym (settle_refused n Err (Ok x) (λ z. number_not_0 r (e ∙ z)))

-- the value that an answer comes to, where what settles it has no number
pub accepts : {A : Type 0} {n : ℕ} (x y : A) → 0 ≡ n → x ≡ y → Ok x ≡ settle n Err (Ok y)
accepts {A} {n} x y z e = ap Ok e ∙ sym (settle_accepted n Err (Ok y) (sym z))

-- ---- a refusal is known by its number

-- the refusal of each number
named : ℕ → Refusal
named n =
    pick (eqb n 1) R.IdTooLarge
    (pick (eqb n 2) R.QueueExists
    (pick (eqb n 3) R.SizeOutOfRange
    (pick (eqb n 4) R.BaseNotAligned
    (pick (eqb n 5) R.RingOutsideMemory
    (pick (eqb n 6) R.RingsOverlap
    (pick (eqb n 7) R.WrongCompletionQueue
    (pick (eqb n 8) R.ClassTooLarge
    (pick (eqb n 9) R.NoSuchQueue
    (pick (eqb n 10) R.InvalidDoorbellValue
    (pick (eqb n 11) R.QueueMarked
    (pick (eqb n 12) R.NoCandidate
    (pick (eqb n 13) R.TooFewTags
    (pick (eqb n 14) R.NotOutstanding
    (pick (eqb n 15) R.StatusTooLarge
    (pick (eqb n 16) R.FirstHalfOutstanding
    (pick (eqb n 17) R.NoFreeSlot
    (pick (eqb n 18) R.InvalidPrpOffset
    (pick (eqb n 19) R.ListEntryOutsideMemory
    (pick (eqb n 20) R.LengthOutOfRange
    (pick (eqb n 21) R.BufferTooShort
    (pick (eqb n 22) R.PageSizeTooLarge
    (pick (eqb n 23) R.UnknownMechanism
    (pick (eqb n 30) R.BadRecord
    (pick (eqb n 31) R.ShortRecord
    (pick (eqb n 32) R.NumbersUsedUp
    (pick (eqb n 33) R.CommandsOutstanding
    (pick (eqb n 34) R.NamedBySubmissionQueue R.AdminQueue)))))))))))))))))))))))))))

named_number : (r : Refusal) → named (number r) ≡ r
unfolding named
named_number R.IdTooLarge = refl
named_number R.QueueExists = refl
named_number R.SizeOutOfRange = refl
named_number R.BaseNotAligned = refl
named_number R.RingOutsideMemory = refl
named_number R.RingsOverlap = refl
named_number R.WrongCompletionQueue = refl
named_number R.ClassTooLarge = refl
named_number R.NoSuchQueue = refl
named_number R.InvalidDoorbellValue = refl
named_number R.QueueMarked = refl
named_number R.NoCandidate = refl
named_number R.TooFewTags = refl
named_number R.NotOutstanding = refl
named_number R.StatusTooLarge = refl
named_number R.FirstHalfOutstanding = refl
named_number R.NoFreeSlot = refl
named_number R.InvalidPrpOffset = refl
named_number R.ListEntryOutsideMemory = refl
named_number R.LengthOutOfRange = refl
named_number R.BufferTooShort = refl
named_number R.PageSizeTooLarge = refl
named_number R.UnknownMechanism = refl
named_number R.BadRecord = refl
named_number R.ShortRecord = refl
named_number R.NumbersUsedUp = refl
named_number R.CommandsOutstanding = refl
named_number R.NamedBySubmissionQueue = refl
named_number R.AdminQueue = refl

pub number_once : (r s : Refusal) → number r ≡ number s → r ≡ s
number_once r s e = sym (named_number r) ∙ ap named e ∙ named_number s
