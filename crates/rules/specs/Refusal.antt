-- The numbers of refusals, and answers told by them.
use Rattle.std.specs.Prelude.{ℕ, Result, Ok, Err}
use Rattle.rules.specs.declared.refusal.Refusal.{Refusal}
use Rattle.rules.specs.declared.refusal.Refusal.TheVariants as R

-- document 01's number of each, and from 30 on that of document 02's tickets
abbrev pub number : Refusal → ℕ
number R.IdTooLarge = 1
number R.QueueExists = 2
number R.SizeOutOfRange = 3
number R.BaseNotAligned = 4
number R.RingOutsideMemory = 5
number R.RingsOverlap = 6
number R.WrongCompletionQueue = 7
number R.ClassTooLarge = 8
number R.NoSuchQueue = 9
number R.InvalidDoorbellValue = 10
number R.QueueMarked = 11
number R.NoCandidate = 12
number R.TooFewTags = 13
number R.NotOutstanding = 14
number R.StatusTooLarge = 15
number R.FirstHalfOutstanding = 16
number R.NoFreeSlot = 17
number R.InvalidPrpOffset = 18
number R.ListEntryOutsideMemory = 19
number R.LengthOutOfRange = 20
number R.BufferTooShort = 21
number R.PageSizeTooLarge = 22
number R.UnknownMechanism = 23
number R.BadRecord = 30
number R.ShortRecord = 31
number R.NumbersUsedUp = 32
number R.CommandsOutstanding = 33
number R.NamedBySubmissionQueue = 34
number R.AdminQueue = 35

-- the number of an answer, and 0 where nothing is refused
abbrev pub code : {A : Type 0} → Result A Refusal → ℕ
code (Ok x) = 0
code (Err r) = number r

-- an answer with the number of its refusal in the place of the name
abbrev pub by_number : {A : Type 0} → Result A Refusal → Result A ℕ
by_number (Ok x) = Ok x
by_number (Err r) = Err (number r)
