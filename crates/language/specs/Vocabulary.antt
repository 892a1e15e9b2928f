-- The commands: the word of each, and what stands behind it.
use Rattle.std.specs.Prelude.{ℕ, List, [], ◌∷◌, replicate, Option, Some, None}
use Prim.Native.String.{String}
use Rattle.rules.specs.Rules.{pick}
use Rattle.print.specs.Text.{bytes}
use Rattle.parse.specs.Line.{same}
use Rattle.parse.specs.declared.arguments.Rest.{Rest}
use Rattle.parse.specs.declared.arguments.Rest.TheVariants.{Nothing, Numbers, Bytes}
use Rattle.language.specs.declared.command.Call.{Call}
use Rattle.language.specs.declared.command.Call.TheVariants as C
use Rattle.language.specs.declared.command.OnPart.{OnPart}
use Rattle.language.specs.declared.command.OnPart.TheVariants as P
use Rattle.language.specs.declared.command.Look.{Look}
use Rattle.language.specs.declared.command.Look.TheVariants as L
use Rattle.language.specs.declared.command.Command.{Command}
use Rattle.language.specs.declared.command.Command.TheVariants as K

-- ---- the largest values

-- a number of 64, 32, 16 and 8 bits
abbrev pub any : ℕ
any = 18446744073709551615

abbrev pub bits32 : ℕ
bits32 = 4294967295

abbrev pub bits16 : ℕ
bits16 = 65535

abbrev pub bits8 : ℕ
bits8 = 255

-- the memory
abbrev pub memory_bytes : ℕ
memory_bytes = 1048576

-- what is peeked at on one line
abbrev pub peek_bytes : ℕ
peek_bytes = 1024

-- the room for the answer records of a replay
abbrev pub replay_bytes : ℕ
replay_bytes = 2048

-- the room of a page walk for addresses, and for counts
abbrev pub walk_bytes : ℕ
walk_bytes = 65536

-- ---- what stands behind a word

-- the largest value of each number, and what may stand behind these
pub record Form : Type 0 where
  pub largest : List ℕ
  pub rest : Rest

abbrev pub fixed : List ℕ → Form
fixed ms = record { largest = ms; rest = Nothing }

-- so many numbers of 64 bits
abbrev pub anys : ℕ → List ℕ
anys n = replicate n any

abbrev pub call_form : Call → List ℕ
call_form C.Controller = any ∷ bits32 ∷ []
call_form C.CreateCq = anys 3
call_form C.CreateSq = anys 5
call_form C.DeleteCq = anys 1
call_form C.DeleteSq = anys 1
call_form C.Tail = anys 2
call_form C.Head = anys 2
call_form C.Start = []
call_form C.Finish = any ∷ any ∷ bits32 ∷ []

-- the place and the room of the part come first
abbrev pub on_part_form : OnPart → List ℕ
on_part_form P.Fill = any ∷ any ∷ bits8 ∷ []
on_part_form P.WriteSqe =
    any ∷ any ∷ bits8 ∷ any ∷ any ∷ bits16 ∷ bits32 ∷ any ∷ any ∷ any ∷ any ∷ bits16 ∷ bits16 ∷ bits32 ∷ bits32 ∷ bits32 ∷ []
on_part_form P.ReadSqe = anys 2
on_part_form P.WriteCqe = any ∷ any ∷ bits32 ∷ bits16 ∷ bits16 ∷ bits16 ∷ any ∷ any ∷ []
on_part_form P.ReadCqe = anys 2
on_part_form P.Waiting = anys 5

abbrev pub look_form : Look → List ℕ
look_form L.CheckTail = anys 4
look_form L.CheckHead = anys 4
look_form L.ShowSq = 15 ∷ []
look_form L.ShowCq = 15 ∷ []
look_form L.ShowTag = 63 ∷ []
look_form L.ShowArbiter = []

-- a place, and one value or more up to a largest
abbrev pub values : ℕ → Form
values most = record { largest = any ∷ most ∷ []; rest = Numbers most }

abbrev pub form : Command → Form
form (K.Call k) = fixed (call_form k)
form (K.OnPart k) = fixed (on_part_form k)
form (K.Look k) = fixed (look_form k)
form K.Lend = fixed (memory_bytes ∷ [])
form K.Poke = values bits8
form K.Poke64 = values any
form K.Peek = fixed (any ∷ peek_bytes ∷ [])
form K.Walk = fixed (any ∷ any ∷ any ∷ any ∷ walk_bytes ∷ walk_bytes ∷ [])
form K.Replay = record { largest = replay_bytes ∷ []; rest = Bytes }

-- ---- the words

unfoldable pub vocabulary : List (String × Command)
vocabulary =
    ("tail", K.Call C.Tail)
    ∷ ("head", K.Call C.Head)
    ∷ ("start", K.Call C.Start)
    ∷ ("finish", K.Call C.Finish)
    ∷ ("replay", K.Replay)
    ∷ ("poke", K.Poke)
    ∷ ("poke64", K.Poke64)
    ∷ ("fill", K.OnPart P.Fill)
    ∷ ("peek", K.Peek)
    ∷ ("write-sqe", K.OnPart P.WriteSqe)
    ∷ ("read-sqe", K.OnPart P.ReadSqe)
    ∷ ("write-cqe", K.OnPart P.WriteCqe)
    ∷ ("read-cqe", K.OnPart P.ReadCqe)
    ∷ ("waiting", K.OnPart P.Waiting)
    ∷ ("check-tail", K.Look L.CheckTail)
    ∷ ("check-head", K.Look L.CheckHead)
    ∷ ("walk", K.Walk)
    ∷ ("show-sq", K.Look L.ShowSq)
    ∷ ("show-cq", K.Look L.ShowCq)
    ∷ ("show-tag", K.Look L.ShowTag)
    ∷ ("show-arbiter", K.Look L.ShowArbiter)
    ∷ ("create-cq", K.Call C.CreateCq)
    ∷ ("create-sq", K.Call C.CreateSq)
    ∷ ("delete-cq", K.Call C.DeleteCq)
    ∷ ("delete-sq", K.Call C.DeleteSq)
    ∷ ("controller", K.Call C.Controller)
    ∷ ("lend", K.Lend)
    ∷ []

-- the command of the first row that has the word
unfoldable pub among : List ℕ → List (String × Command) → Option Command
among w [] = None
among w (r ∷ rs) = pick (same w (bytes r.0)) (Some r.1) (among w rs)

unfoldable pub named : List ℕ → Option Command
named w = among w vocabulary
