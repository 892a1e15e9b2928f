-- The console's language: what a line comes to.
use Rattle.std.specs.Prelude.{ℕ, Bool, true, List, [], ◌∷◌, ltb, length, drop, Option, Some, None}
use Rattle.rules.specs.Rules.{pick}
use Rattle.le.specs.Memory.{Memory}
use Rattle.controller.specs.Controller.{Controller}
use Rattle.parse.specs.Line.{words_of, most_bytes}
use Rattle.parse.specs.Arguments.{arguments_in}
use Rattle.language.specs.declared.command.Command.{Command}
use Rattle.language.specs.declared.command.Command.TheVariants as K
use Rattle.language.specs.Vocabulary.{form, named}
use Rattle.language.specs.State.{Console, console, lent_memory, leaving}
use Rattle.language.specs.Replies.{Said, bad, told, is_good, refusal_of, texted, Reply, reply}
use Rattle.language.specs.Commands.{nth, calls_made, parts_used, poked, peeked, walked, replayed, looked}

-- a command on the controller and the memory that is lent
abbrev pub on_lent : Console → (Controller → Memory → Reply) → Said × Console
on_lent s f = let r = f s.controller (lent_memory s) in (r.says, leaving s r.controller r.memory)

-- what a command says, and the console that it leaves, given its numbers and bytes
unfoldable pub obeyed : Console → Command → List ℕ → List ℕ → Said × Console
obeyed s (K.Call k) ns bs = on_lent s (λ c m. calls_made c m k ns)
obeyed s (K.OnPart k) ns bs = on_lent s (λ c m. parts_used c m k ns)
obeyed s (K.Look k) ns bs = on_lent s (λ c m. reply (told (looked c k ns)) c m)
obeyed s K.Lend ns bs = (told (nth ns 0 ∷ []), console s.controller s.memory (nth ns 0))
obeyed s K.Poke ns bs = on_lent s (λ c m. poked c m 1 (nth ns 0) (drop 1 ns))
obeyed s K.Poke64 ns bs = on_lent s (λ c m. poked c m 8 (nth ns 0) (drop 1 ns))
obeyed s K.Peek ns bs = on_lent s (λ c m. reply (peeked m (nth ns 0) (nth ns 1)) c m)
obeyed s K.Walk ns bs = on_lent s (λ c m. reply (walked m ns) c m)
obeyed s K.Replay ns bs = on_lent s (λ c m. replayed c m (nth ns 0) bs)

-- "All that is looked at before the call is made": a word that is no command, and words behind it that are not of its form
unfoldable pub asked : Console → Option Command → List (List ℕ) → Said × Console
asked s (Some k) ws =
    let g = arguments_in (form k).largest (form k).rest ws in
    pick g.good (obeyed s k g.numbers g.bytes) (bad, s)
asked s None ws = (bad, s)

-- the bytes of the answer; whether the line was good, and the number by which a change that it asked for was refused, 0 for none; and
-- the console afterwards
pub record Answered : Type 0 where
  pub text : List ℕ
  pub good : Bool
  pub refusal : ℕ
  pub console : Console

-- what a line of a number with this first word comes to
abbrev pub saying : List ℕ → ℕ → Said × Console → Answered
saying word n a = record { text = texted word n a.0; good = is_good a.0; refusal = refusal_of a.0; console = a.1 }

-- "A line with no word on it gives no answer. Every other line gives exactly one answer line"
unfoldable pub by_words : Console → ℕ → List (List ℕ) → Answered
by_words s n [] = record { text = []; good = true; refusal = 0; console = s }
by_words s n (w ∷ ws) = saying w n (asked s (named w) ws)

-- "A line longer than 4,096 bytes (without its LF) is bad whatever is on it"
unfoldable pub answered : Console → ℕ → List ℕ → Answered
answered s n line = pick (ltb most_bytes (length line)) (saying [] n (bad, s)) (by_words s n (words_of line))
