-- The calls that a replay makes.
use Rattle.std.specs.Prelude.{ℕ, List, [], length}
use Rattle.rules.specs.Rules.{first_match, settle}
use Rattle.le.specs.Memory.{Memory}
use Rattle.controller.specs.Calls.{Call}
use Rattle.controller.specs.Steps.{Run}
use Rattle.trace.specs.Trace.{records, calls_in}
use Rattle.replay.specs.Replay.{room_rules}

-- none if its room is refused
unfoldable pub replay_calls : List ℕ → List ℕ → List Call
replay_calls t room = settle (first_match (room_rules (length room) (length t))) (λ n. []) (calls_in (records t))

-- "In demand 3 a replay stands for the calls it makes, in order": they are a run, since nobody else writes meanwhile
abbrev pub replay_run : Memory → List ℕ → List ℕ → Run
replay_run m t room = record { memory = m; calls = replay_calls t room }
