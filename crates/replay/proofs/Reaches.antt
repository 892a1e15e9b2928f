-- A replay keeps what an entry may assume: its controller came from a fresh one by calls. Assumes nothing.
use Prim.Native.Nat.{ℕ}
use mathlib.Core.List.{List}
use mathlib.Core.Path.{◌≡◌, ap, subst}
use Rattle.le.specs.Memory.{Memory}
use Rattle.controller.specs.Controller.{Controller}
use Rattle.controller.specs.Calls.{Reachable}
use Rattle.controller.specs.Steps.{given}
use Rattle.controller.proofs.Steps.{reached}
use Rattle.store.specs.Held.{held, Sound, Reached}
use Rattle.replay.specs.Replay.{Ended, ended, replay}
use Rattle.replay.specs.Runs.{replay_calls}
use Rattle.replay.proofs.AsRun.{replay_run_lem}

pub by_replay : {c : Controller} (m : Memory) (t room : List ℕ) → Reachable c → Reachable (replay c m t room).controller
by_replay {c} m t room r = subst Reachable (replay_run_lem c m t room).0 (reached (given c m (replay_calls t room)) r)

pub reached_replay : {w u : List ℕ} (m : Memory) (t room : List ℕ) {a : ℕ × ℕ} {left room' : List ℕ} → Reached w → Sound u
    → ended a (held u) left room' ≡ replay (held w) m t room → Reached u
reached_replay m t room r s e =
    record { sound = s; reachable = rw (ap (λ (x : Ended). x.controller) e) (by_replay m t room r.reachable) }
