-- A replay stands for calls, so it leaves words that calls lead to. Assumes nothing.
use Rattle.replay.proofs.Reaches.{reached_replay}
use Rattle.playback.proofs.play.played.Goals as goal

pub returns : goal.returns
returns g c =
    let e = c.replay.ensures in
    reached_replay _ _ _ c.requires.reached.0 e.0 e.1
