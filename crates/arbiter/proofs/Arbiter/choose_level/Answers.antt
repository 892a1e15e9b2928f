-- `arbiter::Arbiter::choose_level` meets its contract. Assumes nothing.
use Rattle.arbiter.proofs.Mechanisms.{level_gave, level_high, level_medium, level_low, level_none}
use Rattle.arbiter.proofs.Arbiter.choose_level.Goals as goal

pub returns-in-Some : goal.returns-in-Some
returns-in-Some c =
    level_high _ _ (level_gave _ _ _ c.burst.ensures.value c.in-Some.is c.turn.ensures.value)

pub returns-in-Some-turn : goal.returns-in-Some-turn
returns-in-Some-turn c =
    level_medium _ _ (level_gave _ _ _ c.burst.ensures.value c.in_default.is c.turn.ensures.value)
    (level_gave _ _ _ c.burst-2.ensures.value c.in-Some-turn.is c.turn-2.ensures.value)

pub returns-in-Some-turn-2 : goal.returns-in-Some-turn-2
returns-in-Some-turn-2 c =
    level_low _ _ (level_gave _ _ _ c.burst.ensures.value c.in_default.is c.turn.ensures.value)
    (level_gave _ _ _ c.burst-2.ensures.value c.in_default-turn.is c.turn-2.ensures.value)
    (level_gave _ _ _ c.burst-3.ensures.value c.in-Some-turn-2.is c.turn-3.ensures.value)

pub returns : goal.returns
returns c =
    level_none _ _ (level_gave _ _ _ c.burst.ensures.value c.in_default.is c.turn.ensures.value)
    (level_gave _ _ _ c.burst-2.ensures.value c.in_default-turn.is c.turn-2.ensures.value)
    (level_gave _ _ _ c.burst-3.ensures.value c.in_default-turn-2.is c.turn-3.ensures.value)
