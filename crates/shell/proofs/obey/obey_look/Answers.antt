-- `obey_look` meets its contract. Assumes nothing.
use mathlib.Core.Path.{ap}
use lib.ListN.{length, take}
use Rattle.language.specs.Vocabulary.{look_form}
use Rattle.language.specs.Commands.{looked}
use Rattle.stateless.specs.Leaving.{firsts}
use Rattle.store.specs.Held.{held}
use Rattle.language.specs.Replies.{Said, told, reply}
use Rattle.shell.proofs.Spoken.{lent_spoke, memory_stays}
use Rattle.shell.proofs.obey.obey_look.Goals as goal

pub say_reply-requires : goal.say_reply-requires
say_reply-requires c = (
  c.look-reply.ensures.few,
  c.requires.0.short,
  c.requires.0.room,
)

pub returns : goal.returns
returns c =
    let a = c.args in
    lent_spoke (held a.state.now) a.memory.now a.lent
    (λ d m. reply (told (looked d a.k (firsts (length (look_form a.k)) 0 a.a.now))) d m)
    (ap (λ (x : Said). reply x (held a.state.now) (take a.lent a.memory.now)) c.look-reply.ensures.is) c.say_reply.ensures.printed
    c.requires.0.reached c.requires.0.inside (memory_stays a.lent a.memory.now)
