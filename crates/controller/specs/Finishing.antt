-- Finishing commands.
use Rattle.std.specs.Prelude.{ℕ, ◌+◌, ◌-◌, ◌*◌, Bool, not, List, [], ◌∷◌, ◌++◌, ltb, eqb, length, get_or, set}
use Rattle.rules.specs.Rules.{pick, Table, first_match, settle}
use Rattle.bits.specs.Tags.{given_back}
use Rattle.le.specs.Memory.{Memory, put}
use Rattle.entry.specs.Completion.{completion, completion_bytes}
use Rattle.entry.specs.declared.completion.Completion.{Completion}
use Rattle.ring.specs.Slots.{next, distance, phase_after}
use Rattle.controller.specs.declared.Ring.{Ring}
use Rattle.controller.specs.declared.CompletionQueue.{CompletionQueue}
use Rattle.controller.specs.declared.Command.{Command}
use Rattle.controller.specs.Controller.{Controller}
use Rattle.controller.specs.State.{no_command, sq_at, cq_at, command_at, outstanding, with_tail, with_cq, with_commands}
use Rattle.controller.specs.Status.{failed_fused}
use Rattle.controller.specs.Rings.{outside}
use Rattle.controller.specs.Answers.{FinishAnswer, Outcome, outcome, finished, refusing}

-- the completion queue that a tag's command is posted to
abbrev pub cq_of : Controller → ℕ → ℕ
cq_of c tag = (sq_at c (command_at c tag).sq).cq

-- "a full ring holds size - 1 entries"
unfoldable pub full : Ring → Bool
full r = eqb (distance r.size r.head r.tail) (r.size - 1)

-- "finish 5, 14, 15, 16, 17": the rows on the rings, the tag and the status; and those on the tag's command and the ring that it is
-- posted to
abbrev pub call_rules : Controller → ℕ → ℕ → ℕ → Table
call_rules c n tag status = (outside c n, 5) ∷ (not (outstanding c.free tag), 14) ∷ (ltb 32767 status, 15) ∷ []

abbrev pub posting_rules : Command → Ring → Table
posting_rules k r = (not (eqb k.first 0), 16) ∷ (full r, 17) ∷ []

abbrev pub finish_rules : Controller → ℕ → ℕ → ℕ → Table
finish_rules c n tag status = call_rules c n tag status ++ posting_rules (command_at c tag) (cq_at c (cq_of c tag)).ring

unfoldable pub finish_refusal : Controller → ℕ → ℕ → ℕ → ℕ
finish_refusal c n tag status = first_match (finish_rules c n tag status)

-- "The posted status is the verdict if not 0; .. else the status given."
unfoldable pub status_of : ℕ → ℕ → ℕ
status_of verdict given = pick (eqb verdict 0) given verdict

-- a second half whose first half has posted status: "09h for a second half whose first half posted a status other than 0"
unfoldable pub released : ℕ → Command → Command
released status k =
    record {
      sq = k.sq;
      cid = k.cid;
      verdict = pick (eqb status 0) k.verdict (status_of k.verdict failed_fused);
      first = 0;
      second = k.second;
      number = k.number;
    }

-- the commands once a first half has posted status; second is its second half's tag plus 1
unfoldable pub unlinked : List Command → ℕ → ℕ → List Command
unlinked ks second status =
    pick (eqb second 0) ks (set ks (second - 1) (released status (get_or ks (second - 1) no_command)))

-- "the tail moves by one", and the phase tag "turns over at each wrap"
unfoldable pub posted : CompletionQueue → CompletionQueue
posted q =
    let r = q.ring in
    record { ring = with_tail r (next r.size r.tail); phase = phase_after r.size r.tail q.phase }

-- the controller once a tag's command has posted status: "the tag is freed"
unfoldable pub finished_controller : Controller → ℕ → ℕ → Controller
finished_controller c tag status =
    with_commands (with_cq c (cq_of c tag) (posted (cq_at c (cq_of c tag))))
    (unlinked c.commands (command_at c tag).second status) (given_back c.free tag) c.arbiter

-- the completion that is posted: "SQHD is the SQ head at the moment of posting", and "The result given is posted in every case."
abbrev pub completion_of : Controller → ℕ → ℕ → ℕ → Completion
completion_of c tag status result =
    let k = command_at c tag in completion result (sq_at c k.sq).ring.head k.sq k.cid (status_of k.verdict status)

-- where the next entry of completion queue q goes
abbrev pub tail_of : Controller → ℕ → ℕ
tail_of c q = (cq_at c q).ring.base + 16 * (cq_at c q).ring.tail

-- the memory with a completion posted to queue q: "Exactly the 16 bytes at the CQ tail change"
abbrev pub posted_memory : Controller → Memory → ℕ → Completion → Memory
posted_memory c m q e = put m (tail_of c q) (completion_bytes e (cq_at c q).phase)

-- "The answer names the slot", and reports the command's start number.
abbrev pub finish_answer : Controller → ℕ → FinishAnswer
finish_answer c tag = record { slot = (cq_at c (cq_of c tag)).ring.tail; number = (command_at c tag).number }

unfoldable pub finish : Controller → Memory → ℕ → ℕ → ℕ → Outcome
finish c m tag status result =
    settle (finish_refusal c (length m) tag status) (refusing c m)
    (outcome
    (finished (finish_answer c tag))
    (finished_controller c tag (status_of (command_at c tag).verdict status))
    (posted_memory c m (cq_of c tag) (completion_of c tag status result)))
