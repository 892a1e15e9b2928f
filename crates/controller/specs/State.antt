-- The state: what stands for nothing, a controller with one part changed, and a fresh one.
use Rattle.std.specs.Prelude.{ℕ, ◌-◌, ◌^◌, Bool, false, not, ◌&&◌, List, [], ◌∷◌, ltb, eqb, get_or, set, replicate}
use Rattle.rules.specs.Rules.{Table, first_match, settle}
use Rattle.bits.specs.Tags.{is_free}
use Rattle.arbiter.specs.Arbiter.{fresh}
use Rattle.arbiter.specs.declared.Arbiter.{Arbiter}
use Rattle.controller.specs.declared.Ring.{Ring}
use Rattle.controller.specs.declared.SubmissionQueue.{SubmissionQueue}
use Rattle.controller.specs.declared.CompletionQueue.{CompletionQueue}
use Rattle.controller.specs.declared.Command.{Command}
use Rattle.controller.specs.Controller.{Controller}

abbrev pub no_ring : Ring
no_ring = record { exists = false; base = 0; size = 0; head = 0; tail = 0 }

abbrev pub no_sq : SubmissionQueue
no_sq = record { ring = no_ring; marked = false; cq = 0; class = 0 }

abbrev pub no_cq : CompletionQueue
no_cq = record { ring = no_ring; phase = 0 }

abbrev pub no_command : Command
no_command = record { sq = 0; cid = 0; verdict = 0; first = 0; second = 0; number = 0 }

-- the queue of an id and the command of a tag; where the number is too large, what stands for nothing
abbrev pub sq_at : Controller → ℕ → SubmissionQueue
sq_at c i = get_or c.sqs i no_sq

abbrev pub cq_at : Controller → ℕ → CompletionQueue
cq_at c i = get_or c.cqs i no_cq

abbrev pub command_at : Controller → ℕ → Command
command_at c t = get_or c.commands t no_command

-- a tag below 64 that is not free
unfoldable pub outstanding : ℕ → ℕ → Bool
outstanding free t = ltb t 64 && not (is_free free t)

-- one part changed
abbrev pub with_head : Ring → ℕ → Ring
with_head r v = record { exists = r.exists; base = r.base; size = r.size; head = v; tail = r.tail }

abbrev pub with_tail : Ring → ℕ → Ring
with_tail r v = record { exists = r.exists; base = r.base; size = r.size; head = r.head; tail = v }

abbrev pub sq_with_ring : SubmissionQueue → Ring → SubmissionQueue
sq_with_ring q r = record { ring = r; marked = q.marked; cq = q.cq; class = q.class }

abbrev pub cq_with_ring : CompletionQueue → Ring → CompletionQueue
cq_with_ring q r = record { ring = r; phase = q.phase }

abbrev pub with_queues : Controller → List SubmissionQueue → List CompletionQueue → Controller
with_queues c xs ys =
    record { sqs = xs; cqs = ys; commands = c.commands; free = c.free; arbiter = c.arbiter; next_number = c.next_number }

abbrev pub with_sq : Controller → ℕ → SubmissionQueue → Controller
with_sq c i q = with_queues c (set c.sqs i q) c.cqs

abbrev pub with_cq : Controller → ℕ → CompletionQueue → Controller
with_cq c i q = with_queues c c.sqs (set c.cqs i q)

abbrev pub with_commands : Controller → List Command → ℕ → Arbiter → Controller
with_commands c ks free a =
    record { sqs = c.sqs; cqs = c.cqs; commands = ks; free = free; arbiter = a; next_number = c.next_number }

abbrev pub with_next_number : Controller → ℕ → Controller
with_next_number c n =
    record { sqs = c.sqs; cqs = c.cqs; commands = c.commands; free = c.free; arbiter = c.arbiter; next_number = n }

-- "A fresh controller has a mechanism .., the 32-bit Arbitration feature word, and no queues", and every tag is free; start numbers
-- begin at "0 for the first command a controller takes"
abbrev pub fresh_controller : Bool → ℕ → Controller
fresh_controller weighted word =
    record {
      sqs = replicate 16 no_sq;
      cqs = replicate 16 no_cq;
      commands = replicate 64 no_command;
      free = 2 ^ 64 - 1;
      arbiter = fresh weighted word;
      next_number = 0;
    }

-- "mechanism other than 0 or 1" (23)
abbrev pub new_rules : ℕ → Table
new_rules mechanism = (ltb 1 mechanism, 23) ∷ []

unfoldable pub new_refusal : ℕ → ℕ
new_refusal mechanism = first_match (new_rules mechanism)

-- "A controller refused with 23 is one of mechanism 0, word 0, no queues."
unfoldable pub new_controller : ℕ → ℕ → Controller
new_controller mechanism word =
    settle (new_refusal mechanism) (λ n. fresh_controller false 0) (fresh_controller (eqb mechanism 1) word)
