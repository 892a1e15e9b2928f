-- The answers of the controller's calls, and its parts, as plain numbers: "every other number in its answer is 0" beside a refusal.
use Rattle.std.specs.Prelude.{ℕ, ◌-◌, ◌^◌, Bool, not, [], ◌∷◌, ltb}
use Rattle.rules.specs.Rules.{pick, first_match, settle}
use Rattle.arbiter.specs.declared.Arbiter.{Arbiter}
use Rattle.arbiter.specs.Turns.{remainder_number}
use Rattle.controller.specs.Controller.{Controller}
use Rattle.controller.specs.State.{sq_at, cq_at, command_at, outstanding}
use Rattle.controller.specs.Answers.{Answer, refused, done, started, finished}
use Rattle.rig.specs.declared.state.StartNumbers.{StartNumbers}
use Rattle.rig.specs.declared.state.FinishNumbers.{FinishNumbers}
use Rattle.rig.specs.declared.state.ReplayNumbers.{ReplayNumbers}
use Rattle.rig.specs.declared.state.SqNumbers.{SqNumbers}
use Rattle.rig.specs.declared.state.CqNumbers.{CqNumbers}
use Rattle.rig.specs.declared.state.CommandNumbers.{CommandNumbers}
use Rattle.rig.specs.declared.state.ArbiterNumbers.{ArbiterNumbers}

abbrev pub no_start_numbers : ℕ → StartNumbers
no_start_numbers n = record { refusal = n; sq = 0; count = 0; first = 0; second = 0; slot = 0; verdict = 0; number = 0 }

abbrev pub start_numbers : Answer → StartNumbers
start_numbers (refused n) = no_start_numbers n
start_numbers done = no_start_numbers 0
start_numbers (started s) =
    record {
      refusal = 0;
      sq = s.sq;
      count = s.count;
      first = s.first;
      second = s.second;
      slot = s.slot;
      verdict = s.verdict;
      number = s.number;
    }
start_numbers (finished f) = no_start_numbers 0

abbrev pub no_finish_numbers : ℕ → FinishNumbers
no_finish_numbers n = record { refusal = n; slot = 0; number = 0 }

abbrev pub finish_numbers : Answer → FinishNumbers
finish_numbers (refused n) = no_finish_numbers n
finish_numbers done = no_finish_numbers 0
finish_numbers (started s) = no_finish_numbers 0
finish_numbers (finished f) = record { refusal = 0; slot = f.slot; number = f.number }

-- the refusal, and how many answer records were written
abbrev pub replay_numbers : ℕ × ℕ → ReplayNumbers
replay_numbers a = record { refusal = a.0; records = a.1 }

abbrev pub bit_of : Bool → ℕ
bit_of b = pick b 1 0

-- a submission queue: 1 for an id above 15, 9 where it does not exist
abbrev pub no_sq_numbers : ℕ → SqNumbers
no_sq_numbers n = record { refusal = n; base = 0; size = 0; head = 0; tail = 0; marked = 0; cq = 0; class = 0 }

unfoldable pub sq_numbers : Controller → ℕ → SqNumbers
sq_numbers c id =
    let q = sq_at c id in
    let r = q.ring in
    settle (first_match ((ltb 15 id, 1) ∷ (not r.exists, 9) ∷ [])) no_sq_numbers
    (record {
      refusal = 0;
      base = r.base;
      size = r.size;
      head = r.head;
      tail = r.tail;
      marked = bit_of q.marked;
      cq = q.cq;
      class = q.class;
    })

-- a completion queue, likewise
abbrev pub no_cq_numbers : ℕ → CqNumbers
no_cq_numbers n = record { refusal = n; base = 0; size = 0; head = 0; tail = 0; phase = 0 }

unfoldable pub cq_numbers : Controller → ℕ → CqNumbers
cq_numbers c id =
    let q = cq_at c id in
    let r = q.ring in
    settle (first_match ((ltb 15 id, 1) ∷ (not r.exists, 9) ∷ [])) no_cq_numbers
    (record { refusal = 0; base = r.base; size = r.size; head = r.head; tail = r.tail; phase = q.phase })

-- the command of a tag: 14 where it is not outstanding
abbrev pub no_command_numbers : ℕ → CommandNumbers
no_command_numbers n = record { refusal = n; sq = 0; cid = 0; verdict = 0; number = 0 }

unfoldable pub command_numbers : Controller → ℕ → CommandNumbers
command_numbers c tag =
    let k = command_at c tag in
    settle (first_match ((not (outstanding c.free tag), 14) ∷ [])) no_command_numbers
    (record { refusal = 0; sq = k.sq; cid = k.cid; verdict = k.verdict; number = k.number })

abbrev pub arbiter_numbers : Arbiter → ArbiterNumbers
arbiter_numbers a =
    record {
      mechanism = bit_of a.weighted;
      word = a.word;
      holder = a.group.holder;
      remainder = remainder_number a.group.remainder;
      high_holder = a.high.group.holder;
      high_remainder = remainder_number a.high.group.remainder;
      high_credit = a.high.credit;
      medium_holder = a.medium.group.holder;
      medium_remainder = remainder_number a.medium.group.remainder;
      medium_credit = a.medium.credit;
      low_holder = a.low.group.holder;
      low_remainder = remainder_number a.low.group.remainder;
      low_credit = a.low.credit;
    }
