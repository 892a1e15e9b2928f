-- The controller that words hold. Fields stand one after another, each for every queue or every tag: a queue's or a command's words
-- stand as far apart as there are queues or tags.
use Rattle.std.specs.Prelude.{ℕ, zero, suc, ◌+◌, ◌%◌, ◌<◌, ◌^◌, Bool, not, List, [], ◌∷◌, ◌≡◌, ltb, eqb, length, get_or}
use Rattle.rules.specs.Rules.{pick, Table, first_match}
use Rattle.arbiter.specs.declared.Remainder.{Remainder}
use Rattle.arbiter.specs.declared.Remainder.TheVariants.{Left, NoLimit}
use Rattle.arbiter.specs.declared.Group.{Group}
use Rattle.arbiter.specs.declared.Level.{Level}
use Rattle.arbiter.specs.declared.Arbiter.{Arbiter}
use Rattle.controller.specs.declared.Ring.{Ring}
use Rattle.controller.specs.declared.SubmissionQueue.{SubmissionQueue}
use Rattle.controller.specs.declared.CompletionQueue.{CompletionQueue}
use Rattle.controller.specs.declared.Command.{Command}
use Rattle.controller.specs.Controller.{Controller}
use Rattle.controller.specs.Calls.{Reachable}

abbrev pub word : List ℕ → ℕ → ℕ
word w k = get_or w k 0

-- the words from place p on, by their distance
abbrev pub from : List ℕ → ℕ → ℕ → ℕ
from w p o = word w (p + o)

-- ---- each part from its words

abbrev pub flag : ℕ → Bool
flag x = not (eqb x 0)

abbrev pub ring_from : (ℕ → ℕ) → Ring
ring_from f =
    record { base = f 0; size = f 16 % 65536; head = f 32 % 65536; tail = f 48 % 65536; exists = flag (f 64) }

abbrev pub sq_from : (ℕ → ℕ) → SubmissionQueue
sq_from f = record { ring = ring_from f; marked = flag (f 80); cq = f 96 % 256; class = f 112 % 256 }

abbrev pub cq_from : (ℕ → ℕ) → CompletionQueue
cq_from f = record { ring = ring_from f; phase = f 80 % 256 }

abbrev pub command_from : (ℕ → ℕ) → Command
command_from f =
    record {
      sq = f 0 % 256;
      cid = f 64 % 65536;
      verdict = f 128 % 65536;
      first = f 192 % 256;
      second = f 256 % 256;
      number = f 320;
    }

abbrev pub remainder_from : ℕ → Remainder
remainder_from x = pick (ltb x 4294967296) (Left x) NoLimit

abbrev pub group_from : (ℕ → ℕ) → ℕ → Group
group_from f k = record { holder = f k % 4294967296; remainder = remainder_from (f (k + 1)) }

abbrev pub level_from : (ℕ → ℕ) → ℕ → Level
level_from f k = record { group = group_from f k; credit = f (k + 2) % 4294967296 }

abbrev pub arbiter_from : (ℕ → ℕ) → Arbiter
arbiter_from f =
    record {
      weighted = flag (f 0);
      word = f 1 % 4294967296;
      group = group_from f 2;
      high = level_from f 4;
      medium = level_from f 7;
      low = level_from f 10;
    }

-- ---- where they stand

unfoldable pub sq_of : List ℕ → ℕ → SubmissionQueue
sq_of w i = sq_from (from w i)

unfoldable pub cq_of : List ℕ → ℕ → CompletionQueue
cq_of w i = cq_from (from w (i + 128))

unfoldable pub command_of : List ℕ → ℕ → Command
command_of w t = command_from (from w (t + 224))

unfoldable pub arbiter_of : List ℕ → Arbiter
arbiter_of w = arbiter_from (from w 609)

-- the values at the numbers below n
unfoldable pub table : {A : Type 0} → ℕ → (ℕ → A) → List A
table zero f = []
table (suc n) f = f 0 ∷ table n (λ i. f (suc i))

abbrev pub held : List ℕ → Controller
held w =
    record {
      sqs = table 16 (sq_of w);
      cqs = table 16 (cq_of w);
      commands = table 64 (command_of w);
      free = word w 608;
      arbiter = arbiter_of w;
      next_number = word w 622;
    }

-- ---- what is assumed of them

-- what the word at a place is below: as wide as its field, so that no two lists of words hold the same
abbrev pub limits : ℕ → Table
limits k =
    (ltb k 16, 2 ^ 64)
    ∷ (ltb k 64, 65536)
    ∷ (ltb k 96, 2)
    ∷ (ltb k 128, 256)
    ∷ (ltb k 144, 2 ^ 64)
    ∷ (ltb k 192, 65536)
    ∷ (ltb k 208, 2)
    ∷ (ltb k 288, 256)
    ∷ (ltb k 416, 65536)
    ∷ (ltb k 544, 256)
    ∷ (ltb k 609, 2 ^ 64)
    ∷ (eqb k 609, 2)
    ∷ (eqb k 612, 4294967297)
    ∷ (eqb k 614, 4294967297)
    ∷ (eqb k 617, 4294967297)
    ∷ (eqb k 620, 4294967297)
    ∷ (ltb k 622, 4294967296)
    ∷ (ltb k 623, 2 ^ 64)
    ∷ []

unfoldable pub limit_at : ℕ → ℕ
limit_at k = first_match (limits k)

pub record Sound (w : List ℕ) : Type 0 where
  pub sized : length w ≡ 623
  pub narrow : (k : ℕ) → k < 623 → word w k < limit_at k

-- the words hold the controller
pub record Holds (w : List ℕ) (c : Controller) : Type 0 where
  pub sound : Sound w
  pub is : held w ≡ c

-- the one thing an entry may assume: the words hold a controller that "came from a fresh one by calls"
pub record Reached (w : List ℕ) : Type 0 where
  pub sound : Sound w
  pub reachable : Reachable (held w)
