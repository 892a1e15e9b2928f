-- Demand 3: what is said of a list of runs, each with the memory that it is given.
use Rattle.std.specs.Prelude.{ℕ, ◌-◌, ◌*◌, ◌<◌, ◌^◌, ◌≡◌, Bool, true, false, eqb, ltb}
use mathlib.Core.List.{List, [], ◌∷◌, ◌++◌, foldl}
use Rattle.rules.specs.Rules.{pick}
use Rattle.le.specs.Memory.{Memory, part, Bytes}
use Rattle.entry.specs.declared.completion.Completion.{Completion}
use Rattle.ring.specs.Reader.{phase_in, found}
use Rattle.controller.specs.Controller.{Controller}
use Rattle.controller.specs.State.{cq_at, fresh_controller}
use Rattle.controller.specs.Answers.{Answer, unless_refused}
use Rattle.controller.specs.Calls.{Call, create_cq, create_sq, delete_cq, delete_sq, tail_write, head_write, start, finish}
use Rattle.controller.specs.Calls.{result_of}
use Rattle.controller.specs.Steps.{Step, Run, after_run, memory_after, all_steps, after_runs}
use Rattle.controller.specs.Book.{Book, empty, enter}

-- the book after the steps
abbrev pub booked : Book → List Step → Book
booked = foldl (λ x s. enter x s.given.memory s.given.call s.outcome.answer)

-- The head writes accepted at completion queue q since its latest creation: those before a call, vs, and what a call that was not
-- refused makes of them.
abbrev pub heads_in : ℕ → List ℕ → Call → List ℕ
heads_in q vs (create_cq id size base) = pick (eqb q id) [] vs
heads_in q vs (create_sq id size base cq class) = vs
heads_in q vs (delete_cq id) = pick (eqb q id) [] vs
heads_in q vs (delete_sq id) = vs
heads_in q vs (tail_write id v) = vs
heads_in q vs (head_write id v) = pick (eqb q id) (vs ++ (v ∷ [])) vs
heads_in q vs start = vs
heads_in q vs (finish tag status result) = vs

abbrev pub heads_on : ℕ → List ℕ → Call → Answer → List ℕ
heads_on q vs call a = unless_refused a vs (heads_in q vs call)

abbrev pub heads : ℕ → List ℕ → List Step → List ℕ
heads q = foldl (λ vs s. heads_on q vs s.given.call s.outcome.answer)

-- where a reader stands, and the phase tag that it expects there
pub record Place : Type 0 where
  pub head : ℕ
  pub phase : ℕ

-- it stands where the last accepted head write left it, and its phase tag turned at each that went down
abbrev pub standing : List ℕ → Place
standing = foldl (λ p v. record { head = v; phase = pick (ltb v p.head) (1 - p.phase) p.phase }) (record { head = 0; phase = 1 })

-- what a reader finds who has only the ring's bytes, its size and the accepted head writes
unfoldable pub reader : List ℕ → ℕ → List ℕ → List Completion
reader ring size vs = found ring size (standing vs).head (standing vs).phase

-- completion queue q exists
abbrev pub There : ℕ → Controller → Type 0
There q c = (cq_at c q).ring.exists ≡ true

-- the bytes of completion queue q's ring
abbrev pub ring_of : Controller → ℕ → Memory → List ℕ
ring_of c q m = part m (cq_at c q).ring.base (16 * (cq_at c q).ring.size)

-- nobody wrote into the ring of q between the memories
abbrev pub Kept : Controller → ℕ → Memory → Memory → Type 0
Kept c q before now = There q c → ring_of c q now ≡ ring_of c q before

-- if q is new in controller c', every phase tag in its ring is 0
abbrev pub Cleared : ℕ → Memory → Controller → Controller → Type 0
Cleared q m c c' =
    (cq_at c q).ring.exists ≡ false → There q c'
    → (i : ℕ) → i < (cq_at c' q).ring.size → phase_in (ring_of c' q m) i ≡ 0

-- q is not deleted between the controllers: if it exists, it stays
abbrev pub Keeps : ℕ → Controller → Controller → Type 0
Keeps q c c' = There q c → There q c'

-- none of the steps deletes q
abbrev pub Stays : ℕ → List Step → Type 0
Stays q [] = Unit {0}
Stays q (s ∷ ss) = Keeps q s.before s.outcome.controller × Stays q ss

-- Demand 3's premise, its first part: every phase tag of q's ring is 0 at its creation. A queue that is deleted later asks for nothing.
abbrev pub ClearTags : ℕ → List Step → Type 0
ClearTags q [] = Unit {0}
ClearTags q (s ∷ ss) =
    (Stays q (s ∷ ss) → Cleared q s.given.memory s.before s.outcome.controller) × ClearTags q ss

-- Its second part: nobody but the controller writes into q's ring. `left` is the memory as the last run left it, `seen` as the reader
-- sees it.
abbrev pub Untouched : ℕ → Controller → Memory → List Run → Memory → Type 0
Untouched q c left [] seen = Kept c q left seen
Untouched q c left (r ∷ rs) seen =
    (Stays q (all_steps c (r ∷ rs)) → Kept c q left r.memory) × Untouched q (after_run c r) (memory_after c r) rs seen

-- what the types of the code say: a result has 32 bits, and a memory holds bytes
abbrev pub Narrow : List Call → Type 0
Narrow [] = Unit {0}
Narrow (x ∷ xs) = (result_of x < 2 ^ 32) × Narrow xs

abbrev pub Typed : List Run → Type 0
Typed [] = Unit {0}
Typed (r ∷ rs) = Bytes r.memory × Narrow r.calls × Typed rs

-- a list of runs from a fresh controller, with a completion queue that exists after them, as the demand has it
pub record History : Type 0 where
  pub weighted : Bool
  pub word : ℕ
  pub runs : List Run
  pub seen : Memory
  pub q : ℕ
  pub typed : Typed runs
  pub clear : ClearTags q (all_steps (fresh_controller weighted word) runs)
  pub untouched : Untouched q (fresh_controller weighted word) [] runs seen
  pub exists : There q (after_runs (fresh_controller weighted word) runs)

module _ (h : History) where
  abbrev fresh : Controller
  fresh = fresh_controller h.weighted h.word

  -- the controller after the runs
  abbrev pub last : Controller
  last = after_runs fresh h.runs

  -- what the reader has
  abbrev pub ring_bytes : List ℕ
  ring_bytes = ring_of last h.q h.seen

  abbrev pub size_of : ℕ
  size_of = (cq_at last h.q).ring.size

  abbrev pub head_writes : List ℕ
  head_writes = heads h.q [] (all_steps fresh h.runs)

  -- the book, and its account of the queue: what was posted and is not yet released, and where the reader stands
  abbrev pub book : Book
  book = booked empty (all_steps fresh h.runs)

  abbrev pub unreleased : List Completion
  unreleased = (book.cqs h.q).waiting

  abbrev pub book_head : ℕ
  book_head = (book.cqs h.q).head

  abbrev pub book_phase : ℕ
  book_phase = (book.cqs h.q).phase
