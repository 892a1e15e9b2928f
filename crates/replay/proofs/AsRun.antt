-- A replay is the run of the calls that it makes; in demand 3 such a run asks for nothing but that its memory is one of bytes and that
-- nobody else has written into the ring before it. Assumes nothing.
use Rattle.std.specs.Prelude.{Result, Ok, Err}
use Prim.Native.Nat.{ℕ, ◌*◌, ◌<◌, ◌^◌}
use mathlib.Core.Bool.{Bool, true, false}
use mathlib.Core.List.{List, [], ◌∷◌, ◌++◌}
use mathlib.Core.Logic.{⊎_elim}
use mathlib.Core.Path.{◌≡◌, refl, sym, ◌∙◌}
use lib.Dec.{ltb, lit<}
use lib.ListN.{length}
use Rattle.rules.specs.Rules.{first_match, settle}
use Rattle.rules.proofs.Tests.{bool_cases, clash}
use Rattle.rules.proofs.Cases.{settle_cases}
use Rattle.le.specs.Memory.{Memory, part, Bytes}
use Rattle.ring.specs.Reader.{phase_in}
use Rattle.controller.specs.Controller.{Controller}
use Rattle.controller.specs.State.{no_cq, cq_at, fresh_controller}
use Rattle.controller.specs.Create.{create_cq_refusal}
use Rattle.controller.specs.Answers.{Outcome}
use Rattle.controller.specs.Starting.{one_taken, pair_taken}
use Rattle.controller.specs.Finishing.{cq_of, finished_controller, posted}
use Rattle.controller.specs.Calls.{Call, create_cq, create_sq, delete_cq, delete_sq, tail_write, head_write, start, finish, result_of}
use Rattle.controller.specs.Calls.{perform, Reachable, after}
use Rattle.controller.specs.Steps.{Step, steps, given, final, leaves, Run, run_steps, after_run, memory_after, after_runs}
use Rattle.controller.specs.Demand.{ClearTags, Narrow, Typed, History}
use Rattle.controller.proofs.Lists.{set_same}
use Rattle.controller.proofs.Made.{takes_one, takes_pair, finishes, Made, refuses, marks, creates_cq, creates_sq, moves_tail, moves_head}
use Rattle.controller.proofs.Made.{deletes_cq, deletes_sq, commands, made}
use Rattle.controller.proofs.Validity.{valid}
use Rattle.controller.proofs.Undisturbed.{spares}
use Rattle.controller.proofs.Undisturbed as tested
use Rattle.trace.specs.declared.Record.{Record}
use Rattle.trace.specs.declared.Record.TheVariants as R
use Rattle.trace.specs.Record.{Asked, call, none, asked, record_in, asked_calls}
use Rattle.trace.specs.Trace.{begun, records, calls_in}
use Rattle.replay.specs.Replay.{room_rules, done_by, played, replay}
use Rattle.replay.specs.Runs.{replay_calls, replay_run}

-- ---- what the run leaves

-- calls xs, each given what the last one left, leave that controller and that memory
abbrev pub Leave : Controller → Memory → List Call → Controller → Memory → Type 0
Leave c m xs c' m' = (final c (given c m xs) ≡ c') × (leaves c m xs ≡ m')

one_more : (c : Controller) (m : Memory) (a : Asked) (xs : List Call) {c' : Controller} {m' : Memory}
    → Leave (done_by c m a).controller (done_by c m a).memory xs c' m' → Leave c m (asked_calls a ++ xs) c' m'
one_more c m (call x) xs h = h
one_more c m (none n) xs h = h

-- the calls of records leave what the records leave
pub played_calls : (c : Controller) (m : Memory) (rs : List (List ℕ))
    → Leave c m (calls_in rs) (played c m rs).controller (played c m rs).memory
played_calls c m [] = (refl, refl)
played_calls c m (r ∷ rs) =
    let a = asked (record_in r) in
    one_more c m a (calls_in rs) (played_calls (done_by c m a).controller (done_by c m a).memory rs)

-- the run of a replay leaves what the replay leaves
pub replay_run_lem : (c : Controller) (m : Memory) (t room : List ℕ)
    → let r = replay_run m t room in
    (after_run c r ≡ (replay c m t room).controller) × (memory_after c r ≡ (replay c m t room).memory)
unfolding replay replay_calls settle
replay_run_lem c m t room =
    let b = ltb (length room) (16 * begun (length t)) in
    ⊎_elim (λ (e : b ≡ true). rw e (refl, refl)) (λ (e : b ≡ false). rw e (played_calls c m (records t))) (bool_cases b)

-- ---- the calls of a trace: no creation, no deletion, and result 0

abbrev Traced : Call → Type 0
Traced (create_cq id size base) = ⊥
Traced (create_sq id size base cq class) = ⊥
Traced (delete_cq id) = ⊥
Traced (delete_sq id) = ⊥
Traced (tail_write id v) = Unit {0}
Traced (head_write id v) = Unit {0}
Traced start = Unit {0}
Traced (finish tag status result) = result ≡ 0

abbrev AllTraced : List Call → Type 0
AllTraced [] = Unit {0}
AllTraced (x ∷ xs) = Traced x × AllTraced xs

record_traced : (x : Result Record ℕ) (xs : List Call) → AllTraced xs → AllTraced (asked_calls (asked x) ++ xs)
record_traced (Ok (R.TailWrite queue v)) xs h = (tt, h)
record_traced (Ok (R.HeadWrite queue v)) xs h = (tt, h)
record_traced (Ok R.Start) xs h = (tt, h)
record_traced (Ok (R.Finish tag status)) xs h = (refl, h)
record_traced (Ok R.End) xs h = h
record_traced (Err n) xs h = h

records_traced : (rs : List (List ℕ)) → AllTraced (calls_in rs)
records_traced [] = tt
records_traced (r ∷ rs) = record_traced (record_in r) (calls_in rs) (records_traced rs)

replay_traced : (t room : List ℕ) → AllTraced (replay_calls t room)
unfolding replay_calls
replay_traced t room =
    settle_cases AllTraced (first_match (room_rules (length room) (length t))) _ _ (λ z. records_traced (records t)) (λ n. tt)

narrow : (x : Call) → Traced x → result_of x < 2 ^ 32
narrow (create_cq id size base) h = absurd h
narrow (create_sq id size base cq class) h = absurd h
narrow (delete_cq id) h = absurd h
narrow (delete_sq id) h = absurd h
narrow (tail_write id v) h = lit< tt
narrow (head_write id v) h = lit< tt
narrow start h = lit< tt
narrow (finish tag status result) h = rw h (lit< tt)

all_narrow : (xs : List Call) → AllTraced xs → Narrow xs
all_narrow [] h = tt
all_narrow (x ∷ xs) h = (narrow x h.0, all_narrow xs h.1)

-- every result that a replay gives has 32 bits
pub replay_narrow : (t room : List ℕ) → Narrow (replay_calls t room)
replay_narrow t room = all_narrow (replay_calls t room) (replay_traced t room)

-- such a call makes no completion queue and ends none
no_new : {c : Controller} {m : Memory} {x : Call} {o : Outcome} → Made c m x o → Traced x → (q : ℕ)
    → (cq_at o.controller q).ring.exists ≡ (cq_at c q).ring.exists
unfolding one_taken pair_taken finished_controller posted
no_new (refuses x n) h q = refl
no_new (marks id v g e) h q = refl
no_new (creates_cq id size base g) h q = absurd h
no_new (creates_sq id size base cq class g) h q = absurd h
no_new (deletes_cq id g) h q = absurd h
no_new (deletes_sq id g) h q = absurd h
no_new (moves_tail id v g e) h q = refl
no_new {c} (moves_head id v g) h q = set_same c.cqs id _ no_cq (λ y. y.ring.exists) refl q
no_new (commands (takes_one id a n left g e w)) h q = refl
no_new (commands (takes_pair id a n u left g e w)) h q = refl
no_new {c} (commands (finishes tag status result g)) h q = set_same c.cqs (cq_of c tag) _ no_cq (λ y. y.ring.exists) refl q

no_tags : (q : ℕ) (xs : List Call) {c : Controller} (m : Memory) → Reachable c → AllTraced xs → (later : List Step) → ClearTags q later
    → ClearTags q (steps c (given c m xs) ++ later)
no_tags q [] m r h later k = k
no_tags q (x ∷ xs) {c} m r h later k =
    let e = no_new (made c m (valid r).free_64 x) h.0 q in
    (λ s n y. absurd (clash (sym e ∙ y) n), no_tags q xs (perform c m x).memory (after r m x) h.1 later k)

-- a replay asks for no clear tags
pub replay_clear : (q : ℕ) {c : Controller} (m : Memory) (t room : List ℕ) → Reachable c → (later : List Step) → ClearTags q later
    → ClearTags q (run_steps c (replay_run m t room) ++ later)
replay_clear q m t room r = no_tags q (replay_calls t room) m r (replay_traced t room)

-- ---- a completion queue that is created on a clear ring after any runs, and then any trace is replayed: the premises hold

all_tested : (q : ℕ) (xs : List Call) → AllTraced xs → (tested.narrow xs ≡ true) × (spares q xs ≡ true)
all_tested q [] h = (refl, refl)
all_tested q (create_cq id size base ∷ xs) h = absurd h.0
all_tested q (create_sq id size base cq class ∷ xs) h = absurd h.0
all_tested q (delete_cq id ∷ xs) h = absurd h.0
all_tested q (delete_sq id ∷ xs) h = absurd h.0
all_tested q (tail_write id v ∷ xs) h = all_tested q xs h.1
all_tested q (head_write id v ∷ xs) h = all_tested q xs h.1
all_tested q (start ∷ xs) h = all_tested q xs h.1
all_tested q (finish tag status result ∷ xs) h = rw h.0 (all_tested q xs h.1)

module _ (weighted : Bool) (word : ℕ) (earlier : List Run) (typed : Typed earlier) (q size base : ℕ) (m : Memory) (bytes : Bytes m)
    (creates : create_cq_refusal (after_runs (fresh_controller weighted word) earlier) (length m) q size base ≡ 0)
    (clear : (i : ℕ) → i < size → phase_in (part m base (16 * size)) i ≡ 0) (t room : List ℕ) where
  pub undisturbed_replay : History
  undisturbed_replay =
      let h = all_tested q (replay_calls t room) (replay_traced t room) in
      tested.undisturbed weighted word earlier typed q size base m bytes creates clear (replay_calls t room) h.0 h.1
