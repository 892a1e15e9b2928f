-- Memory stays bytes, whatever calls are made. Assumes nothing.
use Prim.Native.Nat.{ℕ, zero, suc, ◌+◌, ◌/◌}
use mathlib.Core.List.{List, [], ◌∷◌, ◌++◌}
use native.Mathlib.Nat.{mod-lt, zero-lt-suc}
use lib.Dec.{lit<}
use lib.ListN.{length, take, drop, replicate}
use lib.Seq.{get_or-drop}
use Rattle.le.specs.Le.{le}
use Rattle.le.specs.Memory.{Memory, put, Bytes}
use Rattle.entry.specs.Completion.{completion_bytes}
use Rattle.entry.specs.declared.completion.Completion.{Completion}
use Rattle.controller.specs.Controller.{Controller}
use Rattle.controller.specs.Answers.{Outcome}
use Rattle.controller.specs.Starting.{one_taken, pair_taken}
use Rattle.controller.specs.Calls.{Call, perform, Reachable, after}
use Rattle.controller.specs.Steps.{leaves}
use Rattle.controller.proofs.Lists.{get_d_same}
use Rattle.controller.proofs.Made.{takes_one, takes_pair, finishes, Commands, refused_leaves, done_leaves, changes, of_commands}
use Rattle.controller.proofs.Made.{made}
use Rattle.controller.proofs.Validity.{valid}

pub bytes_append : (a b : List ℕ) → Bytes a → Bytes b → Bytes (a ++ b)
bytes_append [] b x y i = y i
bytes_append (v ∷ a) b x y zero = x 0
bytes_append (v ∷ a) b x y (suc i) = bytes_append a b (λ j. x (suc j)) y i

pub bytes_zeros : (n : ℕ) → Bytes (replicate n 0)
bytes_zeros n i = rw (get_d_same {A = ℕ} n i 0) (lit< tt)

bytes_take : (n : ℕ) (m : List ℕ) → Bytes m → Bytes (take n m)
bytes_take zero m x i = lit< tt
bytes_take (suc n) [] x i = lit< tt
bytes_take (suc n) (v ∷ m) x zero = x 0
bytes_take (suc n) (v ∷ m) x (suc i) = bytes_take n m (λ j. x (suc j)) i

pub bytes_put : (m : List ℕ) (place : ℕ) (b : List ℕ) → Bytes m → Bytes b → Bytes (put m place b)
unfolding put
bytes_put m place b x y =
    bytes_append (take place m) (b ++ drop (place + length b) m) (bytes_take place m x)
    (bytes_append b (drop (place + length b) m) y (λ i. rw (get_or-drop (place + length b) m i 0) (x (place + length b + i))))

bytes_le : (k n : ℕ) → Bytes (le k n)
unfolding le
bytes_le zero n i = lit< tt
bytes_le (suc k) n zero = mod-lt n (zero-lt-suc 255)
bytes_le (suc k) n (suc i) = bytes_le k (n / 256) i

grown : (a : List ℕ) (k n : ℕ) → Bytes a → Bytes (a ++ le k n)
grown a k n x = bytes_append a (le k n) x (bytes_le k n)

bytes_completion : (e : Completion) (g : ℕ) → Bytes (completion_bytes e g)
unfolding completion_bytes
bytes_completion e g =
    let a = le 4 e.result in
    let b = a ++ le 4 0 in
    let c = b ++ le 2 e.sqhd in
    let d = c ++ le 2 e.sqid in
    let f = d ++ le 2 e.cid in
    grown f 2 _ (grown d 2 _ (grown c 2 _ (grown b 2 _ (grown a 4 _ (bytes_le 4 _)))))

-- whatever a call does, the memory that it leaves holds bytes
pub call_bytes : {c : Controller} {m : Memory} {call : Call} {o : Outcome} → Bytes m → Commands c m call o → Bytes o.memory
unfolding one_taken pair_taken
call_bytes b (refused_leaves call n xs) = b
call_bytes b (done_leaves call xs ys) = b
call_bytes b (changes (takes_one id a t left s e w)) = b
call_bytes b (changes (takes_pair id a t u left s e w)) = b
call_bytes {c} {m} b (changes (finishes tag status result r)) = bytes_put m _ _ b (bytes_completion _ _)

-- and that of a run's calls
pub run_bytes : {c : Controller} (m : Memory) (xs : List Call) → Reachable c → Bytes m → Bytes (leaves c m xs)
run_bytes m [] r b = b
run_bytes {c} m (x ∷ xs) r b =
    run_bytes {c = (perform c m x).controller} (perform c m x).memory xs (after r m x) (call_bytes b (of_commands (made c m (valid r).free_64 x)))
