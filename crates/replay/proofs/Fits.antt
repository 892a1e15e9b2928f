-- Every number of an answer record fits its bytes, so that the record is read back as what its call answered. Assumes nothing.
use Rattle.std.specs.Prelude.{Ok, Err}
use Prim.Native.Nat.{ℕ, ◌<◌}
use mathlib.Core.Bool.{Bool, true, false, ◌&&◌}
use mathlib.Core.List.{List, [], ◌∷◌}
use mathlib.Core.Logic.{inl, inr, ⊎_elim}
use mathlib.Core.Path.{◌≡◌, ap, subst⁻¹}
use native.Mathlib.Omega.{arith}
use lib.Dec.{T, ltb, eqb, ltb→lt, lit<}
use lib.ListN.{length, drop, replicate}
use Rattle.rules.specs.Rules.{pick, first_match, outside_of}
use Rattle.rules.proofs.Tests.{same_or_not}
use Rattle.rules.proofs.Tables.{both, settle_accepted, settle_refused}
use Rattle.le.specs.Le.{le_at}
use Rattle.le.specs.Memory.{Memory, Bytes}
use Rattle.le.proofs.Numbers.{le_at_lt}
use Rattle.controller.specs.Controller.{Controller}
use Rattle.controller.specs.Answers.{Answer, number_of, Outcome}
use Rattle.controller.specs.Finishing.{cq_of}
use Rattle.controller.specs.Starting.{one_taken, pair_taken}
use Rattle.controller.specs.Calls.{Call, create_cq, create_sq, delete_cq, delete_sq}
use Rattle.controller.specs.Calls.{tail_write, head_write, start, finish, perform, Reachable}
use Rattle.controller.specs.Refusing.{refusals, Among, Values}
use Rattle.controller.specs.Valid.{Valid}
use Rattle.controller.proofs.Made.{takes_one, takes_pair, finishes, Made, refuses, marks, creates_cq, creates_sq, moves_tail, moves_head}
use Rattle.controller.proofs.Made.{deletes_cq, deletes_sq, commands, made}
use Rattle.controller.proofs.Demand.{demand1}
use Rattle.controller.proofs.Validity.{valid}
use Rattle.controller.proofs.Written.{posts_to}
use Rattle.trace.specs.declared.Record.TheVariants as R
use Rattle.trace.specs.Record.{sent, target, value, any_set, spares, record_rules, call_in, record_in, Asked, call, none, asked}
use Rattle.replay.specs.Replay.{value_of, result_value, done_by, answer_bytes}
use Rattle.replay.proofs.Exactly.{answer_read}

-- ---- refusal numbers

abbrev below : ℕ → List ℕ → Bool
below k [] = true
below k (n ∷ ns) = ltb n k && below k ns

among_below : (k : ℕ) (ns : List ℕ) {n : ℕ} → T (below k ns) → Among n ns → n < k
among_below k [] b a = absurd a
among_below k (x ∷ ns) b (inl e) = rw e (ltb→lt x k (both (ltb x k) (below k ns) b).0)
among_below k (x ∷ ns) b (inr a) = among_below k ns (both (ltb x k) (below k ns) b).1 a

low_refusals : (x : Call) → T (below 256 (refusals x))
low_refusals (create_cq id size base) = tt
low_refusals (create_sq id size base cq class) = tt
low_refusals (delete_cq id) = tt
low_refusals (delete_sq id) = tt
low_refusals (tail_write id v) = tt
low_refusals (head_write id v) = tt
low_refusals start = tt
low_refusals (finish tag status result) = tt

no_number : (x : Call) (a : Answer) → Values x a → number_of a ≡ 0
no_number (create_cq id size base) a v = ap number_of v
no_number (create_sq id size base cq class) a v = ap number_of v
no_number (delete_cq id) a v = ap number_of v
no_number (delete_sq id) a v = ap number_of v
no_number (tail_write id y) a v = ap number_of v
no_number (head_write id y) a v = ap number_of v
no_number start a v = ap number_of v.1
no_number (finish tag status result) a v = ap number_of v.1

low_number : (c : Controller) (m : Memory) (x : Call) → number_of (perform c m x).answer < 256
low_number c m x =
    ⊎_elim
    (λ h. rw (ap (λ (o : Outcome). number_of o.answer) h.2) (among_below 256 (refusals x) (low_refusals x) h.1))
    (λ v. rw (no_number x (perform c m x).answer v) (lit< tt))
    (demand1 c m x)

-- ---- results

low_result : {c : Controller} {m : Memory} {x : Call} {o : Outcome} → Valid c → Made c m x o → value_of x < 65536
    → result_value x o.answer < 65536
unfolding one_taken pair_taken
low_result v (refuses x n) h = lit< tt
low_result v (marks id y g e) h = lit< tt
low_result v (creates_cq id size base g) h = h
low_result v (creates_sq id size base cq class g) h = h
low_result v (deletes_cq id g) h = h
low_result v (deletes_sq id g) h = h
low_result v (moves_tail id y g e) h = h
low_result v (moves_head id y g) h = h
low_result v (commands (takes_one id a n left g e w)) h = omega (arith, w.low)
low_result v (commands (takes_pair id a n u left g e w)) h = omega (arith, w.first.low)
low_result {c} v (commands (finishes tag status result g)) h =
    let k = v.cq_ok (cq_of c tag) (posts_to v tag g.out) in
    omega (arith, k.high, k.tail_below)

-- ---- records

abbrev Low : Asked → Type 0
Low (call x) = value_of x < 65536
Low (none n) = n < 256

low_call : (a b c : Bool) (q v : ℕ) → v < 65536
    → Low (asked (Ok (pick a (R.TailWrite q v) (pick b (R.HeadWrite q v) (pick c R.Start (R.Finish q v))))))
low_call true b c q v h = h
low_call false true c q v h = h
low_call false false true q v h = lit< tt
low_call false false false q v h = lit< tt

low_rules : (a b c : Bool) → first_match ((a, 31) ∷ (b, 30) ∷ (c, 30) ∷ []) < 256
low_rules true b c = lit< tt
low_rules false true c = lit< tt
low_rules false false true = lit< tt
low_rules false false false = lit< tt

low_record : (r : List ℕ) → Bytes r → Low (asked (record_in r))
unfolding record_in
low_record r b =
    let n = first_match (record_rules r) in
    ⊎_elim
    (λ (z : n ≡ 0). subst⁻¹ (λ x. Low (asked x)) (settle_accepted n Err (Ok (call_in r)) z)
    (low_call (eqb (sent r) 1) (eqb (sent r) 2) (eqb (sent r) 3) (target r) (value r) (le_at_lt 2 r 2 b)))
    (λ (d : n ≡ 0 → ⊥). subst⁻¹ (λ x. Low (asked x)) (settle_refused n Err (Ok (call_in r)) d)
    (low_rules (ltb (length r) 16) (outside_of 1 4 (sent r)) (any_set (spares r))))
    (same_or_not n 0)

done_low : {c : Controller} (m : Memory) (a : Asked) → Reachable c → Low a
    → ((done_by c m a).refusal < 256) × ((done_by c m a).result < 65536)
done_low {c} m (call x) r l = (low_number c m x, low_result (valid r) (made c m (valid r).free_64 x) l)
done_low m (none n) r l = (l, lit< tt)

-- the answer record of a record: "byte 0 as sent, refusal number, two result bytes .., twelve zeros"
pub record_read : {c : Controller} (m : Memory) (r : List ℕ) → Reachable c → Bytes r
    → let d = done_by c m (asked (record_in r)) in
    let a = answer_bytes (sent r) d.refusal d.result in
    (le_at 1 a 0 ≡ sent r) × (le_at 1 a 1 ≡ d.refusal) × (le_at 2 a 2 ≡ d.result) × (drop 4 a ≡ replicate 12 0)
record_read m r k b =
    let f = done_low m (asked (record_in r)) k (low_record r b) in
    answer_read (sent r) _ _ (le_at_lt 1 r 0 b) f.0 f.1
