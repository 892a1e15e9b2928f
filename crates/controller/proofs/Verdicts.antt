-- Which verdict a start gives, exactly when: for one command and for a pair, in equations of their fields. Assumes nothing.
use Prim.Native.Nat.{ℕ, ◌+◌, ◌%◌, ◌≤◌, ◌<◌}
use mathlib.Core.Bool.{◌&&◌}
use mathlib.Core.List.{[], ◌∷◌}
use mathlib.Core.Logic.{◌⊎◌, inl, inr, ⊎_elim, ◌↔◌}
use mathlib.Core.Path.{◌≡◌, refl}
use native.Mathlib.Nat.{mod-lt}
use native.Mathlib.Omega.{arith}
use lib.Dec.{lit<, eqb}
use Rattle.rules.proofs.Exactly.{Says, says_le, says_eq, says_not, says_as, says_and, says_or, says_sure, Reasons, Decided, decided}
use Rattle.bits.proofs.Some.{says_some}
use Rattle.le.specs.Memory.{Memory}
use Rattle.entry.specs.Submission.{submission_at}
use Rattle.entry.specs.declared.submission.Submission.{Submission}
use Rattle.ring.specs.Slots.{next, distance}
use Rattle.controller.specs.declared.Ring.{Ring}
use Rattle.controller.specs.Controller.{Controller}
use Rattle.controller.specs.State.{sq_at, command_at}
use Rattle.controller.specs.Status.{invalid_field, command_id_conflict, failed_fused, missing_fused}
use Rattle.controller.specs.Verdict.{uses, in_use, one_rules, verdict_one, pair_rules, verdict_pair}
use Rattle.controller.specs.Starting.{entry_at, is_pair, used, head_entry, next_entry, one_taken, pair_taken}
use Rattle.controller.specs.Answers.{StartAnswer, started}
use Rattle.controller.specs.Calls.{start, Reachable, perform}
use Rattle.controller.proofs.Made.{of_start}
use Rattle.controller.proofs.Validity.{valid}
use Rattle.controller.proofs.Outstanding.{Outstanding, says_out}

-- ---- CIDs in use

-- "CID in use by an outstanding command of the same SQ"
pub record InUse (c : Controller) (sq cid : ℕ) : Type 0 where
  pub tag : ℕ
  pub out : Outstanding c tag
  pub same_sq : (command_at c tag).sq ≡ sq
  pub same_cid : (command_at c tag).cid ≡ cid

pub in_use_lem : (c : Controller) (sq cid : ℕ) → Says (in_use c.commands c.free sq cid) (InUse c sq cid)
unfolding in_use
in_use_lem c sq cid =
    says_as
    (says_some 64 (uses c.commands c.free sq cid)
    (λ t. says_and (says_out c t) (says_and (says_eq (command_at c t).sq sq) (says_eq (command_at c t).cid cid))))
    (λ w. record { tag = w.0; out = w.2.0; same_sq = w.2.1.0; same_cid = w.2.1.1 })
    (λ w. (w.tag, w.out.0, (w.out, (w.same_sq, w.same_cid))))

-- ---- what a pair is

-- "FUSE 1 .. a submitted follower of FUSE 2", on an SQ other than 0; "The pair wraps from last slot to first"
pub record Pair (id : ℕ) (r : Ring) (m : Memory) : Type 0 where
  pub not_admin : id ≡ 0 → ⊥
  pub first : (entry_at m r r.head).fuse ≡ 1
  pub submitted : 2 ≤ distance r.size r.head r.tail
  pub second : (entry_at m r ((r.head + 1) % r.size)).fuse ≡ 2

pub is_pair_lem : (id : ℕ) (r : Ring) (m : Memory) → Says (is_pair id r m) (Pair id r m)
unfolding is_pair next
is_pair_lem id r m =
    says_as
    (says_and (says_not (says_eq id 0)) (says_and (says_eq (entry_at m r r.head).fuse 1)
    (says_and (says_le 2 (distance r.size r.head r.tail)) (says_eq (entry_at m r ((r.head + 1) % r.size)).fuse 2))))
    (λ h. record { not_admin = h.0; first = h.1.0; submitted = h.1.1.0; second = h.1.1.1 })
    (λ p. (p.not_admin, (p.first, (p.submitted, p.second))))

-- ---- verdicts

-- the standard's codes, once in numbers
pub codes : (invalid_field ≡ 0x02) × (command_id_conflict ≡ 0x03) × (failed_fused ≡ 0x09) × (missing_fused ≡ 0x0a)
codes = (refl, refl, refl, refl)

-- v is 0, Invalid Field, Command ID Conflict or Missing Fused Command exactly if Fine, Invalid, Conflict or Missing holds
abbrev pub Judged : ℕ → Type 0 → Type 0 → Type 0 → Type 0 → Type 0
Judged v Fine Invalid Conflict Missing =
    ((v ≡ 0) ↔ Fine) × ((v ≡ invalid_field) ↔ Invalid) × ((v ≡ command_id_conflict) ↔ Conflict) × ((v ≡ missing_fused) ↔ Missing)

-- one of the four holds, with its verdict, and no two do
module _ {v : ℕ} {A B C D : Type 0} where
  judged : (A → B → ⊥) → (A → C → ⊥) → (A → D → ⊥) → (B → C → ⊥) → (B → D → ⊥) → (C → D → ⊥)
      → ((A × (v ≡ 0)) ⊎ ((B × (v ≡ invalid_field)) ⊎ ((C × (v ≡ command_id_conflict)) ⊎ (D × (v ≡ missing_fused))))) → Judged v A B C D
  judged ab ac ad bc bd cd (inl h) = (
    (λ e. h.0, λ x. h.1),
    (λ e. absurd (omega (arith, h.1)), λ x. absurd (ab h.0 x)),
    (λ e. absurd (omega (arith, h.1)), λ x. absurd (ac h.0 x)),
    (λ e. absurd (omega (arith, h.1)), λ x. absurd (ad h.0 x)),
  )
  judged ab ac ad bc bd cd (inr (inl h)) = (
    (λ e. absurd (omega (arith, h.1)), λ x. absurd (ab x h.0)),
    (λ e. h.0, λ x. h.1),
    (λ e. absurd (omega (arith, h.1)), λ x. absurd (bc h.0 x)),
    (λ e. absurd (omega (arith, h.1)), λ x. absurd (bd h.0 x)),
  )
  judged ab ac ad bc bd cd (inr (inr (inl h))) = (
    (λ e. absurd (omega (arith, h.1)), λ x. absurd (ac x h.0)),
    (λ e. absurd (omega (arith, h.1)), λ x. absurd (bc x h.0)),
    (λ e. h.0, λ x. h.1),
    (λ e. absurd (omega (arith, h.1)), λ x. absurd (cd h.0 x)),
  )
  judged ab ac ad bc bd cd (inr (inr (inr h))) = (
    (λ e. absurd (omega (arith, h.1)), λ x. absurd (ad x h.0)),
    (λ e. absurd (omega (arith, h.1)), λ x. absurd (bd x h.0)),
    (λ e. absurd (omega (arith, h.1)), λ x. absurd (cd x h.0)),
    (λ e. h.0, λ x. h.1),
  )

-- the four, each with its verdict
abbrev OneOf : ℕ → Type 0 → Type 0 → Type 0 → Type 0 → Type 0
OneOf v A B C D = (A × (v ≡ 0)) ⊎ ((B × (v ≡ invalid_field)) ⊎ ((C × (v ≡ command_id_conflict)) ⊎ (D × (v ≡ missing_fused))))

-- ---- one command, the entry e, taken alone from queue id

module _ (c : Controller) (id : ℕ) (e : Submission) where
  abbrev Used : Type 0
  Used = InUse c id e.cid

  abbrev Fine : Type 0
  Fine = (e.fuse ≡ 0) × (e.psdt ≡ 0) × (Used → ⊥)

  abbrev Invalid : Type 0
  Invalid = ((id ≡ 0) × (e.fuse ≡ 0 → ⊥)) ⊎ ((e.fuse ≡ 3) ⊎ ((e.fuse ≡ 0) × (e.psdt ≡ 0 → ⊥)))

  abbrev Conflict : Type 0
  Conflict = (e.fuse ≡ 0) × (e.psdt ≡ 0) × Used

  abbrev Missing : Type 0
  Missing = (id ≡ 0 → ⊥) × ((e.fuse ≡ 1) ⊎ (e.fuse ≡ 2))

  abbrev pub OneJudged : ℕ → Type 0
  OneJudged v = Judged v Fine Invalid Conflict Missing

  abbrev one_reasons : Reasons
  one_reasons =
      ((id ≡ 0) × (e.fuse ≡ 0 → ⊥), invalid_field)
      ∷ (e.fuse ≡ 3, invalid_field)
      ∷ (e.fuse ≡ 2, missing_fused)
      ∷ (e.fuse ≡ 1, missing_fused)
      ∷ ((e.psdt ≡ 0 → ⊥), invalid_field)
      ∷ (Used, command_id_conflict)
      ∷ []

  one_decided : Decided one_reasons (verdict_one id e (used c id e))
  unfolding verdict_one
  one_decided =
      decided (one_rules id e (used c id e)) one_reasons (
        refl,
        says_and (says_eq id 0) (says_not (says_eq e.fuse 0)),
        λ a. (
          refl,
          says_eq e.fuse 3,
          λ b. (
            refl,
            says_eq e.fuse 2,
            λ d. (refl, says_eq e.fuse 1, λ f. (refl, says_not (says_eq e.psdt 0), λ g. (refl, in_use_lem c id e.cid, λ h. tt))),
          ),
        ),
      )

  pub one_verdict : e.fuse < 4 → OneJudged (verdict_one id e (used c id e))
  one_verdict l =
      judged (λ x. ⊎_elim (λ y. y.1 x.0) (λ y. ⊎_elim (λ z. omega (arith, x.0, z)) (λ z. z.1 x.1) y))
      (λ x y. x.2 y.2)
      (λ x y. half y x.0)
      (λ x y. ⊎_elim (λ z. z.1 y.0) (λ z. ⊎_elim (λ u. omega (arith, y.0, u)) (λ u. u.1 y.1) z) x)
      (λ x y. ⊎_elim (λ z. y.0 z.0) (λ z. ⊎_elim (three y) (λ u. half y u.0) z) x)
      (λ x y. half y x.0)
      (sort one_decided)
    where
      half : Missing → e.fuse ≡ 0 → ⊥
      half y z = ⊎_elim (λ u. omega (arith, u, z)) (λ u. omega (arith, u, z)) y.1

      three : Missing → e.fuse ≡ 3 → ⊥
      three y z = ⊎_elim (λ u. omega (arith, u, z)) (λ u. omega (arith, u, z)) y.1

      prps : ((e.psdt ≡ 0 → ⊥) → ⊥) → e.psdt ≡ 0
      prps = says_sure (says_eq e.psdt 0)

      sort : {v : ℕ} → Decided one_reasons v → OneOf v Fine Invalid Conflict Missing
      sort (inl p) = inr (inl (inl p.0, p.1))
      sort (inr (a, inl p)) = inr (inl (inr (inl p.0), p.1))
      sort (inr (a, inr (b, inl p))) = inr (inr (inr ((λ z. a (z, λ y. omega (arith, y, p.0)), inr p.0), p.1)))
      sort (inr (a, inr (b, inr (d, inl p)))) = inr (inr (inr ((λ z. a (z, λ y. omega (arith, y, p.0)), inl p.0), p.1)))
      sort (inr (a, inr (b, inr (d, inr (f, inl p))))) = inr (inl (inr (inr (omega (arith, l, b, d, f), p.0)), p.1))
      sort (inr (a, inr (b, inr (d, inr (f, inr (g, inl p)))))) = inr (inr (inl ((omega (arith, l, b, d, f), prps g, p.0), p.1)))
      sort (inr (a, inr (b, inr (d, inr (f, inr (g, inr (h, z))))))) = inl ((omega (arith, l, b, d, f), prps g, h), z)

-- ---- a pair, the entries a and b, taken from queue id

-- Compare and Write of the same blocks, both with PRPs
pub record Fits (a b : Submission) : Type 0 where
  pub compare : a.opc ≡ 0x05
  pub write : b.opc ≡ 0x01
  pub nsid : a.nsid ≡ b.nsid
  pub slba : a.slba ≡ b.slba
  pub nlb : a.nlb ≡ b.nlb
  pub first_prps : a.psdt ≡ 0
  pub second_prps : b.psdt ≡ 0

module _ (c : Controller) (id : ℕ) (a b : Submission) where
  abbrev Clash : Type 0
  Clash = InUse c id a.cid ⊎ (InUse c id b.cid ⊎ (a.cid ≡ b.cid))

  abbrev pub PairJudged : ℕ → Type 0
  PairJudged v = Judged v (Fits a b × (Clash → ⊥)) (Fits a b → ⊥) (Fits a b × Clash) ⊥

  abbrev pair_reasons : Reasons
  pair_reasons =
      (((a.opc ≡ 0x05) × (b.opc ≡ 0x01) → ⊥), invalid_field)
      ∷ (((a.nsid ≡ b.nsid) × ((a.slba ≡ b.slba) × (a.nlb ≡ b.nlb)) → ⊥), invalid_field)
      ∷ (((a.psdt ≡ 0) × (b.psdt ≡ 0) → ⊥), invalid_field)
      ∷ (Clash, command_id_conflict)
      ∷ []

  abbrev v : ℕ
  v = verdict_pair a b (used c id a) (used c id b)

  opcodes : Says (eqb a.opc 0x05 && eqb b.opc 0x01) ((a.opc ≡ 0x05) × (b.opc ≡ 0x01))
  opcodes = says_and (says_eq a.opc 0x05) (says_eq b.opc 0x01)

  blocks : Says (eqb a.nsid b.nsid && (eqb a.slba b.slba && eqb a.nlb b.nlb))
      ((a.nsid ≡ b.nsid) × ((a.slba ≡ b.slba) × (a.nlb ≡ b.nlb)))
  blocks = says_and (says_eq a.nsid b.nsid) (says_and (says_eq a.slba b.slba) (says_eq a.nlb b.nlb))

  prps : Says (eqb a.psdt 0 && eqb b.psdt 0) ((a.psdt ≡ 0) × (b.psdt ≡ 0))
  prps = says_and (says_eq a.psdt 0) (says_eq b.psdt 0)

  pair_decided : Decided pair_reasons v
  unfolding verdict_pair
  pair_decided =
      decided (pair_rules a b (used c id a) (used c id b)) pair_reasons (
        refl,
        says_not opcodes,
        λ x. (
          refl,
          says_not blocks,
          λ y. (
            refl,
            says_not prps,
            λ z.
                (refl, says_or (in_use_lem c id a.cid) (says_or (in_use_lem c id b.cid) (says_eq a.cid b.cid)), λ w. tt),
          ),
        ),
      )

  pub pair_verdict : PairJudged v
  pair_verdict =
      judged (λ x y. y x.0) (λ x y. x.1 y.1) (λ x y. y) (λ x y. x y.0) (λ x y. y) (λ x y. y) (sort pair_decided)
    where
      fits : (((a.opc ≡ 0x05) × (b.opc ≡ 0x01) → ⊥) → ⊥)
          → (((a.nsid ≡ b.nsid) × ((a.slba ≡ b.slba) × (a.nlb ≡ b.nlb)) → ⊥) → ⊥)
          → (((a.psdt ≡ 0) × (b.psdt ≡ 0) → ⊥) → ⊥)
          → Fits a b
      fits x y z =
          let o = says_sure opcodes x in
          let k = says_sure blocks y in
          let p = says_sure prps z in
          record {
            compare = o.0;
            write = o.1;
            nsid = k.0;
            slba = k.1.0;
            nlb = k.1.1;
            first_prps = p.0;
            second_prps = p.1;
          }

      sort : {n : ℕ} → Decided pair_reasons n → OneOf n (Fits a b × (Clash → ⊥)) (Fits a b → ⊥) (Fits a b × Clash) ⊥
      sort (inl p) = inr (inl (λ f. p.0 (f.compare, f.write), p.1))
      sort (inr (x, inl p)) = inr (inl (λ f. p.0 (f.nsid, (f.slba, f.nlb)), p.1))
      sort (inr (x, inr (y, inl p))) = inr (inl (λ f. p.0 (f.first_prps, f.second_prps), p.1))
      sort (inr (x, inr (y, inr (z, inl p)))) = inr (inr (inl ((fits x y z, p.0), p.1)))
      sort (inr (x, inr (y, inr (z, inr (w, e))))) = inl ((fits x y z, w), e)

-- ---- as it is answered

-- the entry that a start takes has two bits of FUSE
fuse_low : (m : Memory) (r : Ring) (p : ℕ) → (entry_at m r p).fuse < 4
unfolding entry_at submission_at
fuse_low m r p = mod-lt _ (lit< tt)

-- the verdict in the answer of a start: of one command, which is no pair, or of a pair
module _ (c : Controller) (m : Memory) where
  abbrev pub AsJudged : StartAnswer → Type 0
  AsJudged s =
      let r = (sq_at c s.sq).ring in
      let e = head_entry c m s.sq in
      ((s.count ≡ 1) × (Pair s.sq r m → ⊥) × OneJudged c s.sq e s.verdict)
      ⊎ ((s.count ≡ 2) × Pair s.sq r m × PairJudged c s.sq e (next_entry c m s.sq) s.verdict)

pub verdict_answered : {c : Controller} → Reachable c → (m : Memory) {s : StartAnswer}
    → (perform c m start).answer ≡ started s → AsJudged c m s
unfolding one_taken pair_taken
verdict_answered {c} r m e =
    of_start c m (λ s d. AsJudged c m s)
    (λ id a t left s p w. let k = (sq_at c id).ring in
    inl (refl, (is_pair_lem id k m).no p, one_verdict c id (head_entry c m id) (fuse_low m k k.head)))
    (λ id a t u left s p w.
    inr (refl, (is_pair_lem id (sq_at c id).ring m).yes p, pair_verdict c id (head_entry c m id) (next_entry c m id))) (valid r).free_64 e
