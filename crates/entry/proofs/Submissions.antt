-- A submission entry that was written is read back, and one that was read is written again. Assumes nothing.
use Rattle.std.specs.Prelude.{Ok}
use Prim.Native.Nat.{ℕ, ◌+◌, ◌*◌, ◌/◌, ◌%◌, ◌≤◌, ◌<◌, ◌^◌}
use mathlib.Core.Path.{◌≡◌, refl, sym, ap, ◌∙◌}
use mathlib.Core.Bool.{false}
use mathlib.Core.List.{List, ◌++◌}
use native.Mathlib.Omega.{arith}
use borrow.Author.Tests.{le-ltb}
use lib.Dec.{ltb}
use lib.ListN.{length, drop}
use Rattle.rules.specs.Rules.{settle}
use Rattle.le.specs.Le.{le, le_at}
use Rattle.le.specs.Memory.{part, put, Bytes}
use Rattle.le.proofs.Numbers.{le_at_field, le_at_lt, le_le_at}
use Rattle.le.proofs.Parts.{put_length, part_add}
use Rattle.entry.specs.Submission.{submission_bytes, submission_at, flags, write_refusal, written, submission_read}
use Rattle.entry.specs.declared.submission.Submission.{Submission}

-- each field within its bytes; FUSE and PSDT may be any number
pub record Within (e : Submission) : Type 0 where
  pub opc : e.opc < 2 ^ 8
  pub cid : e.cid < 2 ^ 16
  pub nsid : e.nsid < 2 ^ 32
  pub mptr : e.mptr < 2 ^ 64
  pub prp1 : e.prp1 < 2 ^ 64
  pub prp2 : e.prp2 < 2 ^ 64
  pub slba : e.slba < 2 ^ 64
  pub nlb : e.nlb < 2 ^ 16
  pub cdw12_upper : e.cdw12_upper < 2 ^ 16
  pub cdw13 : e.cdw13 < 2 ^ 32
  pub cdw14 : e.cdw14 < 2 ^ 32
  pub cdw15 : e.cdw15 < 2 ^ 32

-- the entry with FUSE and PSDT modulo 4
unfoldable pub reduced : Submission → Submission
reduced e =
    record {
      opc = e.opc;
      fuse = e.fuse % 4;
      psdt = e.psdt % 4;
      cid = e.cid;
      nsid = e.nsid;
      mptr = e.mptr;
      prp1 = e.prp1;
      prp2 = e.prp2;
      slba = e.slba;
      nlb = e.nlb;
      cdw12_upper = e.cdw12_upper;
      cdw13 = e.cdw13;
      cdw14 = e.cdw14;
      cdw15 = e.cdw15;
    }

pub submission_length : (e : Submission) → length (submission_bytes e) ≡ 64
unfolding submission_bytes le
submission_length e = refl

-- whatever follows the entry
module _ (e : Submission) (rest : List ℕ) (w : Within e) where
  abbrev bytes : List ℕ
  bytes = submission_bytes e ++ rest

  pub submission_back : submission_at bytes ≡ reduced e
  unfolding submission_bytes submission_at reduced le
  submission_back =
      let opc : le_at 1 bytes 0 ≡ e.opc = le_at_field 1 _ 0 bytes _ refl w.opc in
      let both : le_at 1 bytes 1 ≡ flags e = le_at_field 1 (flags e) 1 bytes _ refl (omega arith) in
      let fuse : le_at 1 bytes 1 % 4 ≡ e.fuse % 4 = omega arith in
      let psdt : le_at 1 bytes 1 / 64 ≡ e.psdt % 4 = omega arith in
      let cid : le_at 2 bytes 2 ≡ e.cid = le_at_field 2 _ 2 bytes _ refl w.cid in
      let nsid : le_at 4 bytes 4 ≡ e.nsid = le_at_field 4 _ 4 bytes _ refl w.nsid in
      let mptr : le_at 8 bytes 16 ≡ e.mptr = le_at_field 8 _ 16 bytes _ refl w.mptr in
      let prp1 : le_at 8 bytes 24 ≡ e.prp1 = le_at_field 8 _ 24 bytes _ refl w.prp1 in
      let prp2 : le_at 8 bytes 32 ≡ e.prp2 = le_at_field 8 _ 32 bytes _ refl w.prp2 in
      let slba : le_at 8 bytes 40 ≡ e.slba = le_at_field 8 _ 40 bytes _ refl w.slba in
      let nlb : le_at 2 bytes 48 ≡ e.nlb = le_at_field 2 _ 48 bytes _ refl w.nlb in
      let cdw12_upper : le_at 2 bytes 50 ≡ e.cdw12_upper = le_at_field 2 _ 50 bytes _ refl w.cdw12_upper in
      let cdw13 : le_at 4 bytes 52 ≡ e.cdw13 = le_at_field 4 _ 52 bytes _ refl w.cdw13 in
      let cdw14 : le_at 4 bytes 56 ≡ e.cdw14 = le_at_field 4 _ 56 bytes _ refl w.cdw14 in
      let cdw15 : le_at 4 bytes 60 ≡ e.cdw15 = le_at_field 4 _ 60 bytes rest refl w.cdw15 in
      rw (fuse, psdt, opc, cid, nsid, mptr, prp1, prp2, slba, nlb, cdw12_upper, cdw13, cdw14, cdw15)

-- the reader finds what the writer wrote
pub submission_read_lem : (b : List ℕ) (e : Submission) → Within e → 64 ≤ length b → submission_read (written b e) ≡ Ok (reduced e)
unfolding submission_read written write_refusal settle put
submission_read_lem b e w h =
    let room : ltb (length b) 64 ≡ false = le-ltb (length b) 64 h in
    let fits : 0 + length (submission_bytes e) ≤ length b = omega (arith, submission_length e) in
    let long : ltb (length (put b 0 (submission_bytes e))) 64 ≡ false = le-ltb (length (put b 0 (submission_bytes e))) 64
    (omega (arith, put_length b 0 (submission_bytes e) fits)) in
    rw (room, long, submission_back e (drop (0 + length (submission_bytes e)) b) w)

-- an entry whose reserved bits are 0 is written again as it was read
module _ (b : List ℕ) (y : Bytes b) (h : 64 ≤ length b) (z : le_at 8 b 8 ≡ 0) (r : le_at 1 b 1 / 4 % 16 ≡ 0) where
  again : (k i : ℕ) → i + k ≤ length b → le k (le_at k b i) ≡ part b i k
  again k i f = le_le_at k b i y f

  pub submission_again : submission_bytes (submission_at b) ≡ part b 0 64
  unfolding submission_bytes submission_at
  submission_again =
      let zeros : le 8 0 ≡ part b 8 8 = ap (le 8) (sym z) ∙ again 8 8 (omega arith) in
      let whole : le_at 1 b 1 % 4 % 4 + 64 * (le_at 1 b 1 / 64 % 4) ≡ le_at 1 b 1 = omega (arith, le_at_lt 1 b 1 y) in
      rw (
        whole,
        zeros,
        again 1 0 (omega arith),
        again 1 1 (omega arith),
        again 2 2 (omega arith),
        again 4 4 (omega arith),
        again 8 16
            (omega arith),
        again 8 24 (omega arith),
        again 8 32 (omega arith),
        again 8 40 (omega arith),
        again 2 48 (omega arith),
        again 2 50
            (omega arith),
        again 4 52 (omega arith),
        again 4 56 (omega arith),
        again 4 60 (omega arith),
      )
      (rw (
        part_add b 0 1 1,
        part_add b 0 2 2,
        part_add b 0 4 4,
        part_add b 0 8 8,
        part_add b 0 16 8,
        part_add b 0 24 8,
        part_add b 0 32 8,
        part_add b 0 40 8,
        part_add b 0 48 2,
        part_add b 0 50 2,
        part_add b 0 52 4,
        part_add b 0 56 4,
        part_add b 0 60 4,
      ))
