-- The submission entry, its writer and its reader.
use Rattle.std.specs.Prelude.{ℕ, ◌+◌, ◌*◌, ◌/◌, ◌%◌, List, [], ◌∷◌, ◌++◌, ltb, length, Result, Ok, Err}
use Rattle.rules.specs.Rules.{first_match, settle}
use Rattle.le.specs.Le.{le, le_at}
use Rattle.le.specs.Memory.{put}
use Rattle.entry.specs.declared.submission.Submission.{Submission}

-- "byte 1 bits 1:0 FUSE, bits 7:6 PSDT", both "taken modulo 4"
abbrev pub flags : Submission → ℕ
flags e = e.fuse % 4 + 64 * (e.psdt % 4)

-- "byte 0 OPC; byte 1 ..; bytes 2 to 3 CID; 4 to 7 NSID; 16 to 23 MPTR; 24 to 31 PRP1; 32 to 39 PRP2; 40 to 47 SLBA; 48 to 49 NLB
-- ..; 50 to 63 the rest of CDW12 to CDW15. The writer puts 0 in bytes 8 to 15"
unfoldable pub submission_bytes : Submission → List ℕ
submission_bytes e =
    le 1 e.opc ++ le 1 (flags e) ++ le 2 e.cid ++ le 4 e.nsid ++ le 8 0
    ++ le 8 e.mptr ++ le 8 e.prp1 ++ le 8 e.prp2 ++ le 8 e.slba
    ++ le 2 e.nlb ++ le 2 e.cdw12_upper ++ le 4 e.cdw13 ++ le 4 e.cdw14 ++ le 4 e.cdw15

-- the entry in the first 64 bytes of b
unfoldable pub submission_at : List ℕ → Submission
submission_at b =
    record {
      opc = le_at 1 b 0;
      fuse = le_at 1 b 1 % 4;
      psdt = le_at 1 b 1 / 64;
      cid = le_at 2 b 2;
      nsid = le_at 4 b 4;
      mptr = le_at 8 b 16;
      prp1 = le_at 8 b 24;
      prp2 = le_at 8 b 32;
      slba = le_at 8 b 40;
      nlb = le_at 2 b 48;
      cdw12_upper = le_at 2 b 50;
      cdw13 = le_at 4 b 52;
      cdw14 = le_at 4 b 56;
      cdw15 = le_at 4 b 60;
    }

-- the refusal of the writer on n bytes
unfoldable pub write_refusal : ℕ → ℕ
write_refusal n = first_match ((ltb n 64, 21) ∷ [])

-- the bytes that the writer leaves
unfoldable pub written : List ℕ → Submission → List ℕ
written b e = settle (write_refusal (length b)) (λ n. b) (put b 0 (submission_bytes e))

-- document 01's number and values for each answer of the reader: 0 and the fields, or the refusal number and zeros
abbrev pub no_submission : Submission
no_submission =
    record {
      opc = 0;
      fuse = 0;
      psdt = 0;
      cid = 0;
      nsid = 0;
      mptr = 0;
      prp1 = 0;
      prp2 = 0;
      slba = 0;
      nlb = 0;
      cdw12_upper = 0;
      cdw13 = 0;
      cdw14 = 0;
      cdw15 = 0;
    }

abbrev pub submission_answer : Result Submission ℕ → ℕ × Submission
submission_answer (Ok e) = (0, e)
submission_answer (Err n) = (n, no_submission)

-- the refusal of the reader on n bytes
abbrev pub read_refusal : ℕ → ℕ
read_refusal n = first_match ((ltb n 64, 21) ∷ [])

-- the reader's answer
unfoldable pub submission_read : List ℕ → Result Submission ℕ
submission_read b = settle (read_refusal (length b)) Err (Ok (submission_at b))
