-- The answers of the readers and of the page walk as the rig has them: document 01's numbers and values in one record.
use Rattle.std.specs.Prelude.{ℕ, Result}
use Rattle.entry.specs.Submission.{submission_answer}
use Rattle.entry.specs.declared.submission.Submission.{Submission}
use Rattle.entry.specs.Completion.{completion_answer}
use Rattle.entry.specs.declared.completion.Completion.{Completion}
use Rattle.ring.specs.Reader.{waiting_answer}
use Rattle.prp.specs.Answer.{refusal_of, pages_of, reads_of}
use Rattle.prp.specs.declared.Walked.{Walked}
use Rattle.rig.specs.declared.SubmissionNumbers.{SubmissionNumbers}
use Rattle.rig.specs.declared.CompletionNumbers.{CompletionNumbers}
use Rattle.rig.specs.declared.WaitingNumbers.{WaitingNumbers}
use Rattle.rig.specs.declared.PagesNumbers.{PagesNumbers}

-- an entry of these fields
abbrev pub submission_of : (opc fuse psdt cid nsid mptr prp1 prp2 slba nlb cdw12_upper cdw13 cdw14 cdw15 : ℕ) → Submission
submission_of opc fuse psdt cid nsid mptr prp1 prp2 slba nlb cdw12_upper cdw13 cdw14 cdw15 =
    record {
      opc = opc;
      fuse = fuse;
      psdt = psdt;
      cid = cid;
      nsid = nsid;
      mptr = mptr;
      prp1 = prp1;
      prp2 = prp2;
      slba = slba;
      nlb = nlb;
      cdw12_upper = cdw12_upper;
      cdw13 = cdw13;
      cdw14 = cdw14;
      cdw15 = cdw15;
    }

-- the fields of an entry beside a refusal number
abbrev pub fields_of : ℕ → Submission → SubmissionNumbers
fields_of n e =
    record {
      refusal = n;
      fuse = e.fuse;
      psdt = e.psdt;
      mptr = e.mptr;
      prp1 = e.prp1;
      prp2 = e.prp2;
      slba = e.slba;
      nsid = e.nsid;
      cdw13 = e.cdw13;
      cdw14 = e.cdw14;
      cdw15 = e.cdw15;
      cid = e.cid;
      nlb = e.nlb;
      cdw12_upper = e.cdw12_upper;
      opc = e.opc;
    }

abbrev pub submission_numbers : Result Submission ℕ → SubmissionNumbers
submission_numbers r = let a = submission_answer r in fields_of a.0 a.1

abbrev pub completion_numbers : Result (Completion × ℕ) ℕ → CompletionNumbers
completion_numbers r =
    let a = completion_answer r in
    let e = a.1 in
    record {
      refusal = a.0;
      result = e.result;
      sqhd = e.sqhd;
      sqid = e.sqid;
      cid = e.cid;
      status = e.status;
      phase = a.2;
    }

abbrev pub waiting_numbers : Result ℕ ℕ → WaitingNumbers
waiting_numbers r = let a = waiting_answer r in record { refusal = a.0; count = a.1 }

abbrev pub pages_numbers : Result Walked ℕ → PagesNumbers
pages_numbers w = record { refusal = refusal_of w; pages = pages_of w; reads = reads_of w }
