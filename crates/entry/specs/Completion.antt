-- The completion entry, its writer and its reader.
use Rattle.std.specs.Prelude.{ℕ, ◌+◌, ◌*◌, ◌/◌, ◌%◌, List, [], ◌∷◌, ◌++◌, ltb, length, Result, Ok, Err}
use Rattle.rules.specs.Rules.{first_match, settle}
use Rattle.le.specs.Le.{le, le_at}
use Rattle.le.specs.Memory.{put}
use Rattle.entry.specs.declared.completion.Completion.{Completion}

abbrev pub completion : ℕ → ℕ → ℕ → ℕ → ℕ → Completion
completion result sqhd sqid cid status = record { result = result; sqhd = sqhd; sqid = sqid; cid = cid; status = status }

-- "0 to 3 the command's result; 4 to 7 zero; 8 to 9 SQHD; 10 to 11 SQ id; 12 to 13 CID; 14 to 15 twice the 15-bit status plus the
-- phase tag", a tag being "taken .. modulo 2"
unfoldable pub completion_bytes : Completion → ℕ → List ℕ
completion_bytes e phase =
    le 4 e.result ++ le 4 0 ++ le 2 e.sqhd ++ le 2 e.sqid ++ le 2 e.cid ++ le 2 (2 * e.status + phase % 2)

-- the completion in the first 16 bytes of b, and its phase tag
unfoldable pub completion_at : List ℕ → Completion
completion_at b = completion (le_at 4 b 0) (le_at 2 b 8) (le_at 2 b 10) (le_at 2 b 12) (le_at 2 b 14 / 2)

unfoldable pub phase_tag : List ℕ → ℕ
phase_tag b = le_at 2 b 14 % 2

-- the writer's refusals on n bytes, in order
unfoldable pub write_refusal : ℕ → ℕ → ℕ
write_refusal n status = first_match ((ltb 32767 status, 15) ∷ (ltb n 16, 21) ∷ [])

-- the bytes that the writer leaves
unfoldable pub written : List ℕ → Completion → ℕ → List ℕ
written b e phase = settle (write_refusal (length b) e.status) (λ n. b) (put b 0 (completion_bytes e phase))

-- document 01's number and values for each answer of the reader: 0, the fields and the phase tag, or the refusal number and zeros
abbrev pub completion_answer : Result (Completion × ℕ) ℕ → ℕ × Completion × ℕ
completion_answer (Ok (e, phase)) = (0, e, phase)
completion_answer (Err n) = (n, completion 0 0 0 0 0, 0)

-- the refusal of the reader on n bytes
abbrev pub read_refusal : ℕ → ℕ
read_refusal n = first_match ((ltb n 16, 21) ∷ [])

-- the reader's answer
unfoldable pub completion_read : List ℕ → Result (Completion × ℕ) ℕ
completion_read b = settle (read_refusal (length b)) Err (Ok (completion_at b, phase_tag b))
