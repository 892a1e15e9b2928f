-- The reader of a completion ring.
use Rattle.std.specs.Prelude.{ℕ, zero, suc, ◌*◌, ◌-◌, ◌%◌, List, [], ◌∷◌, ltb, leb, eqb, length, Result, Ok, Err}
use Rattle.rules.specs.Rules.{pick, Table, first_match, settle}
use Rattle.le.specs.Memory.{part}
use Rattle.entry.specs.Completion.{completion_at, phase_tag}
use Rattle.entry.specs.declared.completion.Completion.{Completion}
use Rattle.ring.specs.Slots.{wrong_size, next, phase_after}

-- the 16 bytes of slot p, and their phase tag
unfoldable pub slot_in : List ℕ → ℕ → List ℕ
slot_in ring p = part ring (16 * p) 16

unfoldable pub phase_in : List ℕ → ℕ → ℕ
phase_in ring p = phase_tag (slot_in ring p)

-- The reader "walks forward, the tag turning at the wrap, while the tag matches", at most n entries from slot p on, where it expects phase.
unfoldable pub read_count : ℕ → List ℕ → ℕ → ℕ → ℕ → ℕ
read_count zero ring size p phase = 0
read_count (suc n) ring size p phase =
    pick (eqb (phase_in ring p) phase) (suc (read_count n ring size (next size p) (phase_after size p phase))) 0

-- the completions in n slots from p on, "read by the entry reader"
unfoldable pub read_slots : ℕ → List ℕ → ℕ → ℕ → List Completion
read_slots zero ring size p = []
read_slots (suc n) ring size p = completion_at (slot_in ring p) ∷ read_slots n ring size (next size p)

-- the completions that the reader finds: "at most size - 1 entries"
unfoldable pub found : List ℕ → ℕ → ℕ → ℕ → List Completion
found ring size head phase = read_slots (read_count (size - 1) ring size head phase) ring size head

-- "reader 3, 5, 10": its refusals on n bytes
abbrev pub reader_rules : ℕ → ℕ → ℕ → Table
reader_rules n size head = (wrong_size size, 3) ∷ (ltb n (16 * size), 5) ∷ (leb size head, 10) ∷ []

unfoldable pub reader_refusal : ℕ → ℕ → ℕ → ℕ
reader_refusal n size head = first_match (reader_rules n size head)

-- document 01's number and values for each answer: 0 and the count, or the refusal number and 0
abbrev pub waiting_answer : Result ℕ ℕ → ℕ × ℕ
waiting_answer (Ok n) = (0, n)
waiting_answer (Err n) = (n, 0)

-- "It answers their number", the phase tag given being taken modulo 2
unfoldable pub ring_read : List ℕ → ℕ → ℕ → ℕ → Result ℕ ℕ
ring_read ring size head phase =
    settle (reader_refusal (length ring) size head) Err (Ok (read_count (size - 1) ring size head (phase % 2)))
