-- A completion entry that was written is read back, and one that was read is written again. Assumes nothing.
use Rattle.std.specs.Prelude.{Ok}
use Prim.Native.Nat.{ℕ, ◌+◌, ◌*◌, ◌/◌, ◌%◌, ◌≤◌, ◌<◌, ◌^◌}
use mathlib.Core.Path.{◌≡◌, refl, sym, ap, ◌∙◌}
use mathlib.Core.Bool.{false}
use mathlib.Core.List.{List, ◌++◌}
use native.Mathlib.Omega.{arith}
use borrow.Author.Tests.{le-ltb}
use lib.Dec.{ltb}
use lib.ListN.{length, drop}
use Rattle.rules.specs.Rules.{settle}
use Rattle.le.specs.Le.{le, le_at}
use Rattle.le.specs.Memory.{part, put, Bytes}
use Rattle.le.proofs.Numbers.{le_at_field, le_le_at}
use Rattle.le.proofs.Parts.{put_length, part_add}
use Rattle.entry.specs.Completion.{completion_bytes, completion_at, phase_tag, write_refusal, written, completion_read}
use Rattle.entry.specs.declared.completion.Completion.{Completion}

-- each field within its bytes
pub record Within (e : Completion) : Type 0 where
  pub result : e.result < 2 ^ 32
  pub sqhd : e.sqhd < 2 ^ 16
  pub sqid : e.sqid < 2 ^ 16
  pub cid : e.cid < 2 ^ 16
  pub status : e.status ≤ 32767

pub completion_length : (e : Completion) (phase : ℕ) → length (completion_bytes e phase) ≡ 16
unfolding completion_bytes le
completion_length e phase = refl

module _ (e : Completion) (phase : ℕ) (rest : List ℕ) (w : Within e) where
  abbrev bytes : List ℕ
  bytes = completion_bytes e phase ++ rest

  last : le_at 2 bytes 14 ≡ 2 * e.status + phase % 2
  unfolding completion_bytes le
  last = le_at_field 2 _ 14 bytes rest refl (omega (arith, w.status))

  -- whatever follows the entry
  pub completion_back : completion_at bytes ≡ e
  unfolding completion_bytes completion_at le
  completion_back =
      let result : le_at 4 bytes 0 ≡ e.result = le_at_field 4 _ 0 bytes _ refl w.result in
      let sqhd : le_at 2 bytes 8 ≡ e.sqhd = le_at_field 2 _ 8 bytes _ refl w.sqhd in
      let sqid : le_at 2 bytes 10 ≡ e.sqid = le_at_field 2 _ 10 bytes _ refl w.sqid in
      let cid : le_at 2 bytes 12 ≡ e.cid = le_at_field 2 _ 12 bytes _ refl w.cid in
      let status : le_at 2 bytes 14 / 2 ≡ e.status = omega (arith, last) in
      rw (result, sqhd, sqid, cid, status)

  pub phase_back : phase_tag bytes ≡ phase % 2
  unfolding phase_tag
  phase_back = omega (arith, last)

-- the reader finds what the writer wrote
pub completion_read_lem : (b : List ℕ) (e : Completion) (phase : ℕ) → Within e → 16 ≤ length b
    → completion_read (written b e phase) ≡ Ok (e, (phase % 2))
unfolding completion_read written write_refusal settle put
completion_read_lem b e phase w h =
    let small : ltb 32767 e.status ≡ false = le-ltb 32767 e.status w.status in
    let room : ltb (length b) 16 ≡ false = le-ltb (length b) 16 h in
    let fits : 0 + length (completion_bytes e phase) ≤ length b = omega (arith, completion_length e phase) in
    let long : ltb (length (put b 0 (completion_bytes e phase))) 16 ≡ false = le-ltb (length (put b 0 (completion_bytes e phase))) 16
    (omega (arith, put_length b 0 (completion_bytes e phase) fits)) in
    rw (
      small,
      room,
      long,
      completion_back e phase (drop (0 + length (completion_bytes e phase)) b) w,
      phase_back e phase
          (drop (0 + length (completion_bytes e phase)) b) w,
    )

-- an entry whose reserved bytes are 0 is written again as it was read
pub completion_again :
    (b : List ℕ) → Bytes b → 16 ≤ length b → le_at 4 b 4 ≡ 0
    → completion_bytes (completion_at b) (phase_tag b) ≡ part b 0 16
unfolding completion_bytes completion_at phase_tag
completion_again b y h z =
    let zeros : le 4 0 ≡ part b 4 4 = ap (le 4) (sym z) ∙ le_le_at 4 b 4 y (omega arith) in
    let whole : 2 * (le_at 2 b 14 / 2) + le_at 2 b 14 % 2 % 2 ≡ le_at 2 b 14 = omega arith in
    rw (
      whole,
      zeros,
      le_le_at 4 b 0 y (omega arith),
      le_le_at 2 b 8 y (omega arith),
      le_le_at 2 b 10 y (omega arith),
      le_le_at 2 b 12 y
          (omega arith),
      le_le_at 2 b 14 y
          (omega arith),
      part_add b 0 4 4,
      part_add b 0 8 2,
      part_add b 0 10 2,
      part_add b 0 12 2,
      part_add b 0 14 2,
    )
