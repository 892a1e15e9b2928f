-- `put_sentence` meets its contract. Assumes nothing.
use mathlib.Core.List.{◌++◌}
use native.Mathlib.Omega.{arith}
use lib.ListN.{length}
use Rattle.print.specs.Text.{numbers, hex_word, line_end}
use Rattle.print.proofs.Puts.{put_then, room_first, room_then}
use Rattle.stateless.proofs.speak.put_sentence.Goals as goal

pub put-first-requires : goal.put-first-requires
put-first-requires c =
    let a = c.args in
    room_first a.word.now (numbers a.numbers.now ++ (hex_word a.bytes.now ++ line_end)) 0 (length a.out.now) (omega (arith, c.requires))

pub put_numbers-second-requires : goal.put_numbers-second-requires
put_numbers-second-requires c =
    let a = c.args in
    let j = room_then (numbers a.numbers.now ++ (hex_word a.bytes.now ++ line_end)) c.put-first.ensures
    (omega (arith, c.requires)) in
    room_first (numbers a.numbers.now) (hex_word a.bytes.now ++ line_end) _ _ j

pub put_hex_word-third-requires : goal.put_hex_word-third-requires
put_hex_word-third-requires c =
    let a = c.args in
    let j = room_then (numbers a.numbers.now ++ (hex_word a.bytes.now ++ line_end)) c.put-first.ensures (omega (
      arith,
      c.requires,
    )) in
    let k = room_then (hex_word a.bytes.now ++ line_end) c.put_numbers-second.ensures j in
    room_first (hex_word a.bytes.now) line_end _ _ k

pub put_end-requires : goal.put_end-requires
put_end-requires c =
    let a = c.args in
    let j = room_then (numbers a.numbers.now ++ (hex_word a.bytes.now ++ line_end)) c.put-first.ensures (omega (
      arith,
      c.requires,
    )) in
    let k = room_then (hex_word a.bytes.now ++ line_end) c.put_numbers-second.ensures j in
    room_then line_end c.put_hex_word-third.ensures k

pub returns : goal.returns
returns c =
    put_then c.put-first.ensures (put_then c.put_numbers-second.ensures
    (put_then c.put_hex_word-third.ensures c.put_end.ensures))
