-- `put_wrong` meets its contract. Assumes nothing.
use Rattle.std.proofs.Common.{refl}
use Rattle.print.specs.Text.{bytes}
use Rattle.print.proofs.Puts.{put_then, put_as, room_first, room_then}
use Rattle.refusals.specs.Named.{pair}
use Rattle.le.specs.Le.{le_at}
use Rattle.transcript.specs.Record.{call_name}
use Rattle.transcript.proofs.Wording.{room_as, wrong_said}
use Rattle.transcript.proofs.record.put_wrong.Goals as goal

pub put_name-to-requires : goal.put_name-to-requires
put_name-to-requires c =
    let b = c.args.bytes.now in
    let i = c.wrong_byte-i.result in
    let w = wrong_said b c.get-call.ensures.0 c.wrong_byte-i.ensures.0 refl in
    room_first (call_name c.get-call.result) (pair (bytes "byte") i (bytes " is") (le_at 1 b i)) _ _ (room_as w _ _ c.requires.1)

pub put_pair-requires : goal.put_pair-requires
put_pair-requires c =
    let w = wrong_said c.args.bytes.now c.get-call.ensures.0 c.wrong_byte-i.ensures.0 c.get.ensures.0 in
    room_then (pair (bytes "byte") c.wrong_byte-i.result (bytes
    " is") c.get.result) c.put_name-to.ensures (room_as w _ _ c.requires.1)

pub returns : goal.returns
returns c =
    let w = wrong_said c.args.bytes.now c.get-call.ensures.0 c.wrong_byte-i.ensures.0 c.get.ensures.0 in
    put_as (put_then c.put_name-to.ensures c.put_pair.ensures) w
