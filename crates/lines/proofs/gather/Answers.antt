-- `gather` meets its contract. Assumes nothing.
use Rattle.std.proofs.Common.{◌≡◌, ℕ, ◌+◌, ◌-◌, ◌≤◌, length, take, drop, ap, arith}
use Rattle.print.proofs.Puts.{put_as}
use Rattle.parse.specs.Line.{before}
use Rattle.lines.specs.Sizes.{held_bytes}
use Rattle.lines.proofs.Gathers.{put_some, put_all}
use Rattle.lines.proofs.gather.Goals as goal
use Rattle.lines.proofs.gather.Goals.{Start}

pub returns-then-room-end : goal.returns-then-room-end
returns-then-room-end c =
    let f = c.find-end.ensures in
    let r = drop c.args.read c.args.chunk.now in
    let k : c.args.held ≤ length c.args.line.now = omega (arith, c.requires.2) in
    let i : held_bytes - c.args.held ≤ before 10 r = omega arith in
    let t : c.args.read + (held_bytes - c.args.held) - c.args.read ≡ held_bytes - c.args.held = omega arith in
    (f.0, f.1, put_some held_bytes _ r _ _ c.requires.1 k i (put_as c.put.ensures (ap (λ (n : ℕ). take n r) t)))

pub returns : goal.returns
returns c =
    let f = c.find-end in
    let r = drop c.args.read c.args.chunk.now in
    let k : c.args.held ≤ length c.args.line.now = omega (arith, c.requires.2) in
    let i : before 10 r ≤ held_bytes - c.args.held = omega arith in
    let t : f.result - c.args.read ≡ before 10 r = omega arith in
    let p = put_as c.put-2.ensures (ap (λ (n : ℕ). take n r) t) in
    (f.ensures.0, f.ensures.1, put_all held_bytes _ r _ _ c.requires.1 k i p)
