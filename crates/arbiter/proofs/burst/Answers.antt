-- `arbiter::burst` meets its contract. Assumes nothing.
use Prim.Native.Nat.{◌%◌}
use native.Mathlib.Omega.{arith}
use borrow.Author.Tests.{eq-eqb, ne_eqb}
use Rattle.bits.proofs.Bits.{shl_one}
use Rattle.arbiter.specs.Word.{burst_of}
use Rattle.arbiter.proofs.burst.Goals as goal

pub returns-then-exponent-eq7 : goal.returns-then-exponent-eq7
unfolding burst_of
returns-then-exponent-eq7 c =
    let e = eq-eqb _ _ c.if-exponent-eq7.true in
    record {
      value = simp e;
      unlimited = simp e;
    }

pub returns-else-exponent-eq7 : goal.returns-else-exponent-eq7
unfolding burst_of
returns-else-exponent-eq7 c =
    let e = ne_eqb _ _ c.if-exponent-eq7.false in
    record {
      value = simp (e, shl_one 32 (c.args.word % 8) (omega arith));
      unlimited = simp e;
    }
