use native.Mathlib.Omega.{arith}
use Rattle.frame.proofs.Numbers.{small-yet, one-summed, part-byte}
use Rattle.frame.proofs.number.number_at.Goals as goal

pub overflow_mul-x : goal.overflow_mul-x
overflow_mul-x c = omega (arith, small-yet _ _ _ c.loop-b.invariant)

pub loop-b-preserved : goal.loop-b-preserved
loop-b-preserved c =
    one-summed _ _ _ c.loop-b.invariant _ c.loop-b-test.true c.from.ensures
    (part-byte c.args.s.now _ _ _ c.loop-b-test.true _ c.from.ensures (λ i. omega (arith, c.type_inv.s i)))
