use native.Mathlib.Omega.{arith}
use Prim.Native.Nat.{◌*◌}
use Rattle.steps.proofs.RangeLaws.{free_of-le}
use Rattle.steps.proofs.place.first_free.Goals as goal

pub overflow_add-result : goal.overflow_add-result
overflow_add-result c =
    let r = c.args.r in
    omega (arith, c.free_slot.ensures, free_of-le r.core.order c.args.j (4 * r.core.w), r.ranges.narrow)
