use Prim.Native.Nat.{◌+◌, ◌≤◌}
use native.Mathlib.Omega.{arith}
use borrow.Author.Tests.{lt-ltb}
use Rattle.rules.specs.Maps.{at}
use Rattle.tables.proofs.EveryLaws.{every_more}
use Rattle.tables.proofs.RowLaws.{at_next}
use Rattle.tables.proofs.none_zero.Invariants.{positive}
use Rattle.tables.proofs.none_zero.Goals as goal

pub loop-k-preserved : goal.loop-k-preserved
loop-k-preserved c =
    let s = c.args in
    let more : 1 ≤ at s.a.now (c.loop-k.k + 1) = omega (arith, at_next s.a.now c.loop-k.k) in
    every_more (positive s.a.now) s.n c.loop-k.k c.loop-k-test.true (lt-ltb _ _ more) c.loop-k.invariant
