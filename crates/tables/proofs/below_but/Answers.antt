use Prim.Native.Nat.{◌+◌, ◌≤◌}
use native.Mathlib.Omega.{arith}
use borrow.Author.Tests.{eq-eqb, ne_eqb, le-leb}
use Rattle.rules.specs.Maps.{at}
use Rattle.tables.proofs.EveryLaws.{every_more}
use Rattle.tables.proofs.below_but.Invariants.{kept}
use Rattle.tables.proofs.below_but.Goals as goal
use Rattle.tables.proofs.below_but.Goals.{else-k-j-via-then-k-j+else-at, else-k-j-via-else-k-j}

pub loop-k-preserved : goal.loop-k-preserved
loop-k-preserved c =
    let s = c.args in
    let k = c.loop-k.k in
    every_more (kept s.j s.a.now s.limits.now) s.n k c.loop-k-test.true
    (elim c.else-k-j.branch [
      | else-k-j-via-then-k-j+else-at w ↦
          let most : at s.a.now (k + 1) ≤ at s.limits.now (k + 1) = omega arith in
          rw (ne_eqb (k + 1) s.j w.if-k-j.true) (le-leb _ _ most)
      | else-k-j-via-else-k-j w ↦ rw (eq-eqb (k + 1) s.j w.if-k-j.false)
    ]) c.loop-k.invariant
