use mathlib.Core.Path.{◌∙◌}
use Prim.Native.Nat.{◌+◌, ◌%◌}
use native.Mathlib.Omega.{arith}
use borrow.Author.Tests.{eq-eqb, ne_eqb}
use Rattle.tables.specs.Rows.{with_column}
use Rattle.tables.proofs.FillLaws.{filled-set, filled-skip, filled-end}
use Rattle.tables.proofs.with_column.Invariants.{cell}
use Rattle.tables.proofs.with_column.Goals as goal
use Rattle.tables.proofs.with_column.Goals.{then-q-c, else-q-c}

pub loop-q-preserved : goal.loop-q-preserved
loop-q-preserved c =
    let s = c.args in
    let i = c.loop-q.q in
    let f = cell s.t s.j s.v.now in
    elim c.if-q-c.branch [
      | then-q-c w ↦ w.b-is ∙ filled-set s.t f i _ (omega arith) (rw (eq-eqb (i % 8 + 1) s.j w.if-q-c.true) w.get_or.ensures) c.loop-q.invariant
      | else-q-c w ↦ w.b-is ∙ filled-skip s.t f i (omega arith) (rw (ne_eqb (i % 8 + 1) s.j w.if-q-c.false)) c.loop-q.invariant
    ]

pub returns : goal.returns
unfolding with_column
returns c =
    let s = c.args in
    filled-end s.t (cell s.t s.j s.v.now) 64 c.loop-q.q (omega arith) (omega arith) c.loop-q.invariant
